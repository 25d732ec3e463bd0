-- Places of a directory over pages of which one changes.
use Rattle.std.proofs.Common.{◌≡◌, ◌≢◌, ℕ, zero, suc, ◌+◌, ◌*◌, ◌/◌, ◌%◌, ◌≤◌, ◌<◌, Bool, true, false, not, ◌==◌, cond, List, [], ◌∷◌, length, take, drop, replicate, refl, sym, ap, subst, ◌∙◌, Option, Some, None, unwrap_or, is_some, IsSome, ◌⊎◌, inl, inr, arith, length-append}
use Rattle.std.proofs.lemmas.Bool.{and_parts, and_from, both_ways, cases_lt, lt-ltb, or_right}
use Rattle.std.proofs.lemmas.List.{get_or-set_same, get_or-set_other, get_or_past, length-set, length-replicate}
use Rattle.std.proofs.lemmas.List.Elements.{filter-append}
use Rattle.std.specs.Int.{div_ceil}
use Rattle.std.specs.Prelude.{slice_index}
use Rattle.nl_field.specs.Bytes.{all_zero, zeros}
use Rattle.nl_field.specs.EntryRecord.{entry_of, entry_fields}
use Rattle.nl_field.specs.Names.{is_name}
use Rattle.nl_field.specs.declared.inode.InodeRec.{InodeRec}
use Rattle.nl_meta.specs.Committed.{VirtualMap}
use Rattle.nl_meta.specs.Nodes.{address_of_place, bytes_of_place, slot_in}
use Rattle.nl_meta.specs.Pages.{Pages, above, below, besides_0, has_room, page_of, with_address}
use Rattle.nl_meta.specs.SlotLaws.{ChangesSlot, with_slot}
use Rattle.nl_meta.specs.Steps.{with_dirty}
use Rattle.nl_meta.proofs.Rising.{split}
use Rattle.nl_meta.proofs.SlotProofs.{one_slot}
use Rattle.nl_dir.specs.Changes.{ChangesPages, with_addresses}
use Rattle.nl_dir.specs.Directory.{HasPlaces, HasRoomForDirty}

-- ---- zeros

zero-take : (n : ℕ) (xs : List ℕ) → all_zero xs ≡ true → all_zero (take n xs) ≡ true
zero-take zero xs e = refl
zero-take (suc n) [] e = refl
zero-take (suc n) (x ∷ xs) e = let p = and_parts (x == 0) _ e in and_from (x == 0) _ p.0 (zero-take n xs p.1)

zero-drop : (n : ℕ) (xs : List ℕ) → all_zero xs ≡ true → all_zero (drop n xs) ≡ true
zero-drop zero xs e = e
zero-drop (suc n) [] e = refl
zero-drop (suc n) (x ∷ xs) e = zero-drop n xs (and_parts (x == 0) _ e).1

pub zeros-zero : (n : ℕ) → all_zero (zeros n) ≡ true
unfolding zeros
zeros-zero n = of n
  where
    of : (n : ℕ) → all_zero (replicate n 0) ≡ true
    of zero = refl
    of (suc n) = of n

pub zeros-length : (n : ℕ) → length (zeros n) ≡ n
unfolding zeros
zeros-length n = length-replicate n 0

pub slot-zero : (width i : ℕ) (bytes : List ℕ) → all_zero bytes ≡ true → all_zero (slot_in width i bytes) ≡ true
slot-zero width i bytes e = zero-take width (drop (width * i) bytes) (zero-drop (width * i) bytes e)

-- ---- a place and its page

-- what a place has, where its page is there
pub shown : (pages : VirtualMap) (rec : InodeRec) (i : ℕ) (main : List ℕ) → pages (address_of_place rec i) ≡ Some main → bytes_of_place pages rec i ≡ slot_in 64 (i % 64) main
unfolding bytes_of_place
shown pages rec i main is = ap (λ (o : Option (List ℕ)). slot_in 64 (i % 64) (unwrap_or o [])) is

-- the same page, at the same or another record
pub same-place : (old new : VirtualMap) (rec after : InodeRec) (i : ℕ) → address_of_place after i ≡ address_of_place rec i → new (address_of_place rec i) ≡ old (address_of_place rec i)
    → bytes_of_place new after i ≡ bytes_of_place old rec i
unfolding bytes_of_place
same-place old new rec after i e same = ap (λ (v : ℕ). slot_in 64 (i % 64) (unwrap_or (new v) [])) e ∙ ap (λ (o : Option (List ℕ)). slot_in 64 (i % 64) (unwrap_or o [])) same

pub spelled-there : (pages : VirtualMap) (rec : InodeRec) (i : ℕ) → IsSome (entry_of (bytes_of_place pages rec i)) → IsSome (pages (address_of_place rec i))
unfolding bytes_of_place entry_of entry_fields is_name
spelled-there pages rec i h = by (pages (address_of_place rec i)) h
  where
    nothing : (n : ℕ) → drop {A = ℕ} n [] ≡ []
    nothing zero = refl
    nothing (suc n) = refl

    unspelled : is_some (entry_of []) ≡ false
    unspelled = refl

    by : (o : Option (List ℕ)) → IsSome (entry_of (slot_in 64 (i % 64) (unwrap_or o []))) → IsSome o
    by None h = absurd (both_ways _ (ap (λ (l : List ℕ). is_some (entry_of (take 64 l))) (nothing (64 * (i % 64))) ∙ unspelled) h)
    by (Some main) h = refl

-- ---- places of one page

-- the first place of a row
pub head : (rec : InodeRec) (i : ℕ) → address_of_place rec (64 * (i / 64)) ≡ address_of_place rec i
head rec i = ap (slice_index rec.addresses) row
  where
    row : 64 * (i / 64) / 64 ≡ i / 64
    row = omega arith

pub head-below : (rec : InodeRec) (i : ℕ) → i < 64 * div_ceil rec.size 64 → 64 * (i / 64) < rec.size
head-below rec i h = omega (arith, h)

module _ (pages : VirtualMap) (rec : InodeRec) (has : HasPlaces pages rec) where
  pub one-row : (i j : ℕ) → i < 64 * div_ceil rec.size 64 → j < 64 * div_ceil rec.size 64 → address_of_place rec i ≡ address_of_place rec j → i / 64 ≡ j / 64
  one-row i j h g e =
      let r = has.one_use (64 * (i / 64)) (64 * (j / 64)) (head-below rec i h) (head-below rec j g) (head rec i ∙ e ∙ sym (head rec j)) in
      omega (arith, r)

  pub row-there : (i : ℕ) → i < 64 * div_ceil rec.size 64 → IsSome (pages (address_of_place rec i))
  row-there i h = subst (λ (v : ℕ). IsSome (pages v)) (head rec i) (has.there (64 * (i / 64)) (head-below rec i h))

  pub apart : (i k : ℕ) → i < 64 * div_ceil rec.size 64 → k < 64 * div_ceil rec.size 64 → k ≢ i → address_of_place rec k ≡ address_of_place rec i → k % 64 ≡ i % 64 → ⊥
  apart i k h g far e slot = let r = one-row k i g h e in far (omega (arith, r, slot))

-- ---- one page changes

pub below-length : (p : Pages) (v : ℕ) → IsSome (page_of p v) → v < length p.running
below-length p v h = by (cases_lt v (length p.running))
  where
    by : (v < length p.running) ⊎ (length p.running ≤ v) → v < length p.running
    by (inl k) = k
    by (inr k) = absurd (both_ways _ (ap is_some (get_or_past p.running v None k)) h)

pub page-at : (p : Pages) (v : ℕ) (bytes : List ℕ) → v < length p.running → page_of (with_dirty p v bytes) v ≡ Some bytes
page-at p v bytes h = get_or-set_same p.running v (Some bytes) None h

pub page-beside : (p : Pages) (v : ℕ) (bytes : List ℕ) (u : ℕ) → u ≢ v → page_of (with_dirty p v bytes) u ≡ page_of p u
page-beside p v bytes u far = get_or-set_other p.running v u (Some bytes) None far

pub one-page : (p : Pages) (v : ℕ) (bytes : List ℕ) → v < length p.running → ChangesPages (v ∷ []) p (with_dirty p v bytes)
unfolding with_addresses
one-page p v bytes h = record {
  count = length-set p.running v (Some bytes);
  others = λ u none. page-beside p v bytes u (λ e. none (inl (sym e)));
  there = λ u m. by u m;
  dirty = refl;
  frozen = refl;
}
  where
    by : (u : ℕ) → (v ≡ u) ⊎ ⊥ → IsSome (page_of (with_dirty p v bytes) u)
    by u (inl e) = ap is_some (ap (page_of (with_dirty p v bytes)) (sym e) ∙ page-at p v bytes h)
    by u (inr none) = elim none [ ]

pub no-page : (p : Pages) → ChangesPages [] p p
unfolding with_addresses
no-page p = record { count = refl; others = λ u _. refl; there = λ u m. absurd m; dirty = refl; frozen = refl }

-- one slot of it
pub one-slot : (p : Pages) (v i : ℕ) (bytes main : List ℕ) → page_of p v ≡ Some main → length main ≡ 4096 → i < 64 → length bytes ≡ 64
    → ChangesSlot 64 v i (page_of p) (page_of (with_dirty p v (with_slot 64 i bytes main)))
one-slot p v i bytes main is whole low width = record { others = page-beside p v (with_slot 64 i bytes main); slots = slots }
  where
    here : page_of (with_dirty p v (with_slot 64 i bytes main)) v ≡ Some (with_slot 64 i bytes main)
    here = page-at p v (with_slot 64 i bytes main) (below-length p v (ap is_some is))

    fits : 64 * i + 64 ≤ length main
    fits = omega (arith, low, whole)

    slots : (j : ℕ) → j ≢ i → slot_in 64 j (unwrap_or (page_of (with_dirty p v (with_slot 64 i bytes main)) v) []) ≡ slot_in 64 j (unwrap_or (page_of p v) [])
    slots j far =
        ap (λ (o : Option (List ℕ)). slot_in 64 j (unwrap_or o [])) here ∙ one_slot.kept 64 i j bytes main width fits far
        ∙ sym (ap (λ (o : Option (List ℕ)). slot_in 64 j (unwrap_or o [])) is)

pub slot-put : (i : ℕ) (bytes main : List ℕ) → length main ≡ 4096 → i < 64 → length bytes ≡ 64 → slot_in 64 i (with_slot 64 i bytes main) ≡ bytes
slot-put i bytes main whole low width = one_slot.put 64 i bytes main width (omega (arith, low, whole))

pub slot-kept : (i j : ℕ) (bytes main : List ℕ) → length main ≡ 4096 → i < 64 → length bytes ≡ 64 → j ≢ i → slot_in 64 j (with_slot 64 i bytes main) ≡ slot_in 64 j main
slot-kept i j bytes main whole low width far = one_slot.kept 64 i j bytes main width (omega (arith, low, whole)) far

-- ---- room

pub room-for : (p : Pages) (n v : ℕ) → 1 ≤ n → HasRoomForDirty n p → has_room p v ≡ true
room-for p n v some h = or_right _ _ (lt-ltb (length (besides_0 p.dirty)) 63 (omega (arith, some, h)))

-- one address more takes the room of one at most
pub one-dirtier : (v : ℕ) (dirty : List ℕ) → length (besides_0 (with_address v dirty)) ≤ length (besides_0 dirty) + 1
unfolding with_address
one-dirtier v dirty =
    let e = ap length (filter-append (λ a. other a) (below v dirty) (v ∷ above v dirty)) ∙ length-append (besides_0 (below v dirty)) (besides_0 (v ∷ above v dirty)) in
    let s = split other v dirty in
    let m = most-one (other v) (besides_0 (above v dirty)) in
    omega (arith, e, s, m)
  where
    other : ℕ → Bool
    other a = not (a == 0)

    most-one : (b : Bool) (xs : List ℕ) → length (cond b (v ∷ xs) xs) ≤ length xs + 1
    most-one true xs = omega arith
    most-one false xs = omega arith

pub room-after : (p : Pages) (v : ℕ) (bytes : List ℕ) → HasRoomForDirty 2 p → HasRoomForDirty 1 (with_dirty p v bytes)
room-after p v bytes h = let m = one-dirtier v p.dirty in omega (arith, m, h)
