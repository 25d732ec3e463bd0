-- Slots of pages, and what stands in them.
use Rattle.std.proofs.Common.{◌≡◌, ◌≢◌, ℕ, zero, suc, ◌+◌, ◌-◌, ◌*◌, ◌/◌, ◌%◌, ◌≤◌, ◌<◌, Bool, true, false, not, cond, List, [], ◌∷◌, ◌++◌, length, take, drop, flat_map, filter, sym, ap, ◌∙◌, Option, Some, ◌⊎◌, inl, inr, arith, get_or, ◌==◌, nat_lt, replicate, subst}
use Rattle.std.proofs.Math.Nat.{mul-le-mul_left, mul-add}
use Rattle.std.proofs.Math.Seq.{drop-append_seam, take-append_seam, drop-append-add, get_or-append_right}
use Rattle.std.proofs.lemmas.Bool.{cases_eq, cases_lt, cases_order, cond-true, cond-false, lt-ltb, le-ltb, not_from_false, not-true}
use Rattle.std.proofs.lemmas.List.{append_assoc, drop-append-le, take-append-le, drop-drop, drop-take, take-take, length-append, length-take-le, length-drop, length-replicate, get_or-replicate, get_or_append_left, get_or_past}
use Rattle.std.proofs.lemmas.Slice.Eq.{bytes_eq-Decides}
use Rattle.std.specs.List.{enumerate_from}
use Rattle.std.specs.Prelude.{◌↔◌, bytes_eq, slice_index, slice_index_or, unwrap_or}
use Rattle.byteorder.specs.Endian.{little_number}
use Rattle.byteorder.specs.Numbers.{little_from-take}
use Rattle.nl_field.specs.Members.{Has}
use Rattle.nl_field.specs.Pointers.{is_none_pointer, no_pointer, pointer_fields, pointers}
use Rattle.nl_field.specs.Spelling.{u32_at, u64_at}
use Rattle.nl_field.specs.declared.entry.EntryRec.{EntryRec}
use Rattle.nl_field.specs.declared.inode.InodeRec.{InodeRec}
use Rattle.nl_field.specs.declared.pointer.Pointer.{Pointer}
use Rattle.nl_field.proofs.EachRow.{length-each_of, get_or-each_of}
use Rattle.nl_meta.specs.Committed.{VirtualMap}
use Rattle.nl_meta.specs.Nodes.{bytes_at, slot_in, slot_at, bytes_of_node, address_of_place, bytes_of_place, entries_of_inode, entry_named, pointers_at, pointer_in_page, pointer_at, pointers_of_inode}
use Rattle.nl_meta.specs.SlotLaws.{with_slot, ChangesSlot, OneSlot, ByIndexAndName}
use Rattle.nl_meta.proofs.Lists.{true_false, find-some, member-find, member-filter, filter-member}

-- ---- a page with one slot replaced

module _ (width i : ℕ) (slot bytes : List ℕ) (wide : length slot ≡ width) (fits : width * i + width ≤ length bytes) where
  abbrev front : List ℕ
  front = take (width * i) bytes

  abbrev behind : List ℕ
  behind = drop (width * i + width) bytes

  front_length : length front ≡ width * i
  front_length = length-take-le (width * i) bytes (omega (arith, fits))

  upto_length : length (front ++ slot) ≡ width * i + width
  upto_length = length-append front slot ∙ (λ k. front_length k + wide k)

  put : slot_in width i (with_slot width i slot bytes) ≡ slot
  put =
      ap (take width) (drop-append-le (width * i) (front ++ slot) behind (omega (arith, upto_length)) ∙ ap (λ (l : List ℕ). l ++ behind) (ap (λ (n : ℕ). drop n (front ++ slot)) (sym front_length) ∙ drop-append_seam front slot))
      ∙ ap (λ (n : ℕ). take n (slot ++ behind)) (sym wide) ∙ take-append_seam slot behind

  kept : (j : ℕ) → j ≢ i → slot_in width j (with_slot width i slot bytes) ≡ slot_in width j bytes
  kept j other = by (cases_order j i)
    where
      before : width * j + width ≤ width * i → slot_in width j (with_slot width i slot bytes) ≡ slot_in width j bytes
      before h =
          let c = width * i - width * j in
          let is : width * j + c ≡ width * i = omega (arith, h) in
          let long : width ≤ c = omega (arith, h) in
          let cut : drop (width * j) front ≡ take c (drop (width * j) bytes) = ap (λ (n : ℕ). drop (width * j) (take n bytes)) (sym is) ∙ drop-take (width * j) c bytes in
          let len : length (drop (width * j) front) ≡ width * i - width * j = length-drop (width * j) front ∙ ap (λ (n : ℕ). n - width * j) front_length in
          ap (λ (l : List ℕ). take width (drop (width * j) l)) (append_assoc front slot behind)
          ∙ ap (take width) (drop-append-le (width * j) front (slot ++ behind) (omega (arith, h, front_length)))
          ∙ take-append-le width (drop (width * j) front) (slot ++ behind) (omega (arith, len, h))
          ∙ ap (take width) cut ∙ take-take width c (drop (width * j) bytes) long

      after : width * i + width ≤ width * j → slot_in width j (with_slot width i slot bytes) ≡ slot_in width j bytes
      after h =
          let d = width * j - (width * i + width) in
          let is : length (front ++ slot) + d ≡ width * j = omega (arith, h, upto_length) in
          let at : width * i + width + d ≡ width * j = omega (arith, h) in
          ap (take width) (ap (λ (n : ℕ). drop n (front ++ slot ++ behind)) (sym is) ∙ drop-append-add (front ++ slot) behind d ∙ drop-drop d (width * i + width) bytes ∙ ap (λ (n : ℕ). drop n bytes) at)

      by : (j ≡ i) ⊎ ((j < i) ⊎ (i < j)) → slot_in width j (with_slot width i slot bytes) ≡ slot_in width j bytes
      by (inl e) = absurd (other e)
      by (inr (inl h)) = before (let le = mul-le-mul_left {m = j + 1} {n = i} width (omega (arith, h)) in let s = mul-add width j 1 in omega (arith, le, s))
      by (inr (inr h)) = after (let le = mul-le-mul_left {m = i + 1} {n = j} width (omega (arith, h)) in let s = mul-add width i 1 in omega (arith, le, s))

-- ---- a slot of a map

other : (width v i : ℕ) (old new : VirtualMap) → ChangesSlot width v i old new → (u j : ℕ) → (u ≡ v → j ≡ i → ⊥) → slot_at new width u j ≡ slot_at old width u j
other width v i old new changes u j apart = by (cases_eq u v)
  where
    by : (u ≡ v) ⊎ (u ≡ v → ⊥) → slot_at new width u j ≡ slot_at old width u j
    by (inl e) = ap (λ (w : ℕ). slot_at new width w j) e ∙ changes.slots j (apart e) ∙ ap (λ (w : ℕ). slot_at old width w j) (sym e)
    by (inr far) = ap (λ (o : Option (List ℕ)). slot_in width j (unwrap_or o [])) (changes.others u far)

node : (v i : ℕ) (old new : VirtualMap) → ChangesSlot 256 v i old new → (n : ℕ) → (67 + n / 16 ≡ v → n % 16 ≡ i → ⊥) → bytes_of_node new n ≡ bytes_of_node old n
unfolding bytes_of_node
node v i old new changes n apart = other 256 v i old new changes (67 + n / 16) (n % 16) apart

place : (v i : ℕ) (old new : VirtualMap) → ChangesSlot 64 v i old new → (rec : InodeRec) (k : ℕ) → (address_of_place rec k ≡ v → k % 64 ≡ i → ⊥) → bytes_of_place new rec k ≡ bytes_of_place old rec k
unfolding bytes_of_place
place v i old new changes rec k apart = other 64 v i old new changes (address_of_place rec k) (k % 64) apart

pointer : (v i : ℕ) (old new : VirtualMap) → ChangesSlot 16 v i old new → (rec : InodeRec) (k : ℕ)
    → (8 ≤ k → slice_index rec.addresses ((k - 8) / 256) ≡ v → (k - 8) % 256 ≡ i → ⊥) → pointer_at new rec k ≡ pointer_at old rec k
unfolding pointer_at
pointer v i old new changes rec k apart = by (cases_lt k 8)
  where
    by : (k < 8) ⊎ (8 ≤ k) → pointer_at new rec k ≡ pointer_at old rec k
    by (inl low) = cond-true (nat_lt k 8) _ _ (lt-ltb k 8 low) ∙ sym (cond-true (nat_lt k 8) _ _ (lt-ltb k 8 low))
    by (inr high) =
        ap (λ (s : List ℕ). cond (nat_lt k 8) (slice_index_or rec.direct k no_pointer) (cond (slice_index rec.addresses ((k - 8) / 256) == 0) no_pointer (pointer_fields s)))
        (other 16 v i old new changes (slice_index rec.addresses ((k - 8) / 256)) ((k - 8) % 256) (apart high))

pub one_slot : OneSlot
one_slot = record { put = put; kept = λ width i j slot bytes wide fits. kept width i slot bytes wide fits j; other = other; node = node; place = place; pointer = pointer }

-- ---- pointers by index

-- a pointer is read from its own 16 bytes
own_bytes : (bytes : List ℕ) → pointer_fields (take 16 bytes) ≡ pointer_fields bytes
unfolding pointer_fields u32_at u64_at
own_bytes bytes = λ i. record { name = little_from-take 0 4 16 bytes (omega arith) i; stamp = stamp i }
  where
    stamp : little_number 8 (drop 8 (take 16 bytes)) ≡ little_number 8 (drop 8 bytes)
    stamp = ap (λ (l : List ℕ). little_number 8 l) (drop-take 8 8 bytes) ∙ little_from-take 0 8 8 (drop 8 bytes) (omega arith)

-- lists of one length, one behind the other
flat_at : {X Y : Type 0} (f : X → List Y) (d : Y) (e : X) → ((x : X) → length (f x) ≡ 256) → ((j : ℕ) → get_or (f e) j d ≡ d)
    → (xs : List X) (i : ℕ) → get_or (flat_map f xs) i d ≡ get_or (f (get_or xs (i / 256) e)) (i % 256) d
flat_at f d e len last [] i = sym (last (i % 256))
flat_at f d e len last (x ∷ xs) i = by (flat_at f d e len last xs (i - 256)) (cases_lt i 256)
  where
    by : get_or (flat_map f xs) (i - 256) d ≡ get_or (f (get_or xs ((i - 256) / 256) e)) ((i - 256) % 256) d → (i < 256) ⊎ (256 ≤ i)
        → get_or (f x ++ flat_map f xs) i d ≡ get_or (f (get_or (x ∷ xs) (i / 256) e)) (i % 256) d
    by rest (inl low) =
        let q : i / 256 ≡ 0 = omega (arith, low) in
        let r : i % 256 ≡ i = omega (arith, low) in
        get_or_append_left (f x) (flat_map f xs) d i (omega (arith, low, len x)) ∙ sym (λ k. get_or (f (get_or (x ∷ xs) (q k) e)) (r k) d)
    by rest (inr high) =
        let q : i / 256 ≡ suc ((i - 256) / 256) = omega (arith, high) in
        let r : i % 256 ≡ (i - 256) % 256 = omega (arith, high) in
        get_or-append_right (f x) (flat_map f xs) i d (omega (arith, high, len x)) ∙ ap (λ (n : ℕ). get_or (flat_map f xs) (i - n) d) (len x) ∙ rest
        ∙ sym (λ k. get_or (f (get_or (x ∷ xs) (q k) e)) (r k) d)

pub pointers_length : (pages : VirtualMap) (v : ℕ) → length (pointers_at pages v) ≡ 256
pointers_length pages v = by (v == 0)
  where
    by : (b : Bool) → length (cond b (replicate 256 no_pointer) (pointers 256 (bytes_at pages v))) ≡ 256
    by true = length-replicate 256 no_pointer
    by false = length-each_of pointer_fields 16 256 (bytes_at pages v)

-- of no page, no pointer
none_there : (n j : ℕ) → get_or (replicate n no_pointer) j no_pointer ≡ no_pointer
none_there n j = elim (cases_lt j n) [
  | inl h ↦ get_or-replicate n j no_pointer no_pointer h
  | inr h ↦ get_or_past (replicate n no_pointer) j no_pointer (let l = length-replicate n no_pointer in omega (arith, l, h))
]

pub in_page : (pages : VirtualMap) (v j : ℕ) → j < 256 → get_or (pointers_at pages v) j no_pointer ≡ pointer_in_page pages v j
in_page pages v j h = by (v == 0)
  where
    by : (b : Bool) → get_or (cond b (replicate 256 no_pointer) (pointers 256 (bytes_at pages v))) j no_pointer ≡ cond b no_pointer (pointer_fields (slot_at pages 16 v j))
    by true = none_there 256 j
    by false = get_or-each_of pointer_fields 16 256 (bytes_at pages v) j no_pointer h ∙ sym (own_bytes (drop (16 * j) (bytes_at pages v)))

pub at_index : (pages : VirtualMap) (rec : InodeRec) (i : ℕ) → length rec.direct ≡ 8
    → slice_index_or (rec.direct ++ flat_map (pointers_at pages) rec.addresses) i no_pointer ≡ pointer_at pages rec i
unfolding pointer_at
at_index pages rec i eight = by (cases_lt i 8)
  where
    by : (i < 8) ⊎ (8 ≤ i) → slice_index_or (rec.direct ++ flat_map (pointers_at pages) rec.addresses) i no_pointer
        ≡ cond (nat_lt i 8) (slice_index_or rec.direct i no_pointer) (pointer_in_page pages (slice_index rec.addresses ((i - 8) / 256)) ((i - 8) % 256))
    by (inl low) = get_or_append_left rec.direct (flat_map (pointers_at pages) rec.addresses) no_pointer i (omega (arith, low, eight)) ∙ sym (cond-true (nat_lt i 8) _ _ (lt-ltb i 8 low))
    by (inr high) =
        get_or-append_right rec.direct (flat_map (pointers_at pages) rec.addresses) i no_pointer (omega (arith, high, eight))
        ∙ ap (λ (n : ℕ). get_or (flat_map (pointers_at pages) rec.addresses) (i - n) no_pointer) eight
        ∙ flat_at (pointers_at pages) no_pointer 0 (pointers_length pages) (none_there 256) rec.addresses (i - 8)
        ∙ in_page pages (slice_index rec.addresses ((i - 8) / 256)) ((i - 8) % 256) (omega arith)
        ∙ sym (cond-false (nat_lt i 8) _ _ (le-ltb i 8 high))

-- an element of a list with its number
numbered : {X : Type 0} (d : X) (a : ℕ) (xs : List X) (i : ℕ) (x : X) → Has (enumerate_from a xs) (i, x) → (a ≤ i) × (i < a + length xs) × (get_or xs (i - a) d ≡ x)
numbered d a [] i x h = absurd h
numbered d a (y ∷ xs) i x (inl e) =
    let n : a ≡ i = ap (λ (p : ℕ × _). p.0) e in
    let z : i - a ≡ 0 = omega (arith, n) in
    (omega (arith, n), omega (arith, n), ap (λ (k : ℕ). get_or (y ∷ xs) k d) z ∙ ap (λ (p : ℕ × _). p.1) e)
numbered d a (y ∷ xs) i x (inr h) =
    let r = numbered d (a + 1) xs i x h in
    let k : i - a ≡ suc (i - (a + 1)) = omega (arith, r.0) in
    (omega (arith, r.0), omega (arith, r.1), ap (λ (n : ℕ). get_or (y ∷ xs) n d) k ∙ r.2)

number : {X : Type 0} (d : X) (a : ℕ) (xs : List X) (k : ℕ) → k < length xs → Has (enumerate_from a xs) (a + k, get_or xs k d)
number d a [] k h = absurd (omega (arith, h))
number d a (y ∷ xs) zero h = inl (λ i. (same i, y))
  where
    same : a ≡ a + 0
    same = omega arith
number d a (y ∷ xs) (suc k) h = inr (subst (λ (n : ℕ). Has (enumerate_from (a + 1) xs) (n, get_or xs k d)) (omega arith) (number d (a + 1) xs k (omega (arith, h))))

pub listed : (pages : VirtualMap) (rec : InodeRec) (i : ℕ) (p : Pointer) → length rec.direct ≡ 8
    → Has (pointers_of_inode pages rec) (i, p) ↔ ((pointer_at pages rec i ≡ p) × (is_none_pointer p ≡ false))
unfolding pointers_of_inode
listed pages rec i p eight = (there, back)
  where
    all : List Pointer
    all = rec.direct ++ flat_map (pointers_at pages) rec.addresses

    from_zero : i - 0 ≡ i
    from_zero = omega arith

    there : Has (filter (λ q. not (is_none_pointer q.1)) (enumerate_from 0 all)) (i, p) → (pointer_at pages rec i ≡ p) × (is_none_pointer p ≡ false)
    there h =
        let m = member-filter (λ (q : ℕ × Pointer). not (is_none_pointer q.1)) (enumerate_from 0 all) (i, p) h in
        (sym (at_index pages rec i eight) ∙ sym (ap (λ (n : ℕ). get_or all n no_pointer) from_zero) ∙ (numbered no_pointer 0 all i p m.0).2, not-true _ m.1)

    back : (pointer_at pages rec i ≡ p) × (is_none_pointer p ≡ false) → Has (filter (λ q. not (is_none_pointer q.1)) (enumerate_from 0 all)) (i, p)
    back h = filter-member (λ (q : ℕ × Pointer). not (is_none_pointer q.1)) (enumerate_from 0 all) (i, p) (by (cases_lt i (length all))) (not_from_false _ h.1)
      where
        here : get_or all i no_pointer ≡ p
        here = at_index pages rec i eight ∙ h.0

        by : (i < length all) ⊎ (length all ≤ i) → Has (enumerate_from 0 all) (i, p)
        by (inl low) = subst (λ (q : ℕ × Pointer). Has (enumerate_from 0 all) q) (λ k. (from_zero k, here k)) (number no_pointer 0 all i low)
          where
            from_zero : 0 + i ≡ i
            from_zero = omega arith
        by (inr past) = absurd (true_false (ap is_none_pointer (sym (get_or_past all i no_pointer past) ∙ here) ∙ h.1))

-- ---- entries by name

named : (pages : VirtualMap) (rec : InodeRec)
    → ((e f : EntryRec) → Has (entries_of_inode pages rec) e → Has (entries_of_inode pages rec) f → e.name ≡ f.name → e ≡ f)
    → (name : List ℕ) (e : EntryRec) → (entry_named pages rec name ≡ Some e) ↔ (Has (entries_of_inode pages rec) e × (e.name ≡ name))
unfolding entry_named
named pages rec differ name e = (
  (λ is. let m = member-find (λ (e : EntryRec). bytes_eq e.name name) (entries_of_inode pages rec) e is in (m.0, (bytes_eq-Decides e.name name).0 m.1)),
  (λ h.
      let f = find-some (λ (e : EntryRec). bytes_eq e.name name) (entries_of_inode pages rec) e h.0 ((bytes_eq-Decides e.name name).1 h.1) in
      let m = member-find (λ (e : EntryRec). bytes_eq e.name name) (entries_of_inode pages rec) f.0 f.1 in
      f.1 ∙ ap (λ (x : EntryRec). Some x) (differ f.0 e m.0 h.0 ((bytes_eq-Decides f.0.name name).0 m.1 ∙ sym h.1))),
)

pub by_index_and_name : ByIndexAndName
by_index_and_name = record { at_index = at_index; listed = listed; named = named }
