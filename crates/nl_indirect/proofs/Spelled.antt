-- A page that spells pointers, slot by slot.
use Rattle.std.proofs.Common.{◌≡◌, ◌≢◌, ℕ, zero, suc, ◌+◌, ◌-◌, ◌*◌, ◌≤◌, ◌<◌, Bool, true, false, not, ◌&&◌, ◌||◌, cond, List, [], ◌∷◌, ◌++◌, length, take, drop, flat_map, replicate, get_or, refl, sym, ap, ◌∙◌, subst, Some, None, IsSome, is_some, ◌⊎◌, inl, inr, arith, ◌==◌}
use Rattle.std.proofs.Math.Seq.{take-append_seam}
use Rattle.std.proofs.lemmas.Bool.{and_parts, and_from, both_ways, cases_eq, cond-true, eq-eqb}
use Rattle.std.proofs.lemmas.List.{drop_at, drop-drop, drop-replicate, length-append, length-drop, length-replicate, length-take-le, take-append-drop, take-replicate}
use Rattle.std.proofs.lemmas.Slice.Eq.{bytes_eq-Decides}
use Rattle.std.specs.List.{list_all, list_any}
use Rattle.std.specs.Prelude.{bytes_eq}
use Rattle.nl_field.specs.Bytes.{zeros}
use Rattle.nl_field.specs.Pointers.{indirect_bytes, indirect_of, is_indirect, is_none_pointer, is_pointer, no_pointer, pointer_bytes, pointer_fields, pointer_of, pointers}
use Rattle.nl_field.specs.Spelling.{each_of, u32_at, u32_bytes, u64_at, u64_bytes}
use Rattle.nl_field.specs.declared.pointer.Pointer.{Pointer}
use Rattle.nl_field.proofs.EachRow.{get_or-each_of, length-each_of}
use Rattle.nl_field.proofs.Widths.{length-pointer_bytes, length-rows}
use Rattle.nl_meta.specs.Nodes.{slot_in}
use Rattle.nl_meta.specs.SlotLaws.{with_slot}
use Rattle.nl_meta.proofs.Lists.{some_in, true_false}
use Rattle.nl_meta.proofs.SlotProofs.{in_page, one_slot}
use Rattle.nl_indirect.specs.Ranges.{pointer_in}

-- each slot spells its pointer
pub record Spells (bytes : List ℕ) : Type 0 where
  pub whole : length bytes ≡ 4096
  pub each : (j : ℕ) → j < 256 → pointer_of (slot_in 16 j bytes) ≡ Some (pointer_in bytes j)

-- each slot of a page spells its pointer, and one of them is not none
pub record HoldsSome (bytes : List ℕ) : Type 0 where
  pub at : ℕ
  pub below : at < 256
  pub some : is_none_pointer (pointer_in bytes at) ≡ false

-- ---- one pointer

of-parts : (bytes : List ℕ) → IsSome (pointer_of bytes) → (is_pointer (pointer_fields bytes) ≡ true) × (pointer_bytes (pointer_fields bytes) ≡ bytes)
unfolding pointer_of
of-parts bytes is = by (is_pointer (pointer_fields bytes) && bytes_eq (pointer_bytes (pointer_fields bytes)) bytes) refl is
  where
    by : (b : Bool) → (is_pointer (pointer_fields bytes) && bytes_eq (pointer_bytes (pointer_fields bytes)) bytes) ≡ b → IsSome (cond b (Some (pointer_fields bytes)) None)
        → (is_pointer (pointer_fields bytes) ≡ true) × (pointer_bytes (pointer_fields bytes) ≡ bytes)
    by true e is = let p = and_parts (is_pointer (pointer_fields bytes)) (bytes_eq (pointer_bytes (pointer_fields bytes)) bytes) e in (p.0, (bytes_eq-Decides (pointer_bytes (pointer_fields bytes)) bytes).0 p.1)
    by false e is = absurd (both_ways false refl is)

from-parts : (bytes : List ℕ) → is_pointer (pointer_fields bytes) ≡ true → pointer_bytes (pointer_fields bytes) ≡ bytes → pointer_of bytes ≡ Some (pointer_fields bytes)
unfolding pointer_of
from-parts bytes p e =
    cond-true (is_pointer (pointer_fields bytes) && bytes_eq (pointer_bytes (pointer_fields bytes)) bytes) (Some (pointer_fields bytes)) None
    (and_from (is_pointer (pointer_fields bytes)) (bytes_eq (pointer_bytes (pointer_fields bytes)) bytes) p ((bytes_eq-Decides (pointer_bytes (pointer_fields bytes)) bytes).1 e))

-- ---- rows

-- a row that was written stands in its slot
flat-slot : (xs : List Pointer) (j : ℕ) → j < length xs → slot_in 16 j (flat_map pointer_bytes xs) ≡ pointer_bytes (get_or xs j no_pointer)
flat-slot [] j h = absurd (omega (arith, h))
flat-slot (x ∷ xs) zero h = ap (λ (n : ℕ). take n (pointer_bytes x ++ flat_map pointer_bytes xs)) (sym (length-pointer_bytes x)) ∙ take-append_seam (pointer_bytes x) (flat_map pointer_bytes xs)
flat-slot (x ∷ xs) (suc j) h = ap (take 16) dropped ∙ flat-slot xs j (omega (arith, h))
  where
    at : 16 * suc j ≡ 16 + 16 * j
    at = omega arith

    dropped : drop (16 * suc j) (pointer_bytes x ++ flat_map pointer_bytes xs) ≡ drop (16 * j) (flat_map pointer_bytes xs)
    dropped =
        ap (λ (n : ℕ). drop n (pointer_bytes x ++ flat_map pointer_bytes xs)) at ∙ sym (drop-drop (16 * j) 16 (pointer_bytes x ++ flat_map pointer_bytes xs))
        ∙ ap (drop (16 * j)) (drop_at (pointer_bytes x) (flat_map pointer_bytes xs) 16 (length-pointer_bytes x))

-- the pointers of a page by their slots
pub row : (bytes : List ℕ) (j : ℕ) → j < 256 → get_or (pointers 256 bytes) j no_pointer ≡ pointer_in bytes j
row bytes j h = in_page (λ _. Some bytes) 1 j h

own-bytes : (bytes : List ℕ) → pointer_fields bytes ≡ pointer_fields (take 16 bytes)
own-bytes bytes = sym (get_or-each_of pointer_fields 16 256 bytes 0 no_pointer (omega arith)) ∙ row bytes 0 (omega arith)

-- rows that are spelled are written back as they stand
back : (n : ℕ) (bytes : List ℕ) → length bytes ≡ 16 * n → ((j : ℕ) → j < n → pointer_bytes (pointer_in bytes j) ≡ slot_in 16 j bytes)
    → flat_map pointer_bytes (each_of pointer_fields 16 n bytes) ≡ bytes
unfolding each_of
back zero [] len each = refl
back zero (b ∷ bytes) len each = absurd (omega (arith, len))
back (suc n) bytes len each =
    (λ i. first i ++ back n (drop 16 bytes) (let l = length-drop 16 bytes in omega (arith, l, len)) rest i) ∙ take-append-drop 16 bytes
  where
    first : pointer_bytes (pointer_fields bytes) ≡ take 16 bytes
    first = ap pointer_bytes (own-bytes bytes) ∙ each 0 (omega arith)

    next : (j : ℕ) → slot_in 16 (suc j) bytes ≡ slot_in 16 j (drop 16 bytes)
    next j = ap (take 16) (ap (λ (n : ℕ). drop n bytes) (at j) ∙ sym (drop-drop (16 * j) 16 bytes))
      where
        at : (j : ℕ) → 16 * suc j ≡ 16 + 16 * j
        at j = omega arith

    rest : (j : ℕ) → j < n → pointer_bytes (pointer_in (drop 16 bytes) j) ≡ slot_in 16 j (drop 16 bytes)
    rest j h = subst (λ (s : List ℕ). pointer_bytes (pointer_fields s) ≡ s) (next j) (each (suc j) (omega (arith, h)))

pub all-rows : (xs : List Pointer) → ((j : ℕ) → j < length xs → is_pointer (get_or xs j no_pointer) ≡ true) → list_all is_pointer xs ≡ true
all-rows [] each = refl
all-rows (x ∷ xs) each = and_from (is_pointer x) (list_all is_pointer xs) (each 0 (omega arith)) (all-rows xs (λ j h. each (suc j) (omega (arith, h))))

pub row-all : (xs : List Pointer) → list_all is_pointer xs ≡ true → (j : ℕ) → j < length xs → is_pointer (get_or xs j no_pointer) ≡ true
row-all [] all j h = absurd (omega (arith, h))
row-all (x ∷ xs) all zero h = (and_parts (is_pointer x) (list_all is_pointer xs) all).0
row-all (x ∷ xs) all (suc j) h = row-all xs (and_parts (is_pointer x) (list_all is_pointer xs) all).1 j (omega (arith, h))

any-row : (xs : List Pointer) (j : ℕ) → j < length xs → is_none_pointer (get_or xs j no_pointer) ≡ false → list_any (λ p. not (is_none_pointer p)) xs ≡ true
any-row [] j h some = absurd (omega (arith, h))
any-row (x ∷ xs) zero h some = ap (λ b. not b || list_any (λ p. not (is_none_pointer p)) xs) some
any-row (x ∷ xs) (suc j) h some = ap (λ b. not (is_none_pointer x) || b) (any-row xs j (omega (arith, h)) some) ∙ by (not (is_none_pointer x))
  where
    by : (b : Bool) → (b || true) ≡ true
    by true = refl
    by false = refl

row-any : (xs : List Pointer) → list_any (λ p. not (is_none_pointer p)) xs ≡ true → (j : ℕ) × (j < length xs) × (is_none_pointer (get_or xs j no_pointer) ≡ false)
row-any [] any = absurd (true_false (sym any))
row-any (x ∷ xs) any = by (is_none_pointer x) refl any (row-any xs)
  where
    by : (b : Bool) → is_none_pointer x ≡ b → (not b || list_any (λ p. not (is_none_pointer p)) xs) ≡ true
        → (list_any (λ p. not (is_none_pointer p)) xs ≡ true → (j : ℕ) × (j < length xs) × (is_none_pointer (get_or xs j no_pointer) ≡ false))
        → (j : ℕ) × (j < suc (length xs)) × (is_none_pointer (get_or (x ∷ xs) j no_pointer) ≡ false)
    by false e any rest = (0, omega arith, e)
    by true e any rest = let r = rest any in (suc r.0, omega (arith, r.1), r.2)

-- ---- a page

indirect-parts : (bytes : List ℕ) → IsSome (indirect_of bytes) → (is_indirect (pointers 256 bytes) ≡ true) × (indirect_bytes (pointers 256 bytes) ≡ bytes)
unfolding indirect_of
indirect-parts bytes is = by (is_indirect (pointers 256 bytes) && bytes_eq (indirect_bytes (pointers 256 bytes)) bytes) refl is
  where
    by : (b : Bool) → (is_indirect (pointers 256 bytes) && bytes_eq (indirect_bytes (pointers 256 bytes)) bytes) ≡ b → IsSome (cond b (Some (pointers 256 bytes)) None)
        → (is_indirect (pointers 256 bytes) ≡ true) × (indirect_bytes (pointers 256 bytes) ≡ bytes)
    by true e is =
        let p = and_parts (is_indirect (pointers 256 bytes)) (bytes_eq (indirect_bytes (pointers 256 bytes)) bytes) e in
        (p.0, (bytes_eq-Decides (indirect_bytes (pointers 256 bytes)) bytes).0 p.1)
    by false e is = absurd (both_ways false refl is)

pub indirect-is : (bytes : List ℕ) → IsSome (indirect_of bytes) → indirect_of bytes ≡ Some (pointers 256 bytes)
unfolding indirect_of
indirect-is bytes is = by (is_indirect (pointers 256 bytes) && bytes_eq (indirect_bytes (pointers 256 bytes)) bytes) is
  where
    by : (b : Bool) → IsSome (cond b (Some (pointers 256 bytes)) None) → cond b (Some (pointers 256 bytes)) None ≡ Some (pointers 256 bytes)
    by true is = refl
    by false is = absurd (both_ways false refl is)

module _ (bytes : List ℕ) (is : IsSome (indirect_of bytes)) where
  rows-256 : length (pointers 256 bytes) ≡ 256
  rows-256 = length-each_of pointer_fields 16 256 bytes

  tests : (list_all is_pointer (pointers 256 bytes) ≡ true) × (list_any (λ p. not (is_none_pointer p)) (pointers 256 bytes) ≡ true)
  tests =
      let p = and_parts (length (pointers 256 bytes) == 256 && list_all is_pointer (pointers 256 bytes)) (list_any (λ p. not (is_none_pointer p)) (pointers 256 bytes)) (indirect-parts bytes is).0 in
      ((and_parts (length (pointers 256 bytes) == 256) (list_all is_pointer (pointers 256 bytes)) p.0).1, p.1)

  written : flat_map pointer_bytes (pointers 256 bytes) ≡ bytes
  unfolding indirect_bytes
  written = (indirect-parts bytes is).1

  slot-written : (j : ℕ) → j < 256 → pointer_bytes (pointer_in bytes j) ≡ slot_in 16 j bytes
  slot-written j h =
      ap pointer_bytes (sym (row bytes j h)) ∙ sym (flat-slot (pointers 256 bytes) j (omega (arith, h, rows-256))) ∙ ap (slot_in 16 j) written

  pub spells : Spells bytes
  spells = record {
    whole = ap length (sym written) ∙ length-rows pointer_bytes 16 (pointers 256 bytes) length-pointer_bytes ∙ ap (λ (n : ℕ). 16 * n) rows-256;
    each = λ j h. from-parts (slot_in 16 j bytes) (ap is_pointer (sym (row bytes j h)) ∙ row-all (pointers 256 bytes) tests.0 j (omega (arith, h, rows-256))) (slot-written j h);
  }

  pub holds-some : HoldsSome bytes
  holds-some =
      let r = row-any (pointers 256 bytes) tests.1 in
      let h : r.0 < 256 = omega (arith, r.1, rows-256) in
      record { at = r.0; below = h; some = ap is_none_pointer (sym (row bytes r.0 h)) ∙ r.2 }

pub is-indirect : (bytes : List ℕ) → Spells bytes → HoldsSome bytes → IsSome (indirect_of bytes)
unfolding indirect_of indirect_bytes
is-indirect bytes is some =
    ap is_some
    (cond-true (is_indirect (pointers 256 bytes) && bytes_eq (indirect_bytes (pointers 256 bytes)) bytes) (Some (pointers 256 bytes)) None
    (and_from (is_indirect (pointers 256 bytes)) (bytes_eq (indirect_bytes (pointers 256 bytes)) bytes) one ((bytes_eq-Decides (indirect_bytes (pointers 256 bytes)) bytes).1 written)))
  where
    len : length (pointers 256 bytes) ≡ 256
    len = length-each_of pointer_fields 16 256 bytes

    slot : (j : ℕ) → j < 256 → (is_pointer (pointer_in bytes j) ≡ true) × (pointer_bytes (pointer_in bytes j) ≡ slot_in 16 j bytes)
    slot j h = of-parts (slot_in 16 j bytes) (ap is_some (is.each j h))

    each : (j : ℕ) → j < length (pointers 256 bytes) → is_pointer (get_or (pointers 256 bytes) j no_pointer) ≡ true
    each j h = let below : j < 256 = omega (arith, h, len) in ap is_pointer (row bytes j below) ∙ (slot j below).0

    any : list_any (λ p. not (is_none_pointer p)) (pointers 256 bytes) ≡ true
    any = any-row (pointers 256 bytes) some.at (let b = some.below in omega (arith, b, len)) (ap is_none_pointer (row bytes some.at some.below) ∙ some.some)

    one : is_indirect (pointers 256 bytes) ≡ true
    one =
        and_from (length (pointers 256 bytes) == 256 && list_all is_pointer (pointers 256 bytes)) (list_any (λ p. not (is_none_pointer p)) (pointers 256 bytes))
        (and_from (length (pointers 256 bytes) == 256) (list_all is_pointer (pointers 256 bytes)) (eq-eqb (length (pointers 256 bytes)) 256 len) (all-rows (pointers 256 bytes) each)) any

    written : flat_map pointer_bytes (pointers 256 bytes) ≡ bytes
    written = back 256 bytes (is.whole ∙ refl) (λ j h. (slot j h).1)

-- ---- a page with one slot replaced

module _ (bytes : List ℕ) (whole : length bytes ≡ 4096) (i : ℕ) (below : i < 256) (p : Pointer) where
  fits : 16 * i + 16 ≤ length bytes
  fits = omega (arith, below, whole)

  pub put-slot : slot_in 16 i (with_slot 16 i (pointer_bytes p) bytes) ≡ pointer_bytes p
  put-slot = one_slot.put 16 i (pointer_bytes p) bytes (length-pointer_bytes p) fits

  pub kept-slot : (j : ℕ) → j ≢ i → slot_in 16 j (with_slot 16 i (pointer_bytes p) bytes) ≡ slot_in 16 j bytes
  kept-slot j far = one_slot.kept 16 i j (pointer_bytes p) bytes (length-pointer_bytes p) fits far

  pub put-pointer : pointer_of (pointer_bytes p) ≡ Some p → pointer_in (with_slot 16 i (pointer_bytes p) bytes) i ≡ p
  put-pointer is = ap pointer_fields put-slot ∙ some_in _ _ (sym (fields is) ∙ is)
    where
      fields : pointer_of (pointer_bytes p) ≡ Some p → pointer_of (pointer_bytes p) ≡ Some (pointer_fields (pointer_bytes p))
      fields is = let q = of-parts (pointer_bytes p) (ap is_some is) in from-parts (pointer_bytes p) q.0 q.1

  pub with-length : length (with_slot 16 i (pointer_bytes p) bytes) ≡ length bytes
  with-length =
      let a = length-append (take (16 * i) bytes ++ pointer_bytes p) (drop (16 * i + 16) bytes) in
      let b = length-append (take (16 * i) bytes) (pointer_bytes p) in
      let c = length-take-le (16 * i) bytes (omega (arith, fits)) in
      let d = length-pointer_bytes p in
      let e = length-drop (16 * i + 16) bytes in
      omega (arith, a, b, c, d, e, fits)

  pub spells-with : Spells bytes → pointer_of (pointer_bytes p) ≡ Some p → Spells (with_slot 16 i (pointer_bytes p) bytes)
  spells-with was is = record { whole = with-length ∙ whole; each = λ j h. each j h (cases_eq j i) }
    where
      each : (j : ℕ) → j < 256 → (j ≡ i) ⊎ (j ≡ i → ⊥) → pointer_of (slot_in 16 j (with_slot 16 i (pointer_bytes p) bytes)) ≡ Some (pointer_in (with_slot 16 i (pointer_bytes p) bytes) j)
      each j h (inl e) = subst (λ (k : ℕ). pointer_of (slot_in 16 k (with_slot 16 i (pointer_bytes p) bytes)) ≡ Some (pointer_in (with_slot 16 i (pointer_bytes p) bytes) k)) (sym e) here
        where
          here : pointer_of (slot_in 16 i (with_slot 16 i (pointer_bytes p) bytes)) ≡ Some (pointer_in (with_slot 16 i (pointer_bytes p) bytes) i)
          here = ap pointer_of put-slot ∙ is ∙ ap (λ (q : Pointer). Some q) (sym (put-pointer is))
      each j h (inr far) = subst (λ (s : List ℕ). pointer_of s ≡ Some (pointer_fields s)) (sym (kept-slot j far)) (was.each j h)

-- ---- a page of zeros

slot-zeros : (n j : ℕ) → 16 * j + 16 ≤ n → slot_in 16 j (zeros n) ≡ replicate 16 0
unfolding zeros
slot-zeros n j h = ap (take 16) (drop-replicate (16 * j) n 0) ∙ take-replicate 16 (n - 16 * j) 0 (omega (arith, h))

zero-pointer : pointer_of (replicate 16 0) ≡ Some no_pointer
unfolding pointer_of pointer_bytes pointer_fields u32_bytes u64_bytes u32_at u64_at
zero-pointer = refl

nought : pointer_of (replicate 16 0) ≡ Some (pointer_fields (replicate 16 0))
unfolding pointer_fields u32_at u64_at
nought = zero-pointer

zeros-length : (n : ℕ) → length (zeros n) ≡ n
unfolding zeros
zeros-length n = length-replicate n 0

pub spells-zeros : Spells (zeros 4096)
spells-zeros = record {
  whole = zeros-length 4096;
  each = λ j h. subst (λ (s : List ℕ). pointer_of s ≡ Some (pointer_fields s)) (sym (slot-zeros 4096 j (omega (arith, h)))) nought;
}

-- its slots are none
pub zero-slot : (j : ℕ) → j < 256 → pointer_in (zeros 4096) j ≡ no_pointer
unfolding pointer_fields u32_at u64_at
zero-slot j h = ap pointer_fields (slot-zeros 4096 j (omega (arith, h)))
