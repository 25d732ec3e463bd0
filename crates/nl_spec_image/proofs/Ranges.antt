-- A range of a file has a page of pointers exactly where the file has a page in it.
use Rattle.std.proofs.Common.{◌≡◌, ◌≢◌, ℕ, zero, suc, ◌+◌, ◌-◌, ◌*◌, ◌/◌, ◌%◌, ◌≤◌, ◌<◌, Bool, true, false, not, ◌&&◌, ◌||◌, cond, List, [], ◌∷◌, length, refl, sym, ap, ◌∙◌, Option, Some, None, ◌⊎◌, inl, inr, arith, get_or, ◌==◌, nat_le, nat_lt, unwrap_or}
use Rattle.std.proofs.lemmas.Bool.{and_parts, and_from, cases_eq, cond-false, eq-eqb, eqb-true, ne_eqb, not_from_true, not_from_false, not-true, leb-true, le-leb, ltb-true, lt-ltb, le-ltb}
use Rattle.std.specs.List.{list_any, list_all}
use Rattle.std.specs.Prelude.{slice_get, slice_index, bytes_eq}
use Rattle.nl_field.specs.Inode.{is_inode}
use Rattle.nl_field.specs.Pointers.{indirect_bytes, indirect_of, is_indirect, is_none_pointer, is_pointer, no_pointer, pointer_fields, pointers}
use Rattle.nl_field.specs.declared.inode.InodeRec.{InodeRec}
use Rattle.nl_field.specs.declared.inode.Kind.TheVariants.{File}
use Rattle.nl_field.specs.declared.pointer.Pointer.{Pointer}
use Rattle.nl_field.specs.declared.shape.Shape.{Shape}
use Rattle.nl_field.proofs.EachRow.{length-each_of}
use Rattle.nl_meta.specs.Committed.{VirtualMap}
use Rattle.nl_meta.specs.Consistent.{AddressAt, GoodAddress, IsNode, NamesPhysical, AddressesRight}
use Rattle.nl_meta.specs.Nodes.{bytes_at, pointer_at, pointer_in_page, pointers_of_inode}
use Rattle.nl_meta.proofs.AddressProofs.{inode_spelled}
use Rattle.nl_meta.proofs.Lists.{member_any, none-any, none_some, true_false}
use Rattle.nl_meta.proofs.SlotProofs.{in_page, listed}

any_at : {X : Type 0} (t : X → Bool) (d : X) (xs : List X) → list_any t xs ≡ true → (j : ℕ) × (j < length xs) × (t (get_or xs j d) ≡ true)
any_at t d [] e = absurd (true_false (sym e))
any_at {X} t d (x ∷ xs) e = by (t x) refl e (any_at t d xs)
  where
    by : (b : Bool) → t x ≡ b → (b || list_any t xs) ≡ true → (list_any t xs ≡ true → (j : ℕ) × (j < length xs) × (t (get_or xs j d) ≡ true)) → (j : ℕ) × (j < suc (length xs)) × (t (get_or (x ∷ xs) j d) ≡ true)
    by true s e rest = (0, omega arith, s)
    by false s e rest = let r = rest e in (suc r.0, omega (arith, r.1), r.2)

-- the slot of an index
slot_of : (vs : List ℕ) (r : ℕ) → r < length vs → slice_get vs r ≡ Some (slice_index vs r)
slot_of [] r h = absurd (omega (arith, h))
slot_of (a ∷ vs) zero h = refl
slot_of (a ∷ vs) (suc r) h = slot_of vs r (omega (arith, h))

of_test : (a b : Bool) (ps x : List Pointer) → cond {A = Option (List Pointer)} (a && b) (Some ps) None ≡ Some x → a ≡ true
of_test true b ps x e = refl
of_test false b ps x e = absurd (none_some x e)

module _ (shape : Shape) (pages : VirtualMap) (right : AddressesRight shape pages) (n : ℕ) (rec : InodeRec) (is : IsNode shape pages n rec) where
  spelled : is_inode rec ≡ true
  spelled = inode_spelled shape pages n rec is

  eight : length rec.direct ≡ 8
  eight = eqb-true _ _ (and_parts _ _ (and_parts (length rec.direct == 8 && length rec.addresses == 16) _ spelled).0).0

  sixteen : length rec.addresses ≡ 16
  sixteen = eqb-true _ _ (and_parts (length rec.direct == 8) _ (and_parts (length rec.direct == 8 && length rec.addresses == 16) _ spelled).0).1

  -- a range without a page has no pointer
  none_there : (r : ℕ) → slice_index rec.addresses r ≡ 0 → list_any (λ (p : ℕ × Pointer). nat_le (8 + 256 * r) p.0 && nat_lt p.0 (264 + 256 * r)) (pointers_of_inode pages rec) ≡ false
  unfolding pointer_at
  none_there r zero_here = none-any _ (pointers_of_inode pages rec) (λ p m. by p ((listed pages rec p.0 p.1 eight).0 m) (nat_le (8 + 256 * r) p.0) (nat_lt p.0 (264 + 256 * r)) refl refl)
    where
      by : (p : ℕ × Pointer) → (pointer_at pages rec p.0 ≡ p.1) × (is_none_pointer p.1 ≡ false) → (a b : Bool) → nat_le (8 + 256 * r) p.0 ≡ a → nat_lt p.0 (264 + 256 * r) ≡ b → (a && b) ≡ false
      by p h true false e f = refl
      by p h false b e f = refl
      by p h true true e f = absurd (true_false (ap is_none_pointer (sym none ∙ h.0) ∙ h.1))
        where
          low : 8 + 256 * r ≤ p.0
          low = leb-true _ _ e

          high : p.0 < 264 + 256 * r
          high = ltb-true _ _ f

          range : (p.0 - 8) / 256 ≡ r
          range = omega (arith, low, high)

          late : 8 ≤ p.0
          late = omega (arith, low)

          none : pointer_at pages rec p.0 ≡ no_pointer
          none =
              cond-false (nat_lt p.0 8) _ (pointer_in_page pages (slice_index rec.addresses ((p.0 - 8) / 256)) ((p.0 - 8) % 256)) (le-ltb p.0 8 late)
              ∙ ap (λ (v : ℕ). pointer_in_page pages v ((p.0 - 8) % 256)) (ap (λ (k : ℕ). slice_index rec.addresses k) range ∙ zero_here)

  -- a range with a page has one
  some_there : rec.kind ≡ File → (r : ℕ) → r < 16 → slice_index rec.addresses r ≢ 0
      → list_any (λ (p : ℕ × Pointer). nat_le (8 + 256 * r) p.0 && nat_lt p.0 (264 + 256 * r)) (pointers_of_inode pages rec) ≡ true
  unfolding pointer_at indirect_of
  some_there is_file r below far =
      member_any (λ (p : ℕ × Pointer). nat_le (8 + 256 * r) p.0 && nat_lt p.0 (264 + 256 * r)) (pointers_of_inode pages rec) (i, q)
      ((listed pages rec i q eight).1 (here, not-true _ not_none)) (and_from _ _ (le-leb (8 + 256 * r) i (omega arith)) (lt-ltb i (264 + 256 * r) (omega (arith, j_below))))
    where
      a : ℕ
      a = slice_index rec.addresses r

      at : AddressAt shape pages n r a
      at = record { rec = rec; is_node = is; in_slot = slot_of rec.addresses r (omega (arith, below, sixteen)); not_zero = far }

      good : GoodAddress shape pages rec.kind a
      good = right.good n r a at

      sp : (ps : List Pointer) × (indirect_of good.bytes ≡ Some ps) × NamesPhysical shape ps
      sp = good.spelled is_file

      is_one : is_indirect (pointers 256 good.bytes) ≡ true
      is_one = of_test (is_indirect (pointers 256 good.bytes)) (bytes_eq (indirect_bytes (pointers 256 good.bytes)) good.bytes) (pointers 256 good.bytes) sp.0 sp.1

      found : (j : ℕ) × (j < length (pointers 256 good.bytes)) × (not (is_none_pointer (get_or (pointers 256 good.bytes) j no_pointer)) ≡ true)
      found = any_at (λ p. not (is_none_pointer p)) no_pointer (pointers 256 good.bytes) (and_parts (length (pointers 256 good.bytes) == 256 && list_all is_pointer (pointers 256 good.bytes)) (list_any (λ p. not (is_none_pointer p)) (pointers 256 good.bytes)) is_one).1

      j_below : found.0 < 256
      j_below = omega (arith, found.1, length-each_of pointer_fields 16 256 good.bytes)

      i : ℕ
      i = 8 + 256 * r + found.0

      q : Pointer
      q = get_or (pointers 256 good.bytes) found.0 no_pointer

      not_none : not (is_none_pointer q) ≡ true
      not_none = found.2

      q_is : pointer_in_page pages a found.0 ≡ q
      q_is =
          sym (in_page pages a found.0 j_below)
          ∙ ap (λ (l : List Pointer). get_or l found.0 no_pointer) (cond-false (a == 0) _ (pointers 256 (bytes_at pages a)) (ne_eqb a 0 far) ∙ ap (λ (o : Option (List ℕ)). pointers 256 (unwrap_or o [])) good.committed)

      range : (i - 8) / 256 ≡ r
      range = omega (arith, j_below)

      inside : (i - 8) % 256 ≡ found.0
      inside = omega (arith, j_below)

      here : pointer_at pages rec i ≡ q
      here =
          cond-false (nat_lt i 8) _ (pointer_in_page pages (slice_index rec.addresses ((i - 8) / 256)) ((i - 8) % 256)) (le-ltb i 8 (omega arith))
          ∙ (λ k. pointer_in_page pages (slice_index rec.addresses (range k)) (inside k)) ∙ q_is

  pub range_there : rec.kind ≡ File → (r : ℕ) → r < 16 → list_any (λ (p : ℕ × Pointer). nat_le (8 + 256 * r) p.0 && nat_lt p.0 (264 + 256 * r)) (pointers_of_inode pages rec) ≡ not (slice_index rec.addresses r == 0)
  range_there is_file r below = by (cases_eq (slice_index rec.addresses r) 0)
    where
      by : (slice_index rec.addresses r ≡ 0) ⊎ (slice_index rec.addresses r ≡ 0 → ⊥) → list_any (λ (p : ℕ × Pointer). nat_le (8 + 256 * r) p.0 && nat_lt p.0 (264 + 256 * r)) (pointers_of_inode pages rec) ≡ not (slice_index rec.addresses r == 0)
      by (inl e) = none_there r e ∙ sym (not_from_true _ (eq-eqb _ _ e))
      by (inr far) = some_there is_file r below far ∙ sym (not_from_false _ (ne_eqb _ _ far))
