-- The pointers of a file, index by index, whatever its addresses lead to.
use Rattle.std.proofs.Common.{◌≡◌, ℕ, suc, ◌+◌, ◌*◌, ◌<◌, ◌==◌, Bool, true, false, not, cond, List, [], ◌∷◌, ◌++◌, length, map, filter, flat_map, get_or, refl, sym, ap, ◌∙◌, Option, Some, None, unwrap_or, arith, ◌&&◌, length-append}
use Rattle.std.proofs.lemmas.Bool.{and_parts, cond-false, cond-true, eqb-true}
use Rattle.std.specs.List.{enumerate_from, range_with_len}
use Rattle.nl_field.specs.Inode.{is_inode, is_inode_of_kind}
use Rattle.nl_field.specs.Pointers.{is_none_pointer, no_pointer, pointer_fields}
use Rattle.nl_field.specs.Spelling.{u32_at, u64_at}
use Rattle.nl_field.specs.declared.inode.InodeRec.{InodeRec}
use Rattle.nl_field.specs.declared.inode.Kind.{Kind}
use Rattle.nl_field.specs.declared.inode.Kind.TheVariants.{File}
use Rattle.nl_field.specs.declared.pointer.Pointer.{Pointer}
use Rattle.nl_meta.specs.Committed.{VirtualMap}
use Rattle.nl_meta.specs.Nodes.{Held, body_of, held_by, inode_at, node_from, pointer_at, pointer_in_page, pointers_at, pointers_of_inode, slot_in, slots_of}
use Rattle.nl_meta.proofs.SlotProofs.{at_index, pointers_length}
use Rattle.nl_recover.specs.Held.{pointers_at_node, held_entry, held_from, held_index}
use Rattle.nl_recover.proofs.LookFacts.{slot-nil, spelled}

-- ---- a page that is not there

pub no-fields : pointer_fields [] ≡ no_pointer
unfolding pointer_fields u32_at u64_at
no-fields = refl

pub not-there : (pages : VirtualMap) (v i : ℕ) → pages v ≡ None → no_pointer ≡ pointer_in_page pages v i
not-there pages v i gone = sym (by (v == 0))
  where
    nothing : pointer_fields (slot_in 16 i (unwrap_or (pages v) [])) ≡ no_pointer
    nothing = ap (λ (o : Option (List ℕ)). pointer_fields (slot_in 16 i (unwrap_or o []))) gone ∙ ap pointer_fields (slot-nil 16 i) ∙ no-fields

    by : (b : Bool) → cond b no_pointer (pointer_fields (slot_in 16 i (unwrap_or (pages v) []))) ≡ no_pointer
    by true = refl
    by false = nothing

-- ---- one file

module _ (n : ℕ) (rec : InodeRec) (g : ℕ → Pointer) where
  abbrev held : ℕ × Pointer → Held
  held p = held_entry n rec p.0 p.1

  abbrev some : ℕ × Pointer → Bool
  some p = not (is_none_pointer p.1)

  abbrev at : ℕ → List Held
  at i = cond (is_none_pointer (g i)) [] (held_entry n rec i (g i) ∷ [])

  here-at : (a : ℕ) (p : Pointer) (ps : List Pointer) → ((k : ℕ) → k < length (p ∷ ps) → g (a + k) ≡ get_or (p ∷ ps) k no_pointer) → g a ≡ p
  here-at a p ps same = ap g from ∙ same 0 (omega arith)
    where
      from : a ≡ a + 0
      from = omega arith

  later-at : (a : ℕ) (p : Pointer) (ps : List Pointer) → ((k : ℕ) → k < length (p ∷ ps) → g (a + k) ≡ get_or (p ∷ ps) k no_pointer) → (k : ℕ) → k < length ps → g ((a + 1) + k) ≡ get_or ps k no_pointer
  later-at a p ps same k h = ap g (next k) ∙ same (suc k) (omega (arith, h))
    where
      next : (k : ℕ) → (a + 1) + k ≡ a + suc k
      next k = omega arith

  first-at : (a : ℕ) (p : Pointer) (rest : List (ℕ × Pointer)) (ys : List Held) → g a ≡ p → map held (filter some rest) ≡ ys → map held (filter some ((a, p) ∷ rest)) ≡ at a ++ ys
  first-at a p rest ys is e =
      ap (λ (q : Pointer). map held (cond (not (is_none_pointer q)) ((a, q) ∷ filter some rest) (filter some rest))) (sym is)
      ∙ elim (is_none_pointer (g a)) as (λ b. map held (cond (not b) ((a, g a) ∷ filter some rest) (filter some rest)) ≡ cond b [] (held_entry n rec a (g a) ∷ []) ++ ys) [
        | true ↦ e
        | false ↦ ap (λ (l : List Held). held_entry n rec a (g a) ∷ l) e
      ]

  enumerated : (ps : List Pointer) (a : ℕ) → ((k : ℕ) → k < length ps → g (a + k) ≡ get_or ps k no_pointer) → map held (filter some (enumerate_from a ps)) ≡ flat_map at (range_with_len a (length ps))
  enumerated [] a same = refl
  enumerated (p ∷ ps) a same = first-at a p (enumerate_from (a + 1) ps) _ (here-at a p ps same) (enumerated ps (a + 1) (later-at a p ps same))

module _ (pages : VirtualMap) where
  all-pointers : (xs : List ℕ) → length (flat_map (pointers_at pages) xs) ≡ 256 * length xs
  all-pointers [] = refl
  all-pointers (x ∷ xs) =
      let a = length-append (pointers_at pages x) (flat_map (pointers_at pages) xs) in
      let b = pointers_length pages x in
      let c = all-pointers xs in
      omega (arith, a, b, c)

  file-list : (n : ℕ) (rec : InodeRec) → is_inode rec ≡ true → map (λ (p : ℕ × Pointer). held_entry n rec p.0 p.1) (pointers_of_inode pages rec) ≡ held_from pages n rec 0 4104
  unfolding pointers_of_inode held_from
  file-list n rec is =
      enumerated n rec (pointer_at pages rec) (rec.direct ++ flat_map (pointers_at pages) (slots_of rec)) 0
      (λ k h. ap (pointer_at pages rec) (from k) ∙ sym (at_index pages rec k direct))
      ∙ ap (λ (m : ℕ). flat_map (held_index pages n rec) (range_with_len 0 m)) count
    where
      sizes : (length rec.direct == 8 && length rec.addresses == 16) ≡ true
      sizes = (and_parts (length rec.direct == 8 && length rec.addresses == 16) (is_inode_of_kind rec.kind rec) is).0

      direct : length rec.direct ≡ 8
      direct = eqb-true _ _ (and_parts (length rec.direct == 8) (length rec.addresses == 16) sizes).0

      from : (k : ℕ) → 0 + k ≡ k
      from k = omega arith

      count : length (rec.direct ++ flat_map (pointers_at pages) (slots_of rec)) ≡ 4104
      count =
          let a = length-append rec.direct (flat_map (pointers_at pages) (slots_of rec)) in
          let b = direct in
          let c = all-pointers (slots_of rec) in
          let d : length rec.addresses ≡ 16 = eqb-true _ _ (and_parts (length rec.direct == 8) (length rec.addresses == 16) sizes).1 in
          omega (arith, a, b, c, d)

  pub file-held : (n : ℕ) (rec : InodeRec) → Some rec ≡ inode_at pages n → rec.kind ≡ File → held_from pages n rec 0 4104 ≡ pointers_at_node pages n
  file-held n rec at file =
      sym (ap (λ (o : Option InodeRec). held_by n (node_from pages o)) (sym at) ∙ ap (λ (k : Kind). held_by n (record { generation = rec.generation; body = body_of pages rec k })) file
      ∙ file-list n rec (spelled pages n rec at))

  pub one-more : (n : ℕ) (rec : InodeRec) (i : ℕ) (p : Pointer) → p ≡ pointer_at pages rec i → is_none_pointer p ≡ false → held_entry n rec i p ∷ [] ≡ held_index pages n rec i
  one-more n rec i p is some = sym (sym (ap (λ (q : Pointer). cond (is_none_pointer q) [] (held_entry n rec i q ∷ [])) is) ∙ cond-false (is_none_pointer p) [] (held_entry n rec i p ∷ []) some)

  pub none-more : (n : ℕ) (rec : InodeRec) (i : ℕ) (p : Pointer) (xs : List Held) → p ≡ pointer_at pages rec i → is_none_pointer p ≡ true → xs ≡ xs ++ held_index pages n rec i
  none-more n rec i p xs is none = end xs (sym (ap (λ (q : Pointer). cond (is_none_pointer q) [] (held_entry n rec i q ∷ [])) is) ∙ cond-true (is_none_pointer p) [] (held_entry n rec i p ∷ []) none)
    where
      end : (ys : List Held) → held_index pages n rec i ≡ [] → ys ≡ ys ++ held_index pages n rec i
      end [] e = sym e
      end (y ∷ ys) e = ap (λ zs. y ∷ zs) (end ys e)
