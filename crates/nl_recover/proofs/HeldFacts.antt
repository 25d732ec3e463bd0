-- The list of all pointers, index by index and node by node.
use Rattle.std.proofs.Common.{◌≡◌, ◌≢◌, ℕ, zero, suc, ◌+◌, ◌-◌, ◌*◌, ◌/◌, ◌%◌, ◌<◌, ◌≤◌, Bool, true, false, not, cond, List, [], ◌∷◌, ◌++◌, length, map, filter, flat_map, get_or, refl, sym, ap, subst, ◌∙◌, Option, Some, None, is_some, ◌⊎◌, inl, inr, arith, nat_lt, append_assoc, length-append}
use Rattle.std.proofs.lemmas.Bool.{cond-false, cases_lt, cond-true, le-ltb, lt-ltb}
use Rattle.std.proofs.lemmas.Grind.{flat_map-append}
use Rattle.std.specs.List.{enumerate_from, range_with_len}
use Rattle.std.specs.Prelude.{slice_index}
use Rattle.nl_field.specs.Members.{Has}
use Rattle.nl_field.specs.Pointers.{is_none_pointer, no_pointer}
use Rattle.nl_field.specs.declared.inode.InodeRec.{InodeRec}
use Rattle.nl_field.specs.declared.inode.Kind.{Kind}
use Rattle.nl_field.specs.declared.inode.Kind.TheVariants.{Dir, File, Unused}
use Rattle.nl_field.specs.declared.pointer.Pointer.{Pointer}
use Rattle.nl_field.specs.declared.shape.Shape.{Shape}
use Rattle.nl_meta.specs.Committed.{VirtualMap}
use Rattle.nl_meta.specs.Consistent.{AddressesRight, IsNode}
use Rattle.nl_meta.specs.Nodes.{Held, body_of, graph_of, held_by, held_in, inode_at, node_from, pointer_at, pointer_in_page, pointers_at, pointers_of, pointers_of_inode, slots_of}
use Rattle.nl_meta.proofs.Lists.{member-range, none_some, some_in}
use Rattle.nl_meta.proofs.SlotProofs.{at_index, pointers_length}
use Rattle.nl_indirect.specs.Ranges.{HasPointers, HasRange, IsFileRecord, address_of, some_pointer}
use Rattle.nl_indirect.proofs.LawProofs.{file_of_node}
use Rattle.nl_indirect.proofs.Records.{file-parts}
use Rattle.nl_recover.specs.Held.{pointers_at_node, held_entry, held_from, held_index}
use Rattle.nl_recover.proofs.Scans.{range-grows, upto}

-- ---- indexes in a row

module _ (pages : VirtualMap) (n : ℕ) (rec : InodeRec) where
  abbrev part : ℕ → ℕ → List Held
  part from count = held_from pages n rec from count

  pub from-none : (a : ℕ) → part a 0 ≡ []
  unfolding held_from
  from-none a = refl

  from-joins : (a b k w : ℕ) → b ≡ a + k → part a (k + w) ≡ part a k ++ part b w
  unfolding held_from
  from-joins a b k w e = ap (flat_map (held_index pages n rec)) (range-grows a b k w e) ∙ flat_map-append (held_index pages n rec) (range_with_len a k) (range_with_len b w)

  one : (a : ℕ) → part a 1 ≡ held_index pages n rec a
  unfolding held_from
  one a = end (held_index pages n rec a)
    where
      end : (ys : List Held) → ys ++ [] ≡ ys
      end [] = refl
      end (y ∷ ys) = ap (λ zs. y ∷ zs) (end ys)

  -- a list that was lengthened by the indexes so far
  pub pieces-more : (a k : ℕ) (xs ys zs : List Held) → ys ≡ xs ++ part a k → zs ≡ ys ++ held_index pages n rec (a + k) → zs ≡ xs ++ part a (k + 1)
  pieces-more a k xs ys zs e h =
      h ∙ ap (λ (l : List Held). l ++ held_index pages n rec (a + k)) e ∙ append_assoc xs (part a k) (held_index pages n rec (a + k))
      ∙ sym (ap (λ (l : List Held). xs ++ l) (from-joins a (a + k) k 1 refl ∙ ap (λ (l : List Held). part a k ++ l) (one (a + k))))

  pub rows-more : (a w b : ℕ) (xs ys zs : List Held) → b ≡ a + w → ys ≡ xs ++ part 0 a → zs ≡ ys ++ part a w → zs ≡ xs ++ part 0 b
  rows-more a w b xs ys zs at e h =
      h ∙ ap (λ (l : List Held). l ++ part a w) e ∙ append_assoc xs (part 0 a) (part a w)
      ∙ sym (ap (λ (l : List Held). xs ++ l) (ap (part 0) at ∙ from-joins 0 a a w (omega arith)))

  nothing : (k a : ℕ) → ((i : ℕ) → a ≤ i → i < a + k → held_index pages n rec i ≡ []) → part a k ≡ []
  unfolding held_from
  nothing zero a none = refl
  nothing (suc k) a none = ap (λ (xs : List Held). xs ++ flat_map (held_index pages n rec) (range_with_len (a + 1) k)) (none a (omega arith) (omega arith)) ∙ nothing k (a + 1) (λ i h m. none i (omega (arith, h)) (omega (arith, m)))

pub alike : {X : Type 0} (f g : ℕ → List X) (ns : List ℕ) → ((n : ℕ) → Has ns n → f n ≡ g n) → flat_map f ns ≡ flat_map g ns
alike f g [] e = refl
alike {X} f g (n ∷ ns) e = λ i. e n (inl refl) i ++ alike f g ns (λ m h. e m (inr h)) i

-- ---- one file

module _ (n : ℕ) (rec : InodeRec) (g : ℕ → Pointer) where
  abbrev held : ℕ × Pointer → Held
  held p = held_entry n rec p.0 p.1

  abbrev some : ℕ × Pointer → Bool
  some p = not (is_none_pointer p.1)

  abbrev at : ℕ → List Held
  at i = cond (is_none_pointer (g i)) [] (held_entry n rec i (g i) ∷ [])

  here-at : (a : ℕ) (p : Pointer) (ps : List Pointer) → ((k : ℕ) → k < length (p ∷ ps) → g (a + k) ≡ get_or (p ∷ ps) k no_pointer) → g a ≡ p
  here-at a p ps same = ap g from ∙ same 0 (omega arith)
    where
      from : a ≡ a + 0
      from = omega arith

  later-at : (a : ℕ) (p : Pointer) (ps : List Pointer) → ((k : ℕ) → k < length (p ∷ ps) → g (a + k) ≡ get_or (p ∷ ps) k no_pointer) → (k : ℕ) → k < length ps → g ((a + 1) + k) ≡ get_or ps k no_pointer
  later-at a p ps same k h = ap g (next k) ∙ same (suc k) (omega (arith, h))
    where
      next : (k : ℕ) → (a + 1) + k ≡ a + suc k
      next k = omega arith

  first-at : (a : ℕ) (p : Pointer) (rest : List (ℕ × Pointer)) (ys : List Held) → g a ≡ p → map held (filter some rest) ≡ ys → map held (filter some ((a, p) ∷ rest)) ≡ at a ++ ys
  first-at a p rest ys is e =
      ap (λ (q : Pointer). map held (cond (not (is_none_pointer q)) ((a, q) ∷ filter some rest) (filter some rest))) (sym is)
      ∙ elim (is_none_pointer (g a)) as (λ b. map held (cond (not b) ((a, g a) ∷ filter some rest) (filter some rest)) ≡ cond b [] (held_entry n rec a (g a) ∷ []) ++ ys) [
        | true ↦ e
        | false ↦ ap (λ (l : List Held). held_entry n rec a (g a) ∷ l) e
      ]

  enumerated : (ps : List Pointer) (a : ℕ) → ((k : ℕ) → k < length ps → g (a + k) ≡ get_or ps k no_pointer) → map held (filter some (enumerate_from a ps)) ≡ flat_map at (range_with_len a (length ps))
  enumerated [] a same = refl
  enumerated (p ∷ ps) a same = first-at a p (enumerate_from (a + 1) ps) _ (here-at a p ps same) (enumerated ps (a + 1) (later-at a p ps same))

module _ (pages : VirtualMap) where
  all-pointers : (xs : List ℕ) → length (flat_map (pointers_at pages) xs) ≡ 256 * length xs
  all-pointers [] = refl
  all-pointers (x ∷ xs) =
      let a = length-append (pointers_at pages x) (flat_map (pointers_at pages) xs) in
      let b = pointers_length pages x in
      let c = all-pointers xs in
      omega (arith, a, b, c)

  file-list : (n : ℕ) (rec : InodeRec) → IsFileRecord rec → map (λ (p : ℕ × Pointer). held_entry n rec p.0 p.1) (pointers_of_inode pages rec) ≡ held_from pages n rec 0 4104
  unfolding pointers_of_inode held_from
  file-list n rec is =
      enumerated n rec (pointer_at pages rec) (rec.direct ++ flat_map (pointers_at pages) (slots_of rec)) 0
      (λ k h. ap (pointer_at pages rec) (from k) ∙ sym (at_index pages rec k (file-parts rec is).direct))
      ∙ ap (λ (m : ℕ). flat_map (held_index pages n rec) (range_with_len 0 m)) count
    where
      from : (k : ℕ) → 0 + k ≡ k
      from k = omega arith

      count : length (rec.direct ++ flat_map (pointers_at pages) (slots_of rec)) ≡ 4104
      count =
          let a = length-append rec.direct (flat_map (pointers_at pages) (slots_of rec)) in
          let b = (file-parts rec is).direct in
          let c = all-pointers (slots_of rec) in
          let d = (file-parts rec is).addresses in
          omega (arith, a, b, c, d)

  pub file-held : (n : ℕ) (rec : InodeRec) → Some rec ≡ inode_at pages n → IsFileRecord rec → held_from pages n rec 0 4104 ≡ pointers_at_node pages n
  file-held n rec at is =
      sym (ap (λ (o : Option InodeRec). held_by n (node_from pages o)) (sym at) ∙ ap (λ (k : Kind). held_by n (record { generation = rec.generation; body = body_of pages rec k })) is.kind ∙ file-list n rec is)

  pub dir-held : (n : ℕ) (rec : InodeRec) → Some rec ≡ inode_at pages n → rec.kind ≡ Dir → [] ≡ pointers_at_node pages n
  dir-held n rec at is = sym (ap (λ (o : Option InodeRec). held_by n (node_from pages o)) (sym at) ∙ ap (λ (k : Kind). held_by n (record { generation = rec.generation; body = body_of pages rec k })) is)

  pub unused-held : (n : ℕ) (rec : InodeRec) → Some rec ≡ inode_at pages n → rec.kind ≡ Unused → [] ≡ pointers_at_node pages n
  unused-held n rec at is = sym (ap (λ (o : Option InodeRec). held_by n (node_from pages o)) (sym at) ∙ ap (λ (k : Kind). held_by n (record { generation = rec.generation; body = body_of pages rec k })) is)

  pub none-held : (n : ℕ) → None ≡ inode_at pages n → [] ≡ pointers_at_node pages n
  none-held n at = sym (ap (λ (o : Option InodeRec). held_by n (node_from pages o)) (sym at))

  no-pointer-in : (rec : InodeRec) (r i : ℕ) → slice_index (slots_of rec) r ≡ 0 → 8 + 256 * r ≤ i → i < 8 + 256 * r + 256 → pointer_at pages rec i ≡ no_pointer
  unfolding pointer_at
  no-pointer-in rec r i at low high =
      cond-false (nat_lt i 8) _ _ (le-ltb i 8 (omega (arith, low))) ∙ ap (λ (v : ℕ). pointer_in_page pages v ((i - 8) % 256)) (ap (slice_index (slots_of rec)) row ∙ at)
    where
      row : (i - 8) / 256 ≡ r
      row = omega (arith, low, high)

  -- a range without an address
  pub no-range : (n : ℕ) (rec : InodeRec) (r : ℕ) → slice_index (slots_of rec) r ≡ 0 → [] ≡ held_from pages n rec (8 + 256 * r) 256
  no-range n rec r at = sym (nothing pages n rec 256 (8 + 256 * r) (λ i low high. by i low high))
    where
      by : (i : ℕ) → 8 + 256 * r ≤ i → i < 8 + 256 * r + 256 → held_index pages n rec i ≡ []
      by i low high = ap (λ (p : Pointer). cond (is_none_pointer p) [] (held_entry n rec i p ∷ [])) (no-pointer-in rec r i at low high)

  -- one index
  pub some-here : (n : ℕ) (rec : InodeRec) (i : ℕ) (p : Pointer) → Some p ≡ some_pointer (pointer_at pages rec i) → held_entry n rec i p ∷ [] ≡ held_index pages n rec i
  some-here n rec i p e =
      elim (is_none_pointer (pointer_at pages rec i)) as (λ b. Some p ≡ cond b None (Some (pointer_at pages rec i)) → held_entry n rec i p ∷ [] ≡ cond b [] (held_entry n rec i (pointer_at pages rec i) ∷ [])) [
        | true ↦ λ e. absurd (none_some p (sym e))
        | false ↦ λ e. ap (λ (q : Pointer). held_entry n rec i q ∷ []) (some_in _ _ e)
      ] e

module _ (pages : VirtualMap) (n : ℕ) (rec : InodeRec) where
  end : (xs ys : List Held) → ys ≡ [] → xs ≡ xs ++ ys
  end [] ys e = sym e
  end (x ∷ xs) ys e = ap (λ zs. x ∷ zs) (end xs ys e)

  pub starts : (a : ℕ) (xs : List Held) → xs ≡ xs ++ held_from pages n rec a 0
  starts a xs = end xs _ (from-none pages n rec a)

  pub skips : (r : ℕ) (xs : List Held) → slice_index (slots_of rec) r ≡ 0 → xs ≡ xs ++ held_from pages n rec (8 + 256 * r) 256
  skips r xs e = end xs _ (sym (no-range pages n rec r e))

-- ---- all files

module _ (shape : Shape) (pages : VirtualMap) where
  pub all-held : held_in shape pages ≡ upto (pointers_at_node pages) shape.nodes
  unfolding pointers_of graph_of
  all-held = alike (λ n. held_by n (node_from pages (cond (nat_lt n shape.nodes) (inode_at pages n) None))) (pointers_at_node pages) (range_with_len 0 shape.nodes) (λ n m. inside n (member-range n 0 shape.nodes m).1)
    where
      inside : (n : ℕ) → n < 0 + shape.nodes → held_by n (node_from pages (cond (nat_lt n shape.nodes) (inode_at pages n) None)) ≡ pointers_at_node pages n
      inside n h = ap (λ (o : Option InodeRec). held_by n (node_from pages o)) (cond-true (nat_lt n shape.nodes) (inode_at pages n) None (lt-ltb n shape.nodes (omega (arith, h))))

  is-node : (n : ℕ) (rec : InodeRec) → n < shape.nodes → Some rec ≡ inode_at pages n → rec.kind ≡ File → IsNode shape pages n rec
  is-node n rec h at is = record { below = h; spelled = sym at; used = λ e. file-unused (sym is ∙ e) }
    where
      file-unused : File ≡ Unused → ⊥
      file-unused e = cc

  pub file-record : AddressesRight shape pages → (n : ℕ) (rec : InodeRec) → n < shape.nodes → Some rec ≡ inode_at pages n → rec.kind ≡ File → IsFileRecord rec
  file-record right n rec h at is = (file_of_node shape pages n rec right (is-node n rec h at is) is).file

  pub file-ranges : AddressesRight shape pages → (n : ℕ) (rec : InodeRec) → n < shape.nodes → Some rec ≡ inode_at pages n → rec.kind ≡ File → (i : ℕ) → HasRange pages rec i
  file-ranges right n rec h at is i far = by i far (cases_lt i 8)
    where
      has : (r : ℕ) → slice_index (slots_of rec) r ≢ 0 → HasPointers pages (slice_index (slots_of rec) r)
      has r far =
          let good = (file_of_node shape pages n rec right (is-node n rec h at is) is).good r far in
          record { bytes = good.bytes; there = good.committed; spelled = ap is_some (good.spelled refl).1 }

      by : (i : ℕ) → address_of rec i ≢ 0 → (i < 8) ⊎ (8 ≤ i) → HasPointers pages (address_of rec i)
      by i far (inl low) = absurd (far (cond-true (nat_lt i 8) 0 _ (lt-ltb i 8 low)))
      by i far (inr high) =
          let same : address_of rec i ≡ slice_index (slots_of rec) ((i - 8) / 256) = cond-false (nat_lt i 8) 0 _ (le-ltb i 8 high) in
          subst (HasPointers pages) (sym same) (has ((i - 8) / 256) (λ z. far (same ∙ z)))
