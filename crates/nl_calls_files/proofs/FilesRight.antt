-- Metadata stays right where one file changes that has its pages.
use Rattle.std.proofs.Common.{◌≡◌, ◌≢◌, ◌⊎◌, inl, inr, ℕ, suc, ◌+◌, ◌<◌, ◌≤◌, ◌==◌, Bool, true, false, not, List, [], ◌∷◌, ◌++◌, map, flat_map, get_or, Option, refl, sym, ap, subst, ◌∙◌, arith}
use Rattle.std.proofs.lemmas.Bool.{cases_eq, cond-true, eq-eqb, lt-ltb}
use Rattle.std.specs.Int.{div_ceil}
use Rattle.std.specs.List.{enumerate_from, range_with_len}
use Rattle.std.specs.Prelude.{nat_lt}
use Rattle.nl_field.specs.Graph.{GraphNode, file_node}
use Rattle.nl_field.specs.Members as members
use Rattle.nl_field.specs.Pointers.{is_none_pointer, no_pointer}
use Rattle.nl_field.specs.declared.inode.InodeRec.{InodeRec}
use Rattle.nl_field.specs.declared.inode.Kind.{Kind}
use Rattle.nl_field.specs.declared.pointer.Pointer.{Pointer}
use Rattle.nl_field.specs.declared.pointer.Tag.{Tag}
use Rattle.nl_field.specs.declared.shape.Shape.{Shape}
use Rattle.nl_iface.specs.Holders.{one, tagged, times}
use Rattle.nl_iface.specs.Names.{Has, LivePage, Names, led}
use Rattle.nl_meta.specs.Committed.{VirtualMap}
use Rattle.nl_meta.specs.Consistent.{PointerIsThere, OnePointer, PageOfStamp, PointersRight, RightFor}
use Rattle.nl_meta.specs.Nodes.{Held, body_of, graph_of, held_by, held_in, inode_at, node_from, pointer_at, pointers_at, pointers_of, pointers_of_inode}
use Rattle.nl_meta.specs.PointerLists.{tagged_in, with_tag}
use Rattle.nl_meta.proofs.Lists.{flat-member, member-filter, member-flat, member-map, some_in}
use Rattle.nl_meta.proofs.SlotProofs.{at_index}
use Rattle.nl_calls_files.specs.FileTrees.{FileIsOf, FileStaysRight, held_pointer}

-- ---- lists

pub tagged_has : (hs : List Held) (h : Held) → members.Has hs h → Has (map with_tag hs) (h.tag, h.pointer)
tagged_has [] h has = absurd has
tagged_has (x ∷ hs) h (inl e) = inl (ap with_tag e)
tagged_has (x ∷ hs) h (inr has) = inr (tagged_has hs h has)

one_yes : (s t : ℕ) → s ≡ t → 1 ≤ one s t
one_yes s t e = let n : one s t ≡ 1 = cond-true (s == t) 1 0 (eq-eqb s t e) in omega (arith, n)

counted : (xs : List (Tag × Pointer)) (x : Tag × Pointer) (s : ℕ) → Has xs x → x.1.stamp ≡ s → 1 ≤ times tagged s xs
counted [] x s has e = absurd has
counted (y ∷ ys) x s (inl same) e = let n = one_yes y.1.stamp s (ap (λ (z : Tag × Pointer). z.1.stamp) same ∙ e) in omega (arith, n)
counted (y ∷ ys) x s (inr has) e = let n = counted ys x s has e in omega (arith, n)

-- where a number stands once, whoever has it is one
is_one : (xs : List (Tag × Pointer)) (x y : Tag × Pointer) (s : ℕ) → Has xs x → Has xs y → x.1.stamp ≡ s → y.1.stamp ≡ s → times tagged s xs ≤ 1 → x ≡ y
is_one [] x y s has also e f few = absurd has
is_one (z ∷ zs) x y s (inl a) (inl b) e f few = sym a ∙ b
is_one (z ∷ zs) x y s (inl a) (inr b) e f few =
    let n = one_yes z.1.stamp s (ap (λ (w : Tag × Pointer). w.1.stamp) a ∙ e) in
    let m = counted zs y s b f in
    absurd (omega (arith, n, m, few))
is_one (z ∷ zs) x y s (inr a) (inl b) e f few =
    let n = one_yes z.1.stamp s (ap (λ (w : Tag × Pointer). w.1.stamp) b ∙ f) in
    let m = counted zs x s a e in
    absurd (omega (arith, n, m, few))
is_one (z ∷ zs) x y s (inr a) (inr b) e f few = is_one zs x y s a b e f (omega (arith, few))

-- a number's place among those from one on
numbered : (a : ℕ) (xs : List Pointer) (p : ℕ × Pointer) → members.Has (enumerate_from a xs) p → (i : ℕ) × (p.0 ≡ a + i) × (p.1 ≡ get_or xs i no_pointer)
numbered a [] p has = absurd has
numbered a (x ∷ xs) p (inl e) = (0, ap (λ (q : ℕ × Pointer). q.0) (sym e) ∙ omega arith, ap (λ (q : ℕ × Pointer). q.1) (sym e))
numbered a (x ∷ xs) p (inr has) = let k = numbered (a + 1) xs p has in let at = k.1 in (suc k.0, omega (arith, at), k.2)

not_false : (b : Bool) → not b ≡ true → b ≡ false
not_false true e = cc
not_false false e = refl

module _ (shape : Shape) (old new : VirtualMap) (page_of_stamp : ℕ → Option PageOfStamp) (names : Names) (n : ℕ) (is : InodeRec) (c : FileIsOf shape old new page_of_stamp names n is) where
  node_is : graph_of shape new n ≡ record { generation = is.generation; body = file_node is.size (pointers_of_inode new is) }
  unfolding graph_of
  node_is =
      ap (node_from new) (cond-true (nat_lt n shape.nodes) (inode_at new n) _ (lt-ltb n shape.nodes c.file.below) ∙ c.file.spelled)
      ∙ ap (λ (k : Kind). record { generation = is.generation; body = body_of new is k }) c.file.kind

  -- a pointer of the file is that of its index
  pointer_is : (p : ℕ × Pointer) → members.Has (pointers_of_inode new is) p → (p.1 ≡ pointer_at new is p.0) × (is_none_pointer p.1 ≡ false)
  unfolding pointers_of_inode
  pointer_is p has =
      let k = member-filter (λ (q : ℕ × Pointer). not (is_none_pointer q.1)) (enumerate_from 0 (is.direct ++ flat_map (pointers_at new) is.addresses)) p has in
      let at = numbered 0 (is.direct ++ flat_map (pointers_at new) is.addresses) p k.0 in
      (at.2 ∙ at_index new is at.0 c.file.direct ∙ ap (pointer_at new is) (let e = at.1 in omega (arith, e)), not_false (is_none_pointer p.1) k.1)

  -- what holds a page now: the file at an index, or it did before
  pub data Holds (h : Held) : Type 0 where
    of_file : (i : ℕ) → is_none_pointer (pointer_at new is i) ≡ false → held_pointer n new is i ≡ h → Holds h
    as_before : members.Has (held_in shape old) h → Holds h

  holds : (h : Held) → members.Has (held_in shape new) h → Holds h
  unfolding pointers_of
  holds h has =
      let k = member-flat (λ m. held_by m (graph_of shape new m)) (range_with_len 0 shape.nodes) h has in
      by k.0 k.1 k.2 (cases_eq k.0 n)
    where
      by : (m : ℕ) → members.Has (range_with_len 0 shape.nodes) m → members.Has (held_by m (graph_of shape new m)) h → (m ≡ n) ⊎ (m ≢ n) → Holds h
      by m in_range in_node (inl e) =
          let at : members.Has (held_by n (record { generation = is.generation; body = file_node is.size (pointers_of_inode new is) })) h =
          subst (λ (x : GraphNode). members.Has (held_by n x) h) node_is (subst (λ (j : ℕ). members.Has (held_by j (graph_of shape new j)) h) e in_node) in
          let q = member-map (λ (p : ℕ × Pointer). record { size = is.size; tag = record { ino = n; generation = is.generation; index = p.0 }; pointer = p.1 }) (pointers_of_inode new is) h at in
          let p = pointer_is q.0 q.1 in
          of_file q.0.0 (subst (λ (x : Pointer). is_none_pointer x ≡ false) p.0 p.1)
          (ap (λ (x : Pointer). record { size = is.size; tag = record { ino = n; generation = is.generation; index = q.0.0 }; pointer = x }) (sym p.0) ∙ q.2)
      by m in_range in_node (inr far) = as_before (flat-member (λ j. held_by j (graph_of shape old j)) (range_with_len 0 shape.nodes) m h in_range
          (subst (λ (x : GraphNode). members.Has (held_by m x) h) (c.others m far) in_node))

  one_page : (h k : Held) → members.Has (held_in shape new) h → members.Has (held_in shape new) k → h.pointer.name ≡ k.pointer.name → OnePointer h k
  one_page h k has also e =
      let a = (c.lead.leads (h.tag, h.pointer) (tagged_has (held_in shape new) h has)).leads in
      let b = (c.lead.leads (k.tag, k.pointer) (tagged_has (held_in shape new) k also)).leads in
      let page : a.0 ≡ b.0 = some_in a.0 b.0 (sym a.1 ∙ ap (λ m. names.live (led names m)) e ∙ b.1) in
      let tag : h.tag ≡ k.tag = sym a.2.0 ∙ ap (λ (p : LivePage). p.tag) page ∙ b.2.0 in
      (ap (λ (t : Tag). t.ino) tag, ap (λ (t : Tag). t.index) tag)

  one_number : (h k : Held) → members.Has (held_in shape new) h → members.Has (held_in shape new) k → h.pointer.stamp ≡ k.pointer.stamp → OnePointer h k
  one_number h k has also e =
      let same = is_one (tagged_in shape new) (h.tag, h.pointer) (k.tag, k.pointer) k.pointer.stamp (tagged_has (held_in shape new) h has) (tagged_has (held_in shape new) k also) e refl (c.lead.once k.pointer.stamp) in
      (ap (λ (x : Tag × Pointer). x.0.ino) same, ap (λ (x : Tag × Pointer). x.0.index) same)

  pointers_right : PointersRight (held_in shape new) (PointerIsThere page_of_stamp)
  pointers_right = record {
    below = λ h has. below h (holds h has);
    there = λ h has. there h (holds h has);
    stamps_differ = one_number;
    names_differ = one_page;
  }
    where
      below : (h : Held) → Holds h → h.tag.index < div_ceil h.size 4096
      below h (of_file i some e) = subst (λ (x : Held). x.tag.index < div_ceil x.size 4096) e (c.pages.below i some)
      below h (as_before has) = c.right_before.tree.pointers.below h has

      there : (h : Held) → Holds h → PointerIsThere page_of_stamp h
      there h (of_file i some e) = subst (PointerIsThere page_of_stamp) e (c.pages.there i some)
      there h (as_before has) = c.right_before.tree.pointers.there h has

  pub stays_right : RightFor shape new page_of_stamp
  stays_right = record {
    legal = c.right_before.legal;
    numbers = c.right_before.numbers;
    tree = record { nodes = c.nodes; addresses = c.addresses; entries = c.entries; pointers = pointers_right };
  }

pub file_stays_right : FileStaysRight
file_stays_right shape old new page_of_stamp names n is c = stays_right shape old new page_of_stamp names n is c
