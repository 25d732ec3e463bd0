-- The pointers of files.
use Rattle.std.proofs.Common.{◌≡◌, ℕ, ◌<◌, ◌≤◌, Bool, true, false, not, ◌&&◌, ◌||◌, cond, List, [], ◌++◌, flat_map, refl, sym, ap, ◌∙◌, Option, Some, None, option_map, ◌⊎◌, inl, inr, ◌≢◌, ◌-◌, ◌*◌, nat_lt, nat_le, ◌==◌}
use Rattle.std.proofs.lemmas.Bool.{or_parts, or_from, or_cases, or_left, or_right, not_from_true, not-false, and_parts, and_from, not_from_false, not-true, eqb-true, eqb-false, eq-eqb, ne_eqb, ltb-true, lt-ltb, leb-true, le-leb}
use Rattle.std.specs.Int.{div_ceil}
use Rattle.std.specs.List.{list_any, list_all, range_with_len}
use Rattle.std.specs.Prelude.{◌↔◌}
use Rattle.nl_field.specs.Graph.{GraphNode}
use Rattle.nl_field.specs.Members.{Has}
use Rattle.nl_field.specs.Pointers.{is_none_pointer}
use Rattle.nl_field.specs.SpareRecord.{stamp_of}
use Rattle.nl_field.specs.declared.inode.InodeRec.{InodeRec}
use Rattle.nl_field.specs.declared.inode.Kind.{Kind}
use Rattle.nl_field.specs.declared.inode.Kind.TheVariants.{Unused, File, Dir}
use Rattle.nl_field.specs.declared.pointer.Pointer.{Pointer}
use Rattle.nl_field.specs.declared.pointer.Tag.{Tag}
use Rattle.nl_field.specs.declared.seen.Seen.{Seen}
use Rattle.nl_field.specs.declared.shape.Shape.{Shape}
use Rattle.nl_field.specs.declared.spare.SpareRec.{SpareRec}
use Rattle.nl_field.specs.declared.spare.SpareRec.TheVariants.{Virtual, Physical}
use Rattle.nl_meta.specs.Committed.{VirtualMap}
use Rattle.nl_meta.specs.Consistent.{IsListed, IsPageOf, OnePointer, PointersRight}
use Rattle.nl_meta.specs.Nodes.{inode_at, Held, held_in, held_by, size_of, pointers_in, pointers_of_inode, pointers_at, body_of, node_from, graph_of, pointers_of}
use Rattle.nl_meta.specs.Walk.{first_after, is_page_of, has_page, is_bad_pointer, pointer_fault, tag_eq, has_tag}
use Rattle.nl_meta.proofs.Facts.{EachTwo, PointersListed}
use Rattle.nl_meta.proofs.Lists.{true_false, any_member, member_any, all-each, each-all, map_none, none_map, member-map}
use Rattle.nl_meta.proofs.Pairs.{FaultParts, first_none, none_first, two_map, two_members, two_within, two_and, flat_two, mapped_two, two_filtered, range_rises, enumerate_rises, itself}

shuffle_three : (p l z : Bool) → (p || l || z) ≡ (not (not (p || z)) || l)
shuffle_three true true true = refl
shuffle_three true true false = refl
shuffle_three true false true = refl
shuffle_three true false false = refl
shuffle_three false true true = refl
shuffle_three false true false = refl
shuffle_three false false true = refl
shuffle_three false false false = refl

tag_same : (t u : Tag) → tag_eq t u ≡ true → u ≡ t
tag_same t u e =
    let p = and_parts (t.ino == u.ino && t.generation == u.generation) (t.index == u.index) e in
    let q = and_parts (t.ino == u.ino) (t.generation == u.generation) p.0 in
    let ino = sym (eqb-true t.ino u.ino q.0) in
    let generation = sym (eqb-true t.generation u.generation q.1) in
    let index = sym (eqb-true t.index u.index p.1) in
    λ i. record { ino = ino i; generation = generation i; index = index i }

tag_itself : (t : Tag) → tag_eq t t ≡ true
tag_itself t = and_from _ _ (and_from _ _ (eq-eqb t.ino t.ino refl) (eq-eqb t.generation t.generation refl)) (eq-eqb t.index t.index refl)

of_tag : (tag : Tag) (stamp : ℕ) (rec : SpareRec) → has_tag tag rec ≡ true → stamp_of rec ≡ stamp → (wear : ℕ) × (rec ≡ Physical tag stamp wear)
of_tag tag stamp (Virtual vaddr s wear) e f = absurd (true_false (sym e))
of_tag tag stamp (Physical t s wear) e f = (wear, λ i. Physical (tag_same tag t e i) (f i) wear)

page_is : (h : Held) (s : Seen) → is_page_of h s ≡ true → IsPageOf h s.rec
page_is h s e =
    let p = and_parts _ _ e in
    let w = of_tag h.tag h.pointer.stamp s.rec p.1 (eqb-true _ _ p.0) in
    record { wear = w.0; record_on = w.1 }

is_page : (h : Held) (s : Seen) → IsPageOf h s.rec → is_page_of h s ≡ true
is_page h s p = and_from _ _ (eq-eqb _ _ (ap stamp_of p.record_on)) (ap (has_tag h.tag) p.record_on ∙ tag_itself h.tag)

module _ (physicals : List Seen) where
  abbrev own_pointer : Held → Bool
  own_pointer h = not (not (nat_lt h.tag.index (div_ceil h.size 4096)) || not (has_page physicals h))

  abbrev pointer_clash : Held → Held → Bool
  pointer_clash e h = e.pointer.stamp == h.pointer.stamp || e.pointer.name == h.pointer.name

  pointer_parts : FaultParts (is_bad_pointer physicals) own_pointer pointer_clash
  pointer_parts = record {
    parts = λ earlier h. shuffle_three (not (nat_lt h.tag.index (div_ceil h.size 4096))) (list_any (λ e. e.pointer.stamp == h.pointer.stamp || e.pointer.name == h.pointer.name) earlier)
        (not (has_page physicals h));
  }

  short : Held → Seen → Bool
  short h s = not (is_page_of h s) || nat_le s.zeros (h.size - 4096 * h.tag.index)

  page_listed : (h : Held) → has_page physicals h ≡ true → IsListed physicals h
  page_listed h e =
      let p = and_parts (list_any (is_page_of h) physicals) (list_all (λ s. not (is_page_of h s) || nat_le s.zeros (h.size - 4096 * h.tag.index)) physicals) e in
      let m = any_member (is_page_of h) physicals p.0 in
      record {
        page = m.0;
        listed = m.1;
        is_page = page_is h m.0 m.2;
        behind = λ s n is. by s (is_page h s is) (or_cases (not (is_page_of h s)) (nat_le s.zeros (h.size - 4096 * h.tag.index)) (all-each (λ s. not (is_page_of h s) || nat_le s.zeros (h.size - 4096 * h.tag.index)) physicals p.1 s n));
      }
    where
      by : (s : Seen) → is_page_of h s ≡ true → (not (is_page_of h s) ≡ true) ⊎ (nat_le s.zeros (h.size - 4096 * h.tag.index) ≡ true) → s.zeros ≤ h.size - 4096 * h.tag.index
      by s is (inl off) = absurd (true_false (sym is ∙ not-true _ off))
      by s is (inr le) = leb-true _ _ le

  listed_page : (h : Held) → IsListed physicals h → has_page physicals h ≡ true
  listed_page h l =
      and_from _ _ (member_any (is_page_of h) physicals l.page l.listed (is_page h l.page l.is_page))
      (each-all (λ s. not (is_page_of h s) || nat_le s.zeros (h.size - 4096 * h.tag.index)) physicals (λ s n. by s n (is_page_of h s) refl))
    where
      by : (s : Seen) → Has physicals s → (b : Bool) → is_page_of h s ≡ b → (not (is_page_of h s) || nat_le s.zeros (h.size - 4096 * h.tag.index)) ≡ true
      by s n true e = or_right (not (is_page_of h s)) _ (le-leb _ _ (l.behind s n (page_is h s e)))
      by s n false e = or_left _ _ (not_from_false _ e)

  pub listed : (held : List Held) → (pointer_fault physicals held ≡ None) ↔ PointersListed physicals held
  unfolding pointer_fault
  listed held = (there, back)
    where
      there : option_map (λ h. h.tag.ino) (first_after (is_bad_pointer physicals) [] held) ≡ None → PointersListed physicals held
      there e =
          let r = first_none (is_bad_pointer physicals) own_pointer pointer_clash pointer_parts [] held (map_none (λ h. h.tag.ino) (first_after (is_bad_pointer physicals) [] held) e) in
          record {
            below = λ h m. ltb-true _ _ (not-false _ (or_parts _ _ (not-true _ (r.0 h m))).0);
            there = λ h m. page_listed h (not-false _ (or_parts (not (nat_lt h.tag.index (div_ceil h.size 4096))) _ (not-true _ (r.0 h m))).1);
            stamps_differ = two_map (λ x y. pointer_clash x y ≡ false) (λ x y. x.pointer.stamp ≢ y.pointer.stamp) (λ x y e. eqb-false x.pointer.stamp y.pointer.stamp (or_parts (x.pointer.stamp == y.pointer.stamp) (x.pointer.name == y.pointer.name) e).0) held r.2;
            names_differ = two_map (λ x y. pointer_clash x y ≡ false) (λ x y. x.pointer.name ≢ y.pointer.name) (λ x y e. eqb-false x.pointer.name y.pointer.name (or_parts (x.pointer.stamp == y.pointer.stamp) (x.pointer.name == y.pointer.name) e).1) held r.2;
          }

      back : PointersListed physicals held → option_map (λ h. h.tag.ino) (first_after (is_bad_pointer physicals) [] held) ≡ None
      back h =
          none_map (λ h. h.tag.ino) _
          (none_first (is_bad_pointer physicals) own_pointer pointer_clash pointer_parts [] held
          (λ x m. not_from_false _ (or_from _ _ (not_from_true _ (lt-ltb _ _ (h.below x m))) (not_from_true _ (listed_page x (h.there x m))))) (λ x m e n. absurd n)
          (two_map (λ x y. (x.pointer.stamp ≢ y.pointer.stamp) × (x.pointer.name ≢ y.pointer.name)) (λ x y. pointer_clash x y ≡ false)
          (λ x y f. or_from _ _ (ne_eqb _ _ f.0) (ne_eqb _ _ f.1)) held
          (two_and (λ x y. x.pointer.stamp ≢ y.pointer.stamp) (λ x y. x.pointer.name ≢ y.pointer.name) held h.stamps_differ h.names_differ)))

module _ (pages : VirtualMap) where
  inode_rises : (rec : InodeRec) → EachTwo (λ p q. p.0 < q.0) (pointers_of_inode pages rec)
  unfolding pointers_of_inode
  inode_rises rec = two_filtered (λ p q. p.0 < q.0) (λ p. not (is_none_pointer p.1)) _ (enumerate_rises 0 (rec.direct ++ flat_map (pointers_at pages) rec.addresses))

  body_rises : (rec : InodeRec) (k : Kind) → EachTwo (λ p q. p.0 < q.0) (pointers_in (body_of pages rec k))
  body_rises rec Unused = tt
  body_rises rec File = inode_rises rec
  body_rises rec Dir = tt

  node_rises : (o : Option InodeRec) → EachTwo (λ p q. p.0 < q.0) (pointers_in (node_from pages o).body)
  node_rises None = tt
  node_rises (Some rec) = body_rises rec rec.kind

abbrev other_tag : Held → Held → Type 0
other_tag x y = (x.tag.ino ≡ y.tag.ino) × (x.tag.index ≡ y.tag.index) → ⊥

abbrev held_from : ℕ → GraphNode → ℕ × Pointer → Held
held_from n node p = record { size = size_of node.body; tag = record { ino = n; generation = node.generation; index = p.0 }; pointer = p.1 }

module _ (shape : Shape) (pages : VirtualMap) where
  abbrev held : List Held
  held = held_in shape pages

  tags_differ : EachTwo other_tag (held_in shape pages)
  unfolding pointers_of graph_of
  tags_differ =
      flat_two other_tag (λ n. held_by n (node n)) (range_with_len 0 shape.nodes)
      (two_map (λ i j. i < j) (λ i j. (u v : Held) → Has (held_by i (node i)) u → Has (held_by j (node j)) v → other_tag u v)
      (λ i j h u v m n same. itself i j (sym (ino i u m) ∙ same.0 ∙ ino j v n) h) (range_with_len 0 shape.nodes) (range_rises 0 _))
      (λ n m. mapped_two other_tag (held_from n (node n)) (pointers_in (node n).body)
      (two_map (λ p q. p.0 < q.0) (λ p q. other_tag (held_from n (node n) p) (held_from n (node n) q)) (λ p q h same. itself p.0 q.0 same.1 h) (pointers_in (node n).body) (node_rises pages (cond (nat_lt n shape.nodes) (inode_at pages n) None))))
    where
      node : ℕ → GraphNode
      node n = node_from pages (cond (nat_lt n shape.nodes) (inode_at pages n) None)

      ino : (n : ℕ) (h : Held) → Has (held_by n (node n)) h → h.tag.ino ≡ n
      ino n h m = let q = member-map (held_from n (node n)) (pointers_in (node n).body) h m in sym (ap (λ (z : Held). z.tag.ino) q.2)

  module _ (key : Held → ℕ) where
    pub keys_there : EachTwo (λ x y. key x ≢ key y) held → (h k : Held) → Has held h → Has held k → key h ≡ key k → OnePointer h k
    keys_there two h k m n e = by (two_members (λ x y. key x ≢ key y) held two h k m n)
      where
        by : (h ≡ k) ⊎ ((key h ≢ key k) ⊎ (key k ≢ key h)) → OnePointer h k
        by (inl s) = (ap (λ (z : Held). z.tag.ino) s, ap (λ (z : Held). z.tag.index) s)
        by (inr (inl f)) = absurd (f e)
        by (inr (inr f)) = absurd (f (sym e))

    pub keys_back : ((h k : Held) → Has held h → Has held k → key h ≡ key k → OnePointer h k) → EachTwo (λ x y. key x ≢ key y) held
    keys_back f = two_within other_tag (λ x y. key x ≢ key y) held tags_differ (λ x y m n off e. off (f x y m n e))

  pub pointers : (physicals : List Seen) → (pointer_fault physicals (held_in shape pages) ≡ None) ↔ PointersRight (held_in shape pages) (IsListed physicals)
  pointers physicals = (
    (λ e.
        let r = (listed physicals held).0 e in
        record { below = r.below; there = r.there; stamps_differ = keys_there (λ h. h.pointer.stamp) r.stamps_differ; names_differ = keys_there (λ h. h.pointer.name) r.names_differ }),
    (λ p. (listed physicals held).1 (record { below = p.below; there = p.there; stamps_differ = keys_back (λ h. h.pointer.stamp) p.stamps_differ; names_differ = keys_back (λ h. h.pointer.name) p.names_differ })),
  )
