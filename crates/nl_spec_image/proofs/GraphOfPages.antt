-- The nodes that metadata without a fault stands for: each is named once and reached.
use Rattle.std.proofs.Common.{◌≡◌, ℕ, ◌<◌, Bool, true, false, cond, List, [], ◌∷◌, ◌++◌, map, refl, sym, ap, subst, ◌∙◌, Option, Some, None, ◌⊎◌, inl, inr, arith, nat_lt, option_and_then}
use Rattle.std.proofs.lemmas.Bool.{cond-false, cond-true, ltb-true, lt-ltb}
use Rattle.std.specs.List.{range_with_len}
use Rattle.nl_field.specs.EntryRecord.{entry_of}
use Rattle.nl_field.specs.Graph.{GraphNode, NodeBody, unused, Graph}
use Rattle.nl_field.specs.declared.entry.EntryRec.{EntryRec}
use Rattle.nl_field.specs.declared.inode.InodeRec.{InodeRec}
use Rattle.nl_field.specs.declared.inode.Kind.{Kind}
use Rattle.nl_field.specs.declared.inode.Kind.TheVariants.{Unused, File, Dir}
use Rattle.nl_field.specs.declared.shape.Shape.{Shape}
use Rattle.nl_tree.specs.GraphLaws.{entry_at, NamedOnce}
use Rattle.nl_tree.specs.Represents.{entries_in, node_named, node_reached}
use Rattle.nl_tree.proofs.ChangeProofs.{Path, reached_step, at_end, root_reached, Ends, empty, ended, ends}
use Rattle.nl_tree.proofs.GraphProofs.{names_eq, eq_name, name_eq}
use Rattle.nl_meta.specs.Committed.{VirtualMap}
use Rattle.nl_field.specs.Members.{Has}
use Rattle.nl_meta.specs.Consistent.{IsNode, NodesRight, GoodEntry, at_root, by_entry, EntryAt, Reached, EntriesRight}
use Rattle.nl_meta.specs.Nodes.{inode_at, bytes_of_place, body_of, node_from, graph_of, entries_of_inode}
use Rattle.nl_meta.proofs.Lists.{some_in, none_some, member-range, range-member, member-map, map-member, member-some, some-member}
use Rattle.nl_meta.proofs.PlaceProofs.{same_entry}

pairs : (y : List ℕ × ℕ) (x : List ℕ) (m : ℕ) → y.0 ≡ x → y.1 ≡ m → y ≡ (x, m)
pairs y x m a b = λ i. (a i, b i)

pub named_member : (x : List ℕ) (m : ℕ) (es : List (List ℕ × ℕ)) → node_named x es ≡ Some m → Has es (x, m)
named_member x m [] e = absurd (none_some m e)
named_member x m (y ∷ es) e =
    elim (names_eq x y.0) as (λ t. names_eq x y.0 ≡ t → cond t (Some y.1) (node_named x es) ≡ Some m → Has (y ∷ es) (x, m))
    [ true ↦ λ t e. inl (pairs y x m (sym (eq_name x y.0 t)) (some_in y.1 m e)) | false ↦ λ t e. inr (named_member x m es e) ] refl e

member_named : (x : List ℕ) (m : ℕ) (es : List (List ℕ × ℕ)) → Has es (x, m) → (k : ℕ) × (node_named x es ≡ Some k)
member_named x m [] h = absurd h
member_named x m (y ∷ es) h =
    elim (names_eq x y.0) as (λ t. names_eq x y.0 ≡ t → (k : ℕ) × (cond t (Some y.1) (node_named x es) ≡ Some k))
    [ true ↦ λ t. (y.1, refl) | false ↦ λ t. by (member_named x m es) t h ] refl
  where
    by : (Has es (x, m) → (k : ℕ) × (node_named x es ≡ Some k)) → names_eq x y.0 ≡ false → (y ≡ (x, m)) ⊎ Has es (x, m) → (k : ℕ) × (node_named x es ≡ Some k)
    by rest t (inl e) = absurd (clash (sym t ∙ name_eq x y.0 (sym (ap (λ (z : List ℕ × ℕ). z.0) e))))
      where
        clash : false ≡ true → ⊥
        clash e = cc
    by rest t (inr h) = rest h

module _ (shape : Shape) (pages : VirtualMap) where
  abbrev pub graph : Graph
  graph = graph_of shape pages

  pub node_is : (n : ℕ) (rec : InodeRec) → IsNode shape pages n rec → graph n ≡ record { generation = rec.generation; body = body_of pages rec rec.kind }
  unfolding graph_of
  node_is n rec is = ap (node_from pages) (cond-true (nat_lt n shape.nodes) _ _ (lt-ltb _ _ is.below) ∙ is.spelled)

  -- a node of the graph that is not unused has a record
  pub record NodeOf (n : ℕ) : Type 0 where
    pub rec : InodeRec
    pub is : IsNode shape pages n rec

  pub node_or_none : (n : ℕ) → NodeOf n ⊎ ((graph n).body ≡ unused)
  unfolding graph_of
  node_or_none n = at (nat_lt n shape.nodes) refl
    where
      kinds : (rec : InodeRec) → n < shape.nodes → inode_at pages n ≡ Some rec → (k : Kind) → rec.kind ≡ k → NodeOf n ⊎ (body_of pages rec rec.kind ≡ unused)
      kinds rec below at Unused e = inr (ap (body_of pages rec) e)
      kinds rec below at File e = inl (record { rec = rec; is = record { below = below; spelled = at; used = λ u. file_used (sym e ∙ u) } })
        where
          file_used : File ≡ Unused → ⊥
          file_used e = cc
      kinds rec below at Dir e = inl (record { rec = rec; is = record { below = below; spelled = at; used = λ u. dir_used (sym e ∙ u) } })
        where
          dir_used : Dir ≡ Unused → ⊥
          dir_used e = cc

      inode : n < shape.nodes → (o : Option InodeRec) → inode_at pages n ≡ o → NodeOf n ⊎ ((node_from pages o).body ≡ unused)
      inode below None e = inr refl
      inode below (Some rec) e = kinds rec below e rec.kind refl

      moved_on : (a b : Option InodeRec) → a ≡ b → NodeOf n ⊎ ((node_from pages b).body ≡ unused) → NodeOf n ⊎ ((node_from pages a).body ≡ unused)
      moved_on a b e (inl h) = inl h
      moved_on a b e (inr h) = inr (ap (λ (o : Option InodeRec). (node_from pages o).body) e ∙ h)

      at : (b : Bool) → nat_lt n shape.nodes ≡ b → NodeOf n ⊎ ((node_from pages (cond (nat_lt n shape.nodes) (inode_at pages n) None)).body ≡ unused)
      at true e = moved_on _ _ (cond-true (nat_lt n shape.nodes) _ _ e) (inode (ltb-true _ _ e) (inode_at pages n) refl)
      at false e = inr (ap (λ (o : Option InodeRec). (node_from pages o).body) (cond-false (nat_lt n shape.nodes) _ _ e))

  -- an entry of the graph is one of a directory
  pub record EntryOf (n : ℕ) (x : List ℕ) (m : ℕ) : Type 0 where
    pub place : ℕ
    pub entry : EntryRec
    pub at : EntryAt shape pages n place entry
    pub name : entry.name ≡ x
    pub ino : entry.ino ≡ m

  pub entry_is : (n : ℕ) (x : List ℕ) (m : ℕ) → entry_at graph n x ≡ Some m → EntryOf n x m
  unfolding entries_of_inode
  entry_is n x m e = by (node_or_none n)
    where
      of_member : (rec : InodeRec) → IsNode shape pages n rec → rec.kind ≡ Dir → Has {X = List ℕ × ℕ} (map (λ e. (e.name, e.ino)) (entries_of_inode pages rec)) (x, m) → EntryOf n x m
      of_member rec is dir h =
          let r = member-map (λ (e : EntryRec). (e.name, e.ino)) (entries_of_inode pages rec) (x, m) h in
          let q = member-some (λ i. entry_of (bytes_of_place pages rec i)) (range_with_len 0 rec.size) r.0 r.1 in
          record {
            place = q.0;
            entry = r.0;
            at = record { rec = rec; is_node = is; is_dir = dir; below = omega (arith, (member-range q.0 0 rec.size q.1).1); spelled = q.2 };
            name = ap (λ (z : List ℕ × ℕ). z.0) r.2;
            ino = ap (λ (z : List ℕ × ℕ). z.1) r.2;
          }

      of_kind : (rec : InodeRec) → IsNode shape pages n rec → (k : Kind) → rec.kind ≡ k → node_named x (entries_in (body_of pages rec k)) ≡ Some m → EntryOf n x m
      of_kind rec is Unused e h = absurd (none_some m h)
      of_kind rec is File e h = absurd (none_some m h)
      of_kind rec is Dir e h = of_member rec is e (named_member x m _ h)

      by : NodeOf n ⊎ ((graph n).body ≡ unused) → EntryOf n x m
      by (inl h) = of_kind h.rec h.is h.rec.kind refl (sym (ap (λ (g : GraphNode). node_named x (entries_in g.body)) (node_is n h.rec h.is)) ∙ e)
      by (inr u) = absurd (none_some m (sym (ap (λ (b : NodeBody). node_named x (entries_in b)) u) ∙ e))

  module _ (right : EntriesRight shape pages) (nodes : NodesRight shape pages) where
    pub good_entry : (d i : ℕ) (e : EntryRec) → EntryAt shape pages d i e → GoodEntry shape pages e
    good_entry d i e a =
        let r = right.spelled d a.rec i a.is_node a.is_dir a.below in
        subst (λ (z : EntryRec). GoodEntry shape pages z) (same_entry shape pages d i r.0 e r.1 a) r.2

    pub named_once : NamedOnce graph
    named_once = record {
      once = λ k l n x y a b. both k l n x y (entry_is k x n a) (entry_is l y n b);
      not_root = λ k x e. let r = entry_is k x 0 e in (good_entry k r.place r.entry r.at).no_root r.ino;
    }
      where
        both : (k l n : ℕ) (x y : List ℕ) → EntryOf k x n → EntryOf l y n → (k ≡ l) × (x ≡ y)
        both k l n x y r q =
            let same = right.one_name k r.place l q.place r.entry q.entry r.at q.at (r.ino ∙ sym q.ino) in
            let here = subst (λ (i : ℕ). EntryAt shape pages k i q.entry) (sym same.1) (subst (λ (d : ℕ). EntryAt shape pages d q.place q.entry) (sym same.0) q.at) in
            (same.0, sym r.name ∙ ap (λ (z : EntryRec). z.name) (same_entry shape pages k r.place r.entry q.entry r.at here) ∙ q.name)

    -- each entry of a directory is found by its name
    pub entry_found : (d i : ℕ) (e : EntryRec) → EntryAt shape pages d i e → entry_at graph d e.name ≡ Some e.ino
    unfolding entries_of_inode
    entry_found d i e p =
        let r = member_named e.name e.ino (map (λ e. (e.name, e.ino)) (entries_of_inode pages p.rec)) member in
        let f = ap (node_named e.name) body ∙ r.1 in
        f ∙ ap (λ (k : ℕ). Some k) (same_ino r.0 (entry_is d e.name r.0 f))
      where
        member : Has {X = List ℕ × ℕ} (map (λ e. (e.name, e.ino)) (entries_of_inode pages p.rec)) (e.name, e.ino)
        member =
            map-member (λ (e : EntryRec). (e.name, e.ino)) (entries_of_inode pages p.rec) e
            (some-member (λ i. entry_of (bytes_of_place pages p.rec i)) (range_with_len 0 p.rec.size) i e (range-member i 0 p.rec.size (omega arith) (omega (arith, p.below))) p.spelled)

        body : entries_in (graph d).body ≡ map (λ e. (e.name, e.ino)) (entries_of_inode pages p.rec)
        body = ap (λ (g : GraphNode). entries_in g.body) (node_is d p.rec p.is_node) ∙ ap (λ (k : Kind). entries_in (body_of pages p.rec k)) p.is_dir

        same_ino : (k : ℕ) → EntryOf d e.name k → k ≡ e.ino
        same_ino k q =
            let same = right.names_differ d i q.place e q.entry p q.at (sym q.name) in
            let here = subst (λ (j : ℕ). EntryAt shape pages d j q.entry) (sym same) q.at in
            sym q.ino ∙ sym (ap (λ (z : EntryRec). z.ino) (same_entry shape pages d i e q.entry p here))

    -- a chain of entries is a path
    pub path_of_reached : (n : ℕ) → Reached shape pages n → (p : Path) × (node_reached graph 0 p ≡ Some n)
    path_of_reached n at_root = ([], root_reached graph)
    path_of_reached n (by_entry d i e a r) =
        let p = path_of_reached d r in
        (p.0 ++ e.name ∷ [], at_end graph p.0 e.name d p.1 ∙ entry_found d i e a)

    -- what is reached is a node
    pub reached_is_node : (q : Path) (n : ℕ) → 0 < shape.nodes → node_reached graph 0 q ≡ Some n → NodeOf n
    reached_is_node q n some e = by (ends q)
      where
        root : NodeOf 0
        root = let r = nodes.spelled 0 some in record { rec = r.0; is = record { below = some; spelled = r.1; used = λ u. dir_used (sym (nodes.root r.0 r.1) ∙ u) } }
          where
            dir_used : Dir ≡ Unused → ⊥
            dir_used e = cc

        named : (k : ℕ) (x : List ℕ) → entry_at graph k x ≡ Some n → NodeOf n
        named k x e =
            let r = entry_is k x n e in
            let good = good_entry k r.place r.entry r.at in
            record { rec = good.target; is = subst (λ (i : ℕ). IsNode shape pages i good.target) r.ino good.is_node }

        step : (o : Option ℕ) (x : List ℕ) → option_and_then (λ k. entry_at graph k x) o ≡ Some n → NodeOf n
        step None x e = absurd (none_some n e)
        step (Some k) x e = named k x e

        by : Ends q → NodeOf n
        by (empty s) = subst NodeOf (some_in 0 n (sym (root_reached graph) ∙ sym (ap (node_reached graph 0) s) ∙ e)) root
        by (ended p x s) = step (node_reached graph 0 p) x (sym (reached_step graph p x) ∙ sym (ap (node_reached graph 0) s) ∙ e)
