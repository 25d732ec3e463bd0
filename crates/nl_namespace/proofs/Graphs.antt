-- What one name of a path leads to in the nodes.
use Rattle.std.proofs.Common.{◌≡◌, ℕ, zero, suc, ◌<◌, ◌≤◌, Bool, true, false, cond, List, [], ◌∷◌, map, drop, length, refl, sym, ap, ◌∙◌, Option, Some, option_map, option_and_then, nat_lt, arith, bytes_eq}
use Rattle.std.proofs.lemmas.Bool.{cond-true, lt-ltb, both_ways}
use Rattle.std.proofs.lemmas.Slice.Eq.{bytes_eq-Decides}
use Rattle.std.specs.Prelude.{find, slice_get}
use Rattle.nl_field.specs.Graph.{Graph, NodeBody}
use Rattle.nl_field.specs.Numbers.{ShapeBounds}
use Rattle.nl_field.specs.declared.entry.EntryRec.{EntryRec}
use Rattle.nl_field.specs.declared.inode.InodeRec.{InodeRec}
use Rattle.nl_field.specs.declared.inode.Kind.{Kind}
use Rattle.nl_field.specs.declared.inode.Kind.TheVariants.{Dir, File, Unused}
use Rattle.nl_iface.specs.declared.counts.Counts.{Ghosts}
use Rattle.nl_meta.specs.Nodes.{body_of, entries_of_inode, entry_named, graph_of, node_from}
use Rattle.nl_meta.specs.Pages.{Pages}
use Rattle.nl_meta.proofs.Lists.{member-find}
use Rattle.nl_tree.specs.GraphLaws.{entry_at}
use Rattle.nl_tree.specs.Represents.{entries_in, node_named, node_reached}
use Rattle.nl_tree.specs.declared.reply.Refusal.TheVariants.{Enotdir}
use Rattle.nl_tree.proofs.GraphProofs.{eq_name, name_eq, names_eq}
use Rattle.nl_dir.proofs.ListProofs.{entries_by_lists}
use Rattle.nl_namespace.specs.Paths.{onward, walk_refusal, within}
use Rattle.nl_meta_running.specs.Running.{IsNodeOf, IsUsedNode, RunningIsRight, running_on}
use Rattle.nl_namespace.specs.Stepping.{InDirectory}

-- both tests of names are one
tests-agree : (x y : List ℕ) → names_eq x y ≡ bytes_eq y x
tests-agree x y = by (names_eq x y) (bytes_eq y x) refl refl
  where
    by : (a b : Bool) → names_eq x y ≡ a → bytes_eq y x ≡ b → names_eq x y ≡ bytes_eq y x
    by true true e f = e ∙ sym f
    by false false e f = e ∙ sym f
    by true false e f = absurd (both_ways _ f ((bytes_eq-Decides y x).1 (sym (eq_name x y e))))
    by false true e f = absurd (both_ways _ e (name_eq x y (sym ((bytes_eq-Decides y x).0 f))))

pub named-by : (name : List ℕ) (es : List EntryRec) → node_named name (map (λ e. (e.name, e.ino)) es) ≡ option_map (λ (e : EntryRec). e.ino) (find (λ e. bytes_eq e.name name) es)
named-by name [] = refl
named-by name (e ∷ es) =
    ap (λ (b : Bool). cond b (Some e.ino) (node_named name (map (λ e. (e.name, e.ino)) es))) (tests-agree name e.name)
    ∙ by (bytes_eq e.name name) (named-by name es)
  where
    by : (b : Bool) → node_named name (map (λ e. (e.name, e.ino)) es) ≡ option_map (λ (e : EntryRec). e.ino) (find (λ e. bytes_eq e.name name) es)
        → cond b (Some e.ino) (node_named name (map (λ e. (e.name, e.ino)) es)) ≡ option_map (λ (e : EntryRec). e.ino) (cond b (Some e) (find (λ e. bytes_eq e.name name) es))
    by true rest = refl
    by false rest = rest

pub drop-step : (path : List (List ℕ)) (i : ℕ) (name : List ℕ) → slice_get path i ≡ Some name → drop i path ≡ name ∷ drop (suc i) path
drop-step [] i name e = absurd (none-some e)
  where
    none-some : slice_get [] i ≡ Some name → ⊥
    none-some e = cc
drop-step (x ∷ path) zero name e = ap (λ (y : List ℕ). y ∷ path) (some-in e)
  where
    some-in : Some x ≡ Some name → x ≡ name
    some-in e = cc
drop-step (x ∷ path) (suc i) name e = drop-step path i name e

pub drop-all : (path : List (List ℕ)) (i : ℕ) → length path ≤ i → drop i path ≡ []
drop-all [] zero h = refl
drop-all [] (suc i) h = refl
drop-all (x ∷ path) zero h = absurd (none h)
  where
    none : suc (length path) ≤ 0 → ⊥
    none h = omega (arith, h)
drop-all (x ∷ path) (suc i) h = drop-all path i (omega (arith, h))

module _ {D : Type 0} (g : Ghosts D) (s : D) (p : Pages) where
  abbrev pub graph : Graph
  graph = graph_of (g.shape s) (running_on g s p)

  pub body-is : (n : ℕ) (rec : InodeRec) → IsNodeOf g s p n rec → (k : Kind) → rec.kind ≡ k → (graph n).body ≡ body_of (running_on g s p) rec k
  unfolding graph_of
  body-is n rec is k kind =
      ap (λ (o : Option InodeRec). (node_from (running_on g s p) o).body) (cond-true (nat_lt n (g.shape s).nodes) _ _ (lt-ltb _ _ is.below) ∙ is.spelled)
      ∙ ap (body_of (running_on g s p) rec) kind

  module _ (n : ℕ) (name : List ℕ) where
    named-is : (o : Option EntryRec) → (d : InDirectory g s p n name o) → node_named name (entries_in (body_of (running_on g s p) d.rec Dir)) ≡ option_map (λ (e : EntryRec). e.ino) o
    unfolding entry_named
    named-is o d = named-by name (entries_of_inode (running_on g s p) d.rec) ∙ ap (option_map (λ (e : EntryRec). e.ino)) d.named

    dir-body : (o : Option EntryRec) → (d : InDirectory g s p n name o) → (graph n).body ≡ body_of (running_on g s p) d.rec Dir
    dir-body o d = body-is n d.rec d.is_node Dir d.is_dir

    -- the node that the entry names
    pub entry-is : (o : Option EntryRec) → InDirectory g s p n name o → entry_at graph n name ≡ option_map (λ (e : EntryRec). e.ino) o
    entry-is o d = ap (λ (b : NodeBody). node_named name (entries_in b)) (dir-body o d) ∙ named-is o d

    pub reached-by : (o : Option EntryRec) → InDirectory g s p n name o → (names : List (List ℕ))
        → node_reached graph n (name ∷ names) ≡ option_and_then (λ m. node_reached graph m names) (option_map (λ (e : EntryRec). e.ino) o)
    unfolding node_reached
    reached-by o d names =
        ap (λ (b : NodeBody). option_and_then (λ m. node_reached graph m names) (node_named name (entries_in b))) (dir-body o d)
        ∙ ap (option_and_then (λ m. node_reached graph m names)) (named-is o d)

    pub refused-by : (o : Option EntryRec) → InDirectory g s p n name o → (names : List (List ℕ))
        → walk_refusal graph n (name ∷ names) ≡ onward (option_map (λ (e : EntryRec). e.ino) o) names (λ m. walk_refusal graph m names)
    unfolding walk_refusal
    refused-by o d names =
        ap (λ (b : NodeBody). within b name names (λ m. walk_refusal graph m names)) (dir-body o d)
        ∙ ap (λ (x : Option ℕ). onward x names (λ m. walk_refusal graph m names)) (named-is o d)

    pub refused-file : (rec : InodeRec) → IsNodeOf g s p n rec → rec.kind ≡ File → (names : List (List ℕ)) → walk_refusal graph n (name ∷ names) ≡ Some Enotdir
    unfolding walk_refusal
    refused-file rec is file names = ap (λ (b : NodeBody). within b name names (λ m. walk_refusal graph m names)) (body-is n rec is File file)

    -- the node that an entry names is used
    pub entry-used : RunningIsRight g s p → (e : EntryRec) → InDirectory g s p n name (Some e) → IsUsedNode g s p e.ino
    unfolding entry_named
    entry-used runs e d =
        let lists = (entries_by_lists (g.shape s) (running_on g s p) runs.addresses).0 runs.entries in
        let has = (member-find (λ (x : EntryRec). bytes_eq x.name name) (entries_of_inode (running_on g s p) d.rec) e d.named).0 in
        let good = lists.good n e (record { rec = d.rec; is_node = d.is_node; is_dir = d.is_dir; has = has }) in
        (good.target, good.is_node)

  pub root-used : ShapeBounds (g.shape s) → RunningIsRight g s p → IsUsedNode g s p 0
  root-used bounds runs =
      let b = bounds.some_nodes in
      let below : 0 < (g.shape s).nodes = omega (arith, b) in
      let r = runs.nodes.spelled 0 below in
      (r.0, record { below = below; spelled = r.1; used = λ u. dir-used (sym (runs.nodes.root r.0 r.1) ∙ u) })
    where
      dir-used : Dir ≡ Unused → ⊥
      dir-used e = cc
