-- What such a change of a directory does to the entries, to what is free, and to the nodes as a graph.
use Rattle.std.proofs.Common.{◌≡◌, ◌≢◌, ℕ, ◌<◌, Bool, true, List, map, sym, ap, subst, ◌∙◌, Some, option_map, ◌⊎◌, inl, inr, bytes_eq}
use Rattle.std.proofs.lemmas.Bool.{cases_eq}
use Rattle.std.specs.Prelude.{◌↔◌, find, slice_get}
use Rattle.nl_field.specs.Graph.{GraphNode, NodeBody, directory_node}
use Rattle.nl_field.specs.Members.{Has}
use Rattle.nl_field.specs.Numbers.{ShapeBounds}
use Rattle.nl_field.specs.declared.entry.EntryRec.{EntryRec}
use Rattle.nl_field.specs.declared.inode.InodeRec.{InodeRec}
use Rattle.nl_field.specs.declared.inode.Kind.{Kind}
use Rattle.nl_field.specs.declared.inode.Kind.TheVariants.{Dir, Unused}
use Rattle.nl_field.specs.declared.shape.Shape.{Shape}
use Rattle.nl_meta.specs.Committed.{VirtualMap}
use Rattle.nl_meta.specs.Consistent.{AddressAt, GoodEntry, IsNode}
use Rattle.nl_meta.specs.Nodes.{body_of, entries_of_inode, entry_named, graph_of, slots_of}
use Rattle.nl_meta.specs.Pages.{Pages, page_of}
use Rattle.nl_meta.specs.Running.{running_over}
use Rattle.nl_meta.proofs.Lists.{some_in}
use Rattle.nl_inode.specs.Free.{is_free}
use Rattle.nl_inode.specs.FreeLaws.{NodesAreFree, UsesAddress}
use Rattle.nl_inode.specs.Nodes.{Spaces, is_free_node}
use Rattle.nl_dir.specs.AfterLaws.{HasAddress}
use Rattle.nl_dir.proofs.LawProofs.{resident_is_running}
use Rattle.nl_tree.specs.GraphLaws.{entry_at}
use Rattle.nl_tree.specs.Represents.{entries_in, node_named, node_of}
use Rattle.nl_tree.specs.Tree.{directory}
use Rattle.nl_namespace.proofs.DirectoryChanges.{DirStep, changes, entries-after}
use Rattle.nl_namespace.proofs.Graphs.{named-by}
use Rattle.nl_namespace.proofs.NodeChanges.{ChangesNode, address-other, graph-at, graph-other, node-back, node-other, own-other, uses-then}
use Rattle.nl_namespace.proofs.States.{AllGood}

dir-used : (k : Kind) → k ≡ Dir → k ≢ Unused
dir-used k e u = cc

module _ (shape : Shape) (pages : VirtualMap) (d : ℕ) (rec : InodeRec) (is : IsNode shape pages d rec) (dir : rec.kind ≡ Dir) where
  -- the body of a directory in the graph
  pub dir-body : (graph_of shape pages d).body ≡ directory_node (map (λ e. (e.name, e.ino)) (entries_of_inode pages rec))
  dir-body = ap (λ (n : GraphNode). n.body) (graph-at shape pages d rec is.below is.spelled) ∙ ap (body_of pages rec) dir

  pub dir-entry : (x : List ℕ) → entry_at (graph_of shape pages) d x ≡ option_map (λ (e : EntryRec). e.ino) (entry_named pages rec x)
  unfolding entry_named
  dir-entry x = ap (λ (b : NodeBody). node_named x (entries_in b)) dir-body ∙ named-by x (entries_of_inode pages rec)

  pub dir-node : (bytes_of : ℕ → List ℕ) → node_of bytes_of (graph_of shape pages d).body ≡ Some directory
  dir-node bytes_of = ap (node_of bytes_of) dir-body

module _ (shape : Shape) (bounds : ShapeBounds shape) (device : VirtualMap) (d : ℕ) (was is : InodeRec) (changed : List ℕ) (old between new : Pages) (row : ℕ) (step : DirStep shape device d was is changed old between new row) where
  abbrev one : VirtualMap
  one = running_over device old

  abbrev two : VirtualMap
  two = running_over device new

  pub change : ChangesNode shape d is one two
  change = changes shape bounds device d was is changed old between new row step

  pub is-after : IsNode shape two d is
  is-after = record { below = step.is_node.below; spelled = change.node; used = dir-used is.kind step.rewrites.after.places.is_dir }

  pub node-stays : (k : ℕ) (rec : InodeRec) → k ≢ d → IsNode shape one k rec → IsNode shape two k rec
  node-stays k rec far at = node-other shape bounds one two d change.same k rec far at

  pub graph-stays : (k : ℕ) → k ≢ d → graph_of shape two k ≡ graph_of shape one k
  graph-stays k far = graph-other shape bounds one two d change.same k far

  -- a target is one still
  pub target-after : (e : EntryRec) → GoodEntry shape one e → GoodEntry shape two e
  target-after e good = by (cases_eq e.ino d)
    where
      by : (e.ino ≡ d) ⊎ (e.ino ≡ d → ⊥) → GoodEntry shape two e
      by (inl h) = record {
        no_root = good.no_root;
        target = is;
        is_node = subst (λ (k : ℕ). IsNode shape two k is) (sym h) is-after;
        generation = step.generation ∙ ap (λ (r : InodeRec). r.generation) (some_in was good.target (sym step.is_node.spelled ∙ (subst (λ (k : ℕ). IsNode shape one k good.target) h good.is_node).spelled)) ∙ good.generation;
      }
      by (inr far) = record { no_root = good.no_root; target = good.target; is_node = node-stays e.ino good.target far good.is_node; generation = good.generation }

  entries-before : entries_of_inode one was ≡ entries_of_inode (page_of old) was
  entries-before = (resident_is_running device old was step.rewrites.before.places.there).entries

  pub entry-before : (x : List ℕ) → entry_at (graph_of shape one) d x ≡ option_map (λ (e : EntryRec). e.ino) (entry_named (page_of old) was x)
  unfolding entry_named
  entry-before x =
      dir-entry shape one d was step.is_node step.was_dir x
      ∙ ap (λ (es : List EntryRec). option_map (λ (e : EntryRec). e.ino) (find (λ e. bytes_eq e.name x) es)) entries-before

  pub entry-after : (x : List ℕ) → entry_at (graph_of shape two) d x ≡ option_map (λ (e : EntryRec). e.ino) (entry_named (page_of between) is x)
  unfolding entry_named
  entry-after x =
      dir-entry shape two d is is-after step.rewrites.after.places.is_dir x
      ∙ ap (λ (es : List EntryRec). option_map (λ (e : EntryRec). e.ino) (find (λ e. bytes_eq e.name x) es)) (entries-after shape bounds device d was is changed old between new row step)

  pub good-after : AllGood shape one → ((e : EntryRec) → Has (entries_of_inode (page_of between) is) e → Has (entries_of_inode (page_of old) was) e ⊎ GoodEntry shape one e) → AllGood shape two
  good-after good lists k e l = by (cases_eq k d)
    where
      here : Has (entries_of_inode (page_of old) was) e ⊎ GoodEntry shape one e → GoodEntry shape one e
      here (inr g) = g
      here (inl h) = good d e (record { rec = was; is_node = step.is_node; is_dir = step.was_dir; has = subst (λ (es : List EntryRec). Has es e) (sym entries-before) h })

      by : (k ≡ d) ⊎ (k ≡ d → ⊥) → GoodEntry shape two e
      by (inl h) =
          let at = subst (λ (n : ℕ). IsNode shape two n l.rec) h l.is_node in
          let same : l.rec ≡ is = some_in l.rec is (sym at.spelled ∙ change.node) in
          let has = subst (λ (r : InodeRec). Has (entries_of_inode two r) e) same l.has in
          target-after e (here (lists e (subst (λ (es : List EntryRec). Has es e) (entries-after shape bounds device d was is changed old between new row step) has)))
      by (inr far) =
          let at = node-back shape bounds one two d change.same k l.rec far l.is_node in
          target-after e (good k e (record { rec = l.rec; is_node = at; is_dir = l.is_dir; has = subst (λ (es : List EntryRec). Has es e) (own-other shape bounds one two d change.same k l.rec far at l.is_dir).entries l.has }))

  pub nodes-after : (s t : Spaces) → t.nodes ≡ s.nodes → NodesAreFree shape one s → NodesAreFree shape two t
  nodes-after s t same free = record { each = λ n h. by n h (cases_eq n d) }
    where
      equal : (n : ℕ) → is_free_node t n ≡ is_free_node s n
      equal n = ap (λ (bs : List Bool). is_free bs n) same

      by : (n : ℕ) → n < shape.nodes → (n ≡ d) ⊎ (n ≡ d → ⊥) → (is_free_node t n ≡ true) ↔ ((rec : InodeRec) → IsNode shape two n rec → ⊥)
      by n h (inl e) = (
        (λ f. absurd ((free.each n h).0 (sym (equal n) ∙ f) was (subst (λ (k : ℕ). IsNode shape one k was) (sym e) step.is_node))),
        (λ none. absurd (none is (subst (λ (k : ℕ). IsNode shape two k is) (sym e) is-after))),
      )
      by n h (inr far) = (
        (λ f rec at. (free.each n h).0 (sym (equal n) ∙ f) rec (node-back shape bounds one two d change.same n rec far at)),
        (λ none. equal n ∙ (free.each n h).1 (λ rec at. none rec (node-stays n rec far at))),
      )

  -- an address that the record has, or another node
  pub uses-from : (a : ℕ) → UsesAddress shape two a → ((k : ℕ) × HasAddress is k a) ⊎ ((k : ℕ) × (slot : ℕ) × (k ≢ d) × AddressAt shape one k slot a)
  uses-from a u = uses-then shape bounds one two d is change step.formed a u

  pub uses-here : (k a : ℕ) → HasAddress is k a → UsesAddress shape two a
  uses-here k a h = (d, k, record { rec = is; is_node = is-after; in_slot = h.0; not_zero = h.1 })

  pub uses-other : (k slot a : ℕ) → k ≢ d → AddressAt shape one k slot a → UsesAddress shape two a
  uses-other k slot a far at = (k, slot, address-other shape bounds one two d change.same k slot a far at)

  pub uses-to : (a : ℕ) → UsesAddress shape one a → ((k : ℕ) × HasAddress was k a) ⊎ UsesAddress shape two a
  uses-to a u = by (cases_eq u.0 d)
    where
      by : (u.0 ≡ d) ⊎ (u.0 ≡ d → ⊥) → ((k : ℕ) × HasAddress was k a) ⊎ UsesAddress shape two a
      by (inl e) =
          let at = subst (λ (k : ℕ). AddressAt shape one k u.1 a) e u.2 in
          inl (u.1, (subst (λ (r : InodeRec). slice_get (slots_of r) u.1 ≡ Some a) (some_in at.rec was (sym at.is_node.spelled ∙ step.is_node.spelled)) at.in_slot, at.not_zero))
      by (inr far) = inr (uses-other u.0 u.1 a far u.2)
