-- The root of a volume that was walked: its page is there, and without entries it is all that the tree has.
use Rattle.std.proofs.Common.{◌≡◌, ℕ, ◌<◌, List, [], ◌∷◌, map, filter_map, Option, Some, None, IsSome, is_some, inl, sym, ap, ◌∙◌, option_and_then, arith}
use Rattle.std.specs.List.{range_with_len}
use Rattle.nl_field.specs.EntryRecord.{entry_of}
use Rattle.nl_field.specs.Graph.{GraphNode, NodeBody, directory_node}
use Rattle.nl_field.specs.Numbers.{ShapeBounds}
use Rattle.nl_field.specs.declared.entry.EntryRec.{EntryRec}
use Rattle.nl_field.specs.declared.inode.InodeRec.{InodeRec}
use Rattle.nl_field.specs.declared.inode.Kind.TheVariants.{Dir, Unused}
use Rattle.nl_field.specs.declared.seen.Seen.{Seen}
use Rattle.nl_tree.specs.Represents.{Represents, entries_in, node_named, node_of, node_reached}
use Rattle.nl_tree.specs.Tree.{empty_tree}
use Rattle.nl_iface.specs.declared.counts.Counts.{Ghosts}
use Rattle.nl_meta.specs.Committed.{VirtualMap}
use Rattle.nl_meta.specs.Consistent.{IsNode, NamesPhysical, PageOfStamp}
use Rattle.nl_meta.specs.Nodes.{body_of, bytes_of_place, entries_of_inode, graph_of, inode_at}
use Rattle.nl_meta.specs.Pages.{page_of}
use Rattle.nl_inode.specs.Nodes.{page_of_node}
use Rattle.nl_meta_running.specs.Running.{running_on}
use Rattle.nl_meta_running.proofs.Holds.{none-runs}
use Rattle.nl_meta_running.proofs.Kept.{inode-resident}
use Rattle.nl_meta_running.proofs.SameNeeded.{inode-address}
use Rattle.nl_spec_image.specs.Stands.{bytes_for}
use Rattle.nl_spec_image.proofs.EmptyTree.{empty_at_root, empty_below}
use Rattle.nl_spec_image.proofs.GraphOfPages.{node_is}
use Rattle.nl_recover.specs.Recovering.{IsWalked}
use Rattle.nl_recover.specs.declared.opening.Walked.{Walked}
use Rattle.nl_core_new.specs.New.{HasNoEntries}

-- no number has a page of a file
abbrev pub no_page : ℕ → Option PageOfStamp
no_page stamp = None

abbrev node_with : ℕ → NodeBody → GraphNode
node_with generation body = record { generation = generation; body = body }

no_entries : (pages : VirtualMap) (rec : InodeRec) → rec.size ≡ 0 → body_of pages rec Dir ≡ directory_node []
unfolding entries_of_inode
no_entries pages rec none = ap (λ (n : ℕ). directory_node (map (λ (e : EntryRec). (e.name, e.ino)) (filter_map (λ (i : ℕ). entry_of (bytes_of_place pages rec i)) (range_with_len 0 n)))) none

module _ {D : Type 0} (g : Ghosts D) (s : D) (seen : List Seen) (w : Walked) (bounds : ShapeBounds (g.shape s)) (is : IsWalked g s seen w) where
  some_nodes : 0 < (g.shape s).nodes
  some_nodes = let some = bounds.some_nodes in omega (arith, some)

  pub root_there : IsSome (page_of w.meta (page_of_node 0))
  root_there = is.resident (page_of_node 0) (inl (inode-address (g.shape s) 0 (let some = bounds.some_nodes in let places = bounds.places in omega (arith, some, places))))

  root : (rec : InodeRec) × (inode_at (running_on g s w.meta) 0 ≡ Some rec) × NamesPhysical (g.shape s) rec.direct
  root = is.consistent.metadata.tree.nodes.spelled 0 some_nodes

  root_at : inode_at (page_of w.meta) 0 ≡ Some root.0
  root_at = inode-resident g s w.meta s w.meta bounds (none-runs g s w.meta is.runs) 0 some_nodes root_there ∙ root.1

  pub root_spelled : IsSome (inode_at (page_of w.meta) 0)
  root_spelled = ap is_some root_at

  is_dir : root.0.kind ≡ Dir
  is_dir = is.consistent.metadata.tree.nodes.root root.0 root.1

  is_root : IsNode (g.shape s) (running_on g s w.meta) 0 root.0
  is_root = record { below = some_nodes; spelled = root.1; used = λ unused. let no : Dir ≡ Unused = sym is_dir ∙ unused in absurd (cc no) }

  module _ (empty : HasNoEntries w.meta) where
    root_node : graph_of (g.shape s) (running_on g s w.meta) 0 ≡ node_with root.0.generation (directory_node [])
    root_node =
        node_is (g.shape s) (running_on g s w.meta) 0 root.0 is_root
        ∙ ap (node_with root.0.generation) (ap (body_of (running_on g s w.meta) root.0) is_dir ∙ no_entries (running_on g s w.meta) root.0 (empty root.0 root_at))

    -- no chain of names leads from it
    pub root_alone : Represents (bytes_for no_page) (graph_of (g.shape s) (running_on g s w.meta)) empty_tree
    unfolding node_reached
    root_alone [] = empty_at_root ∙ ap (λ (x : GraphNode). node_of (bytes_for no_page) x.body) (sym root_node)
    root_alone (name ∷ names) =
        empty_below name names
        ∙ ap (λ (x : GraphNode). option_and_then (λ n. node_of (bytes_for no_page) (graph_of (g.shape s) (running_on g s w.meta) n).body) (option_and_then (λ m. node_reached (graph_of (g.shape s) (running_on g s w.meta)) m names) (node_named name (entries_in x.body))))
        (sym root_node)
