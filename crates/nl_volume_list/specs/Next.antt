-- A walk over a core, and what it gives next.
use Rattle.std.specs.Prelude.{◌≡◌, ◌≢◌, ⊤, ℕ, List, [], length, Option}
use Rattle.nl_field.specs.Graph.{Graph}
use Rattle.nl_field.specs.declared.inode.InodeRec.{InodeRec}
use Rattle.nl_tree.specs.Tree.{Tree}
use Rattle.nl_iface.specs.declared.counts.Counts.{Ghosts}
use Rattle.nl_meta.specs.Consistent.{PageOfStamp}
use Rattle.nl_meta.specs.Committed.{VirtualMap}
use Rattle.nl_meta.specs.Nodes.{graph_of, pointers_of_inode}
use Rattle.nl_core.specs.Core.{running_of}
use Rattle.nl_core.specs.Trees.{CoreRepresentsTree}
use Rattle.nl_core.specs.declared.state.Core.{Core}
use Rattle.nl_volume_list.specs.Walks.{GivesItem, OnWay, WalkState}
use Rattle.nl_volume_list.specs.declared.item.TreeItem.{TreeItem}
use Rattle.nl_volume_list.specs.declared.item.TreeItem.TheVariants as item

-- the nodes as they run
abbrev pub nodes_of : {D : Type 0} → Ghosts D → Core D → Graph
nodes_of g v = graph_of (g.shape v.device) (running_of g v)

-- The walk is one over this core: its nodes are those to which its path leads, and it has room for the longest path.
pub record IsOnWay {D : Type 0} (g : Ghosts D) (v : Core D) (walk : WalkState) : Type 0 where
  pub way : OnWay (nodes_of g v) walk
  pub room : walk.room ≡ (g.shape v.device).nodes

-- The walk gives the next path of each tree as which the core runs.
abbrev pub GivesNext : {D : Type 0} → Ghosts D → Core D → WalkState → WalkState → TreeItem → Type 0
GivesNext g v old new answer =
    (page_of_stamp : ℕ → Option PageOfStamp) (tree : Tree) → CoreRepresentsTree g v page_of_stamp tree → GivesItem tree old new answer

-- ---- how it begins

-- A walk that was made for a core is one over it,
abbrev pub WalksBegin : {D : Type 0} → Ghosts D → Type 0
WalksBegin {D} g =
    (v : Core D) (walk : WalkState) → walk ≡ record { path = []; nodes = []; room = (g.shape v.device).nodes } → IsOnWay g v walk

-- ---- its parts

-- The walk holds this path now, which leads to its last node.
pub record GaveAt (graph : Graph) (old new : WalkState) (there : List (List ℕ)) : Type 0 where
  pub path : new.path ≡ there
  pub begun : new.nodes ≢ []
  pub way : OnWay graph new
  pub room : new.room ≡ old.room

-- what is told of a file with this record
abbrev pub IsItemOfFile : VirtualMap → InodeRec → TreeItem → Type 0
IsItemOfFile pages rec (item.Dir entries) = ⊥
IsItemOfFile pages rec (item.File size count) = (size ≡ rec.size) × (count ≡ length (pointers_of_inode pages rec))
IsItemOfFile pages rec item.End = ⊥
IsItemOfFile pages rec item.Fault = ⊤
IsItemOfFile pages rec (item.Lost wanted found) = ⊤
