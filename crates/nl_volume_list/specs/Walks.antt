-- A walk over the paths of a tree: what it keeps, and what it has still to give.
use Rattle.std.specs.Prelude.{◌≡◌, ◌≢◌, ⊤, ℕ, ◌+◌, Bool, true, false, List, [], ◌∷◌, length, take, slice_get, Option, Some, None}
use Rattle.nl_field.specs.Graph.{Graph, NodeBody, directory_node, file_node}
use Rattle.nl_field.specs.declared.pointer.Pointer.{Pointer}
use Rattle.nl_tree.specs.Represents.{node_reached}
use Rattle.nl_tree.specs.Tree.{Tree}
use Rattle.nl_meta_running.specs.declared.answer.Stop.{Stop}
use Rattle.nl_meta_running.specs.declared.answer.Stop.TheVariants as stop
use Rattle.nl_volume_list.specs.Items.{PathItem, items_behind, items_of}
use Rattle.nl_volume_list.specs.declared.item.TreeItem.{TreeItem}
use Rattle.nl_volume_list.specs.declared.item.TreeItem.TheVariants as item

-- the path that a walk holds, the nodes on its way, and for how many names it has room
pub record WalkState : Type 0 where
  pub path : List (List ℕ)
  pub nodes : List ℕ
  pub room : ℕ

-- what is left behind a path; before the root there is no node on the way, and all is left
abbrev pub left_behind : Tree → List (List ℕ) → List ℕ → List PathItem
left_behind tree path [] = items_of tree
left_behind tree path (n ∷ nodes) = items_behind path (items_of tree)

-- what the walk has still to give of a tree
abbrev pub still_to_give : Tree → WalkState → List PathItem
still_to_give tree walk = left_behind tree walk.path walk.nodes

-- A walk gives the first of what was left, and the rest is left then. The end comes where nothing was left.
abbrev pub GivesItem : Tree → WalkState → WalkState → TreeItem → Type 0
GivesItem tree old new (item.Dir entries) = still_to_give tree old ≡ (new.path, item.Dir entries) ∷ still_to_give tree new
GivesItem tree old new (item.File size pages) = still_to_give tree old ≡ (new.path, item.File size pages) ∷ still_to_give tree new
GivesItem tree old new item.End = still_to_give tree old ≡ []
GivesItem tree old new item.Fault = ⊤
GivesItem tree old new (item.Lost wanted found) = ⊤

-- A path was given.
abbrev pub is_path : TreeItem → Bool
is_path (item.Dir entries) = true
is_path (item.File size pages) = true
is_path item.End = false
is_path item.Fault = false
is_path (item.Lost wanted found) = false

-- what ended the reading of pages
abbrev pub item_stop : TreeItem → Option Stop
item_stop (item.Dir entries) = None
item_stop (item.File size pages) = None
item_stop item.End = None
item_stop item.Fault = Some stop.Fault
item_stop (item.Lost wanted found) = Some (stop.Lost wanted found)

-- ---- in the nodes of a volume

-- Before the root there is neither a name nor a node. Then there is a node for each beginning of the path, to which it leads.
pub record OnWay (graph : Graph) (walk : WalkState) : Type 0 where
  pub before : walk.nodes ≡ [] → walk.path ≡ []
  pub one_each : walk.nodes ≢ [] → length walk.nodes ≡ length walk.path + 1
  pub reached : (i n : ℕ) → slice_get walk.nodes i ≡ Some n → node_reached graph 0 (take i walk.path) ≡ Some n

-- what is told of a node that is used
abbrev pub IsItemOfNode : NodeBody → TreeItem → Type 0
IsItemOfNode body (item.Dir entries) = (es : List (List ℕ × ℕ)) × (body ≡ directory_node es) × (entries ≡ length es)
IsItemOfNode body (item.File size pages) = (ps : List (ℕ × Pointer)) × (body ≡ file_node size ps) × (pages ≡ length ps)
IsItemOfNode body item.End = ⊥
IsItemOfNode body item.Fault = ⊤
IsItemOfNode body (item.Lost wanted found) = ⊤
