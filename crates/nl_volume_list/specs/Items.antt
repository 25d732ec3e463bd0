-- The paths of a tree in the order in which they are printed, each with what is told of it.
use Rattle.std.specs.Prelude.{ℕ, List, length, map}
use Rattle.std.specs.Ordering.{is_lt}
use Rattle.std.specs.FinMap.Entries.{where_key}
use Rattle.nl_tree.specs.Tree.{Node, Tree, all_paths, directory, entries_of, file, path_cmp}
use Rattle.nl_volume_list.specs.declared.item.TreeItem.{TreeItem}
use Rattle.nl_volume_list.specs.declared.item.TreeItem.TheVariants as item

-- a path, and what is told of it
abbrev pub PathItem : Type 0
PathItem = List (List ℕ) × TreeItem

-- a directory with so many entries, or a file with its size and its count of pages that hold bytes
abbrev pub item_of : ℕ → Node → TreeItem
item_of entries directory = item.Dir entries
item_of entries (file content) = item.File content.size (length content.pages)

-- each path of the tree with what is told of it, in the order of the paths
unfoldable pub items_of : Tree → List PathItem
items_of tree = map (λ e. (e.0, item_of (length (entries_of tree e.0)) e.1)) (all_paths tree)

-- the items whose paths come behind a path
unfoldable pub items_behind : List (List ℕ) → List PathItem → List PathItem
items_behind path items = where_key path_cmp (λ q. is_lt (path_cmp path q)) items
