-- What is printed of a tree: the items of its paths.
use Rattle.std.specs.Prelude.{◌≡◌, ℕ, List, [], ◌++◌, flat_map}
use Rattle.nl_tree.specs.Tree.{Tree}
use Rattle.nl_print.specs.Texts.{dir_text, file_text, opened_line, tree_text}
use Rattle.nl_volume_list.specs.Items.{PathItem, items_of}
use Rattle.nl_volume_list.specs.declared.item.TreeItem.TheVariants as item

-- the line of a path
abbrev pub item_line : PathItem → List ℕ
item_line (path, item.Dir entries) = dir_text path entries
item_line (path, item.File size pages) = file_text path size pages
item_line (path, item.End) = []
item_line (path, item.Fault) = []
item_line (path, item.Lost wanted found) = []

-- The text of a tree is made of their lines.
abbrev pub ItemsArePrinted : Type 0
ItemsArePrinted = (count : ℕ) (tree : Tree) → tree_text count tree ≡ opened_line count ++ flat_map item_line (items_of tree)
