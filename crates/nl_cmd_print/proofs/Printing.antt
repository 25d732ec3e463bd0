-- The text of a tree is made of the lines of its items.
use Rattle.std.proofs.Common.{◌≡◌, ℕ, List, [], ◌∷◌, ◌++◌, length, map, refl, ap}
use Rattle.std.specs.List.{flat_map}
use Rattle.nl_print.specs.Texts.{node_line, opened_line}
use Rattle.nl_tree.specs.Tree.{Node, Tree, all_paths, directory, entries_of, file}
use Rattle.nl_volume_list.specs.Items.{item_of, items_of}
use Rattle.nl_cmd_print.specs.Printed.{ItemsArePrinted, item_line}

one-line : (n : ℕ) (path : List (List ℕ)) (node : Node) → node_line n path node ≡ item_line (path, item_of n node)
one-line n path directory = refl
one-line n path (file content) = refl

lines : (tree xs : Tree) → flat_map (λ e. node_line (length (entries_of tree e.0)) e.0 e.1) xs ≡ flat_map item_line (map (λ e. (e.0, item_of (length (entries_of tree e.0)) e.1)) xs)
lines tree [] = refl
lines tree (e ∷ xs) = λ i. one-line (length (entries_of tree e.0)) e.0 e.1 i ++ lines tree xs i

pub items_are_printed : ItemsArePrinted
unfolding items_of
items_are_printed count tree = ap (λ (text : List ℕ). opened_line count ++ text) (lines tree (all_paths tree))
