-- The tree of the image with the file /a, and runs that go on from it.
use Rattle.std.specs.Prelude.{◌≡◌, ℕ, [], ◌∷◌, ◌++◌, List, None, codes}
use Rattle.nl_field.specs.Bytes.{zeros}
use Rattle.nl_field.specs.Examples.{fresh_image}
use Rattle.nl_field.specs.FileContent.{FileContent}
use Rattle.nl_field.specs.Medium.{shape_of_image}
use Rattle.nl_tree.specs.Order.{SyncPoint}
use Rattle.nl_tree.specs.Tree.{Tree, directory, empty_tree, file}
use Rattle.nl_tree.specs.declared.call.Call.TheVariants.{Create, Mkdir, Unlink}
use Rattle.nl_spec_image.specs.Crash.{Run}

abbrev pub hello : FileContent
hello = record { size = 5; pages = (0, codes "hello" ++ zeros 4091) ∷ [] }

abbrev pub tree_with_a : Tree
tree_with_a = ([], directory) ∷ (codes "a" ∷ [], file hello) ∷ []

-- `create /a` on a fresh volume
abbrev pub run_of_a : List SyncPoint → Run
run_of_a syncs =
    record { shape = shape_of_image fresh_image; count = 0; tree = empty_tree; calls = (Create (codes "a" ∷ []), None) ∷ []; syncs = syncs }

-- `mkdir /b` and `unlink /a` on a volume with two calls
abbrev pub run_from_two : List SyncPoint → Run
run_from_two syncs =
    record { shape = shape_of_image fresh_image; count = 2; tree = tree_with_a; calls = (Mkdir (codes "b" ∷ []), None) ∷ (Unlink (codes "a" ∷ []), None) ∷ []; syncs = syncs }

abbrev pub after_one : Tree
after_one = ([], directory) ∷ (codes "a" ∷ [], file hello) ∷ (codes "b" ∷ [], directory) ∷ []

abbrev pub after_two : Tree
after_two = ([], directory) ∷ (codes "b" ∷ [], directory) ∷ []

-- a toy of an image: a count and a tree
abbrev pub opens_as : ℕ × Tree → ℕ → Tree → Type 0
opens_as image count tree = image ≡ (count, tree)
