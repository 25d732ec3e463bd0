-- A file of two bytes, and small trees.
use Rattle.std.specs.Prelude.{ℕ, List, [], ◌∷◌, codes}
use Rattle.nl_field.specs.FileContent.{FileContent, empty_file}
use Rattle.nl_field.specs.Numbers.{shape_for}
use Rattle.nl_field.specs.declared.shape.Shape.{Shape}
use Rattle.nl_tree.specs.Tree.{Tree, directory, file}

-- two zero bytes, on no page
abbrev pub two_zeros : FileContent
two_zeros = record { size = 2; pages = [] }

-- the paths `/a` and `/.put-0`
abbrev pub a : List (List ℕ)
a = codes "a" ∷ []

abbrev pub own : List (List ℕ)
own = codes ".put-0" ∷ []

abbrev pub small : Shape
small = shape_for 32 32

-- the tree with an empty file at a path, and with that file of two bytes at `/a`
abbrev pub with_empty : List (List ℕ) → Tree
with_empty path = ([], directory) ∷ (path, file empty_file) ∷ []

abbrev pub with_two : Tree
with_two = ([], directory) ∷ (a, file two_zeros) ∷ []
