-- A tree on which the definitions are evaluated.
use Rattle.std.specs.Prelude.{[], ◌∷◌, codes}
use Rattle.nl_tree.specs.Tree.{Tree, directory, file}

-- `/a` has `x`, and beside it there are `/a!` and `/b`
abbrev pub small_tree : Tree
small_tree =
    ([], directory) ∷ (codes "a" ∷ [], directory)
    ∷ (codes "a" ∷ codes "x" ∷ [], file (record { size = 4; pages = (0, codes "new\n") ∷ [] }))
    ∷ (codes "a!" ∷ [], file (record { size = 8192; pages = [] })) ∷ (codes "b" ∷ [], directory) ∷ []
