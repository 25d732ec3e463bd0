-- A run of two calls, and the trees of a volume that goes along it.
use Rattle.std.specs.Prelude.{ℕ, List, [], ◌∷◌, None}
use Rattle.nl_field.specs.Numbers.{shape_for}
use Rattle.nl_tree.specs.Tree.{Tree, directory, empty_tree}
use Rattle.nl_tree.specs.declared.call.Call.TheVariants.{Mkdir}
use Rattle.nl_spec_image.specs.Crash.{Run}
use Rattle.nl_spec_commits.specs.Trees.{Prefix, Trees}

-- the paths `/a` and `/b`
abbrev pub a : List (List ℕ)
a = (97 ∷ []) ∷ []

abbrev pub b : List (List ℕ)
b = (98 ∷ []) ∷ []

-- `mkdir /a`, a sync and `mkdir /b`, from the tree that has only the root on
abbrev pub two_made : Run
two_made = record {
  shape = shape_for 32 32;
  count = 0;
  tree = empty_tree;
  calls = (Mkdir a, None) ∷ (Mkdir b, None) ∷ [];
  syncs = record { upto = 1; moment = 9 } ∷ [];
}

-- the tree after the first call, and that after both
abbrev pub one_there : Tree
one_there = ([], directory) ∷ (a, directory) ∷ []

abbrev pub both_there : Tree
both_there = ([], directory) ∷ (a, directory) ∷ (b, directory) ∷ []

-- a volume that runs as the tree after both calls, with this one committed and nothing frozen
abbrev pub committed_at : Prefix → Trees
committed_at x = record { committed = x; frozen = x; running = both_there }
