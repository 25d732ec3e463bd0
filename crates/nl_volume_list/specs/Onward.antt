-- Where a walk goes on in the nodes of a volume.
use Rattle.std.specs.Prelude.{◌≡◌, ℕ, ◌≤◌, List, [], ◌∷◌, ◌++◌, length, take, Option, Some, None}
use Rattle.std.specs.declared.cmp.Ordering.TheVariants.{Less}
use Rattle.nl_field.specs.Graph.{Graph}
use Rattle.nl_tree.specs.Represents.{node_reached}
use Rattle.nl_tree.specs.Tree.{path_cmp}
use Rattle.nl_volume_list.specs.Walks.{WalkState}
use Rattle.nl_volume_list.specs.declared.walk.Onward.{Onward}

-- no path comes behind this one
abbrev pub IsLast : Graph → List (List ℕ) → Type 0
IsLast graph here = (q : List (List ℕ)) (n : ℕ) → node_reached graph 0 q ≡ Some n → path_cmp here q ≡ Less → ⊥

-- The one comes behind the other, and no path between them.
pub record IsNextPath (graph : Graph) (here there : List (List ℕ)) : Type 0 where
  pub behind : path_cmp here there ≡ Less
  pub between : (q : List (List ℕ)) (n : ℕ) → node_reached graph 0 q ≡ Some n → path_cmp here q ≡ Less → path_cmp q there ≡ Less → ⊥

-- of the paths under another one none comes behind this one
abbrev pub NoneUnder : Graph → List (List ℕ) → List (List ℕ) → Type 0
NoneUnder graph here p = (s : List (List ℕ)) (n : ℕ) → node_reached graph 0 (p ++ s) ≡ Some n → path_cmp here (p ++ s) ≡ Less → ⊥

-- the path of an entry behind so many names of a walk
abbrev pub path_to : WalkState → Onward → List (List ℕ)
path_to walk to = take to.kept walk.path ++ to.entry.name ∷ []

-- The next path has so many names of the walk's path, and one more.
pub record LeadsOn (graph : Graph) (walk : WalkState) (to : Onward) : Type 0 where
  pub kept : to.kept ≤ length walk.path
  pub reached : node_reached graph 0 (path_to walk to) ≡ Some to.entry.ino
  pub next : IsNextPath graph walk.path (path_to walk to)

abbrev pub StepsOnward : Graph → WalkState → Option Onward → Type 0
StepsOnward graph walk None = IsLast graph walk.path
StepsOnward graph walk (Some to) = LeadsOn graph walk to
