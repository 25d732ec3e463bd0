-- Parts of a tree as the list of its entries.
use Rattle.std.specs.Prelude.{ℕ, ◌+◌, drop, ◌==◌, ◌≤◌, if◌then◌else◌, List, [], ◌∷◌, length}
use Rattle.std.specs.declared.cmp.Ordering.{Ordering}
use Rattle.std.specs.List.{AllByRecursion}
use Rattle.nl_field.specs.Numbers.{max_name}
use Rattle.nl_tree_content.specs.Places.{is_first}
use Rattle.nl_tree.specs.Tree.{Tree, is_at_or_under, last_name}

-- the entries behind the first one, where that is at the key
abbrev pub behind_first : {K X : Type 0} → (K → K → Ordering) → K → List (K × X) → List (K × X)
behind_first R key entries = if is_first R key entries then drop 1 entries else entries

-- how many entries of a directory stand in the leading run of what lies under it
abbrev pub run_of : List (List ℕ) → Tree → ℕ
run_of path [] = 0
run_of path (e ∷ tree) = if is_at_or_under path e.0 then (if length e.0 == length path + 1 then 1 else 0) + run_of path tree else 0

-- each path ends in a name of at most 55 bytes
abbrev pub HasShortNames : Tree → Type 0
HasShortNames tree = AllByRecursion (λ e. length (last_name e.0) ≤ max_name) tree
