-- The tree with only the root.
use Rattle.std.proofs.Common.{◌≡◌, ℕ, true, List, [], ◌∷◌, ◌++◌, refl, subst, Some, None, IsSome}
use Rattle.nl_field.specs.FileContent.{FileContent, is_content}
use Rattle.nl_tree.specs.Charges.{data_charge}
use Rattle.nl_tree.specs.Tree.{Node, directory, file, node_at, empty_tree, IsTree}
use Rattle.nl_tree.proofs.OnLiterals.{tree_on_literals}

no_parent : (path : List (List ℕ)) (name : List ℕ) → node_at empty_tree (path ++ name ∷ []) ≡ None
unfolding tree_on_literals
no_parent [] name = refl
no_parent (x ∷ path) name = refl

pub empty_at_root : node_at empty_tree [] ≡ Some directory
unfolding tree_on_literals
empty_at_root = refl

pub empty_below : (name : List ℕ) (names : List (List ℕ)) → node_at empty_tree (name ∷ names) ≡ None
unfolding tree_on_literals
empty_below name names = refl

pub no_data_in : data_charge empty_tree ≡ 0
unfolding tree_on_literals
no_data_in = refl

pub empty_is_tree : IsTree empty_tree
unfolding tree_on_literals
empty_is_tree = record {
  in_order = refl;
  root = refl;
  parents = λ path name h. absurd (none_is_none (subst IsSome (no_parent path name) h));
  contents = λ path content e. only path content e;
}
  where
    none_is_none : IsSome {T = Node} None → ⊥
    none_is_none h = cc

    only : (path : List (List ℕ)) (content : FileContent) → node_at empty_tree path ≡ Some (file content) → is_content content ≡ true
    only [] content e = absurd (apart e)
      where
        apart : Some directory ≡ Some (file content) → ⊥
        apart e = cc
    only (x ∷ path) content e = cc
