use Rattle.std.proofs.Common.{◌≡◌, ℕ, ◌≤◌, true, List, [], ◌∷◌, refl, sym, ap, subst, ◌∙◌, Some, None, option_map, option_and_then, cond, arith}
use Rattle.std.specs.declared.cmp.Ordering.{Ordering}
use Rattle.std.specs.declared.cmp.Ordering.TheVariants.{Less, Equal, Greater}
use Rattle.std.specs.Ordering.{nat_cmp, is_eq, ordering_then}
use Rattle.std.specs.Cmp.Lexicographic.{slice_cmp}
use Rattle.nl_field.specs.Page.{is_image}
use Rattle.nl_field.specs.Graph.{Graph}
use Rattle.nl_field.specs.Medium.{shape_of_image}
use Rattle.nl_field.specs.declared.super_page.SuperRec.{SuperRec}
use Rattle.nl_tree.specs.Charges.{data_charge}
use Rattle.nl_tree.specs.Tree.{file, Tree, IsTree}
use Rattle.nl_tree.specs.TreeLaws.{IsInOrder}
use Rattle.nl_tree.specs.Represents.{Represents, node_of, node_reached}
use Rattle.nl_tree.proofs.OnLiterals.{tree_on_literals}
use Rattle.nl_tree.proofs.TreeProofs.{tree_laws}
use Rattle.nl_meta.specs.Committed.{committed_of}
use Rattle.nl_meta.specs.Nodes.{graph_of, super_of_pages}
use Rattle.nl_meta.specs.Walk.{walk}
use Rattle.nl_meta.specs.Consistent.{Consistent}
use Rattle.nl_test_volume_format.specs.Examples.{image_of_a, hello_page}
use Rattle.nl_meta.proofs.OnLiterals.{meta_on_literals}
use Rattle.nl_meta.proofs.Lists.{some_in}
use Rattle.nl_meta.proofs.WalkProofs.{walk_is_consistency}
use Rattle.nl_test_volume_format.specs.Trees.{hello, tree_with_a}
use Rattle.nl_spec_image.specs.Stands.{bytes_found, ImageRepresents}
use Rattle.nl_spec_image.proofs.SoundProofs.{metadata_represents}
use Rattle.nl_test_volume_format.proofs.trees.a_stands.Goals as goal

abbrev graph : Graph
graph = graph_of (shape_of_image (image_of_a hello_page)) (committed_of (image_of_a hello_page))

-- what stands at a path below a name that compares so with the one entry of the root
by_order : (names : List (List ℕ)) (o : Ordering)
    → cond (is_eq (ordering_then o (slice_cmp (slice_cmp nat_cmp) names []))) (Some (file hello)) None
    ≡ option_and_then (λ n. node_of (bytes_found (image_of_a hello_page)) (graph n).body) (option_and_then (λ m. node_reached graph m names) (cond (is_eq o) (Some 1) None))
unfolding bytes_found meta_on_literals tree_on_literals
by_order [] Less = refl
by_order [] Equal = refl
by_order [] Greater = refl
by_order (name ∷ names) Less = refl
by_order (name ∷ names) Equal = refl
by_order (name ∷ names) Greater = refl

depicted : Represents (bytes_found (image_of_a hello_page)) graph tree_with_a
unfolding bytes_found meta_on_literals tree_on_literals
depicted [] = refl
depicted (name ∷ names) = by_order names (slice_cmp nat_cmp name (97 ∷ []))

no_fault : walk (image_of_a hello_page) ≡ None
unfolding meta_on_literals
no_fault = refl

two_calls : option_map (λ (rec : SuperRec). rec.count) (super_of_pages (committed_of (image_of_a hello_page))) ≡ Some 2
unfolding meta_on_literals
two_calls = refl

is_whole : is_image (image_of_a hello_page) ≡ true
unfolding meta_on_literals
is_whole = refl

one_page : data_charge tree_with_a ≡ 1
unfolding tree_on_literals
one_page = refl

in_order : IsInOrder tree_with_a
unfolding tree_on_literals
in_order = refl

cap_is : (shape_of_image (image_of_a hello_page)).cap ≡ 480
unfolding meta_on_literals
cap_is = refl

found : Consistent (image_of_a hello_page)
found = (walk_is_consistency (image_of_a hello_page)).0 no_fault

some_tree : (tree : Tree) × ImageRepresents (image_of_a hello_page) found.metadata.super_rec.count tree
some_tree = metadata_represents (image_of_a hello_page) is_whole found.metadata

pub returns : goal.returns
returns c = record {
  stands = record {
    pages_whole = is_whole;
    metadata = found.metadata;
    count_of_calls = some_in found.metadata.super_rec.count 2 (sym (ap (option_map (λ (rec : SuperRec). rec.count)) found.metadata.numbers.spelled) ∙ two_calls);
    is_tree = subst IsTree (tree_laws.same_tree some_tree.0 tree_with_a some_tree.1.is_tree.in_order in_order (λ q. some_tree.1.depicts q ∙ sym (depicted q))) some_tree.1.is_tree;
    depicts = depicted;
  };
  own_names = found.own_names;
  data_fits = fits (data_charge tree_with_a) (shape_of_image (image_of_a hello_page)).cap one_page cap_is;
  room = found.room;
}
  where
    fits : (a b : ℕ) → a ≡ 1 → b ≡ 480 → a ≤ b
    fits a b e f = omega arith
