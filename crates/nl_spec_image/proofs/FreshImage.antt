-- What `format 32 32` leaves, evaluated.
use Rattle.std.proofs.Common.{◌≡◌, ℕ, ◌≤◌, [], ◌∷◌, true, refl, sym, ap, subst, ◌∙◌, Some, None, option_map, arith}
use Rattle.nl_field.specs.Page.{is_image}
use Rattle.nl_field.specs.Examples.{fresh_image}
use Rattle.nl_field.specs.Medium.{shape_of_image}
use Rattle.nl_field.specs.declared.super_page.SuperRec.{SuperRec}
use Rattle.nl_tree.specs.Tree.{empty_tree}
use Rattle.nl_tree.specs.Represents.{Represents}
use Rattle.nl_tree.proofs.OnLiterals.{tree_on_literals}
use Rattle.nl_meta.specs.Committed.{committed_of}
use Rattle.nl_meta.specs.Nodes.{graph_of, super_of_pages}
use Rattle.nl_meta.specs.Walk.{walk}
use Rattle.nl_meta.specs.Consistent.{Consistent}
use Rattle.nl_meta.proofs.OnLiterals.{meta_on_literals}
use Rattle.nl_meta.proofs.Lists.{some_in}
use Rattle.nl_meta.proofs.WalkProofs.{walk_is_consistency}
use Rattle.nl_spec_image.specs.Stands.{bytes_found, ConsistentAs}
use Rattle.nl_spec_image.proofs.EmptyTree.{empty_is_tree, no_data_in}

only_the_root : Represents (bytes_found fresh_image) (graph_of (shape_of_image fresh_image) (committed_of fresh_image)) empty_tree
unfolding bytes_found meta_on_literals tree_on_literals
only_the_root [] = refl
only_the_root (name ∷ names) = refl

no_fault : walk fresh_image ≡ None
unfolding meta_on_literals
no_fault = refl

no_calls : option_map (λ (rec : SuperRec). rec.count) (super_of_pages (committed_of fresh_image)) ≡ Some 0
unfolding meta_on_literals
no_calls = refl

is_whole : is_image fresh_image ≡ true
unfolding meta_on_literals
is_whole = refl

found : Consistent fresh_image
found = (walk_is_consistency fresh_image).0 no_fault

pub fresh_stands : ConsistentAs fresh_image 0 empty_tree
fresh_stands = record {
  stands = record {
    pages_whole = is_whole;
    metadata = found.metadata;
    count_of_calls = some_in found.metadata.super_rec.count 0 (sym (ap (option_map (λ (rec : SuperRec). rec.count)) found.metadata.numbers.spelled) ∙ no_calls);
    is_tree = empty_is_tree;
    depicts = only_the_root;
  };
  own_names = found.own_names;
  data_fits = subst (λ (n : ℕ). n ≤ (shape_of_image fresh_image).cap) (sym no_data_in) (omega arith);
  room = found.room;
}
