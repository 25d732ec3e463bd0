-- The order in which the items of a tree come, and how many they are.
use Rattle.std.proofs.Common.{ℕ, List, [], ◌∷◌, ◌++◌, length, sym, ap, ◌∙◌}
use Rattle.std.proofs.lemmas.List.{append-nil}
use Rattle.std.specs.declared.cmp.Ordering.{Ordering}
use Rattle.std.specs.Ordering.{ordering_then}
use Rattle.nl_spec_image.proofs.Sums.{length_mapped}
use Rattle.nl_tree.specs.Charges.{node_charge}
use Rattle.nl_tree.specs.Tree.{Node, all_nodes, all_paths, entries_of, path_cmp}
use Rattle.nl_tree.proofs.TreeProofs.{from_T}
use Rattle.nl_volume_list.specs.Items.{item_of, items_of}
use Rattle.nl_volume_list.specs.Laws.{ItemsAreCounted, ItemsInTurn}
use Rattle.nl_volume_list.proofs.Climbing.{Path, order-behind}
use Rattle.nl_volume_list.proofs.Sorted.{items-sorted}

pub items_in_turn : ItemsInTurn
items_in_turn = record {
  under = λ p x r. ap (λ (q : Path). path_cmp q (p ++ x ∷ r)) (sym (append-nil p)) ∙ order-behind p [] (x ∷ r);
  beside = λ p x y r s e. order-behind p (x ∷ r) (y ∷ s) ∙ ap (λ (o : Ordering). ordering_then o (path_cmp r s)) e;
  rise = λ tree is. from_T _ (items-sorted tree is.in_order);
}

pub items_are_counted : ItemsAreCounted
unfolding items_of node_charge all_paths all_nodes
items_are_counted tree =
    length_mapped (λ (e : List (List ℕ) × Node). (e.0, item_of (length (entries_of tree e.0)) e.1)) tree ∙ sym (length_mapped (λ (e : List (List ℕ) × Node). e.1) tree)
