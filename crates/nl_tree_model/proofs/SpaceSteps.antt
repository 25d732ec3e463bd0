-- Steps of the loops that judge a tree's room.
use Rattle.std.proofs.Common.{◌≡◌, ◌<◌, ◌+◌, ◌-◌, ℕ, Bool, true, false, ◌||◌, List, length, take, drop, get_or, sum_by, ap, sym, arith, ◌∙◌}
use Rattle.std.specs.List.{list_any}
use Rattle.std.specs.Bool.{passes}
use Rattle.std.proofs.lemmas.List.{drop_more, take_all, length-drop, get_or_default}
use Rattle.std.proofs.lemmas.List.Sums.{sum_by-drop_more}
use Rattle.nl_tree.specs.Tree.{Tree, Node, entries_of}
use Rattle.nl_tree.specs.TreeLaws.{IsInOrder}
use Rattle.nl_tree_entries.specs.Entries.{run_of}
use Rattle.nl_tree_entries.proofs.RunProofs.{entries_at}

pub entries_in_order : (tree : Tree) (i : ℕ) (d e : List (List ℕ) × Node) → i < length tree → IsInOrder tree
    → run_of (get_or tree i d).0 (take (length tree - (i + 1)) (drop (i + 1) tree)) ≡ length (entries_of tree (get_or tree i e).0)
entries_in_order tree i d e lt h =
    let whole : take (length tree - (i + 1)) (drop (i + 1) tree) ≡ drop (i + 1) tree = take_all (length tree - (i + 1)) (drop (i + 1) tree) (omega (arith, length-drop (i + 1) tree)) in
    ap (run_of (get_or tree i d).0) whole ∙ entries_at tree i d lt (passes _ h) ∙ ap (λ (x : List (List ℕ) × Node). length (entries_of tree x.0)) (get_or_default tree i d e lt)

pub any_more : (P : List (List ℕ) × Node → Bool) (tree : Tree) (i : ℕ) (d : List (List ℕ) × Node) → i < length tree → list_any P (drop i tree) ≡ (P (get_or tree i d) || list_any P (drop (i + 1) tree))
any_more P tree i d lt = ap (list_any P) (drop_more tree i d lt)

pub any_step : (P : List (List ℕ) × Node → Bool) (tree : Tree) (i : ℕ) (d : List (List ℕ) × Node) (all : Bool) → i < length tree → false ≡ P (get_or tree i d) → list_any P (drop i tree) ≡ all → list_any P (drop (i + 1) tree) ≡ all
any_step P tree i d all lt not before = ap (λ b. b || list_any P (drop (i + 1) tree)) not ∙ sym (any_more P tree i d lt) ∙ before

pub any_found : (P : List (List ℕ) × Node → Bool) (tree : Tree) (i : ℕ) (d : List (List ℕ) × Node) (all : Bool) → i < length tree → true ≡ P (get_or tree i d) → list_any P (drop i tree) ≡ all → true ≡ all
any_found P tree i d all lt is before = ap (λ b. b || list_any P (drop (i + 1) tree)) is ∙ sym (any_more P tree i d lt) ∙ before

pub sum_more : (f : List (List ℕ) × Node → ℕ) (tree : Tree) (i : ℕ) (d : List (List ℕ) × Node) → i < length tree → sum_by f (drop i tree) ≡ f (get_or tree i d) + sum_by f (drop (i + 1) tree)
sum_more f tree i d lt = sum_by-drop_more f tree i d lt
