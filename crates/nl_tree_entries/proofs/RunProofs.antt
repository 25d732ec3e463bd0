-- In an ordered tree the entries of a directory stand in the run of what lies under it, right behind it.
use Rattle.std.proofs.Common.{◌≡◌, ◌<◌, ◌+◌, ◌==◌, ◌&&◌, ℕ, zero, suc, Bool, true, false, T, List, [], ◌∷◌, length, drop, get_or, ap, sym, refl, arith, ◌∙◌, cond, if◌then◌else◌, add-one}
use Rattle.std.proofs.lemmas.Bool.Decides.{nat_tests}
use Rattle.std.specs.declared.cmp.Ordering.{Ordering}
use Rattle.std.specs.declared.cmp.Ordering.TheVariants.{Less, Equal, Greater}
use Rattle.std.specs.Ordering.{is_lt}
use Rattle.std.specs.FinMap.Entries.{where_key, below_all, is_sorted}
use Rattle.nl_tree.specs.Tree.{Tree, Node, path_cmp, is_at_or_under, entries_of}
use Rattle.nl_tree.specs.KeptSums.{is_entry_of}
use Rattle.nl_tree_entries.specs.Entries.{run_of}
use Rattle.nl_tree_entries.proofs.PathProofs.{behind_not_under, before_not_under}

abbrev E : Type 0
E = List (List ℕ) × Node

is_less : (o : Ordering) → T (is_lt o) → o ≡ Less
is_less Less p = refl
is_less Equal p = absurd p
is_less Greater p = absurd p

one : (a b : Bool) → T (a && b) → T a
one true b p = tt
one false b p = p

two : (a b : Bool) → T (a && b) → T b
two true b p = p
two false b p = absurd p

dropped : (b : Bool) (x y : Tree) → cond (b && false) x y ≡ y
dropped true x y = refl
dropped false x y = refl

not_kept : (p : List (List ℕ)) (e : E) (es : Tree) → is_at_or_under p e.0 ≡ false → where_key path_cmp (is_entry_of p) (e ∷ es) ≡ where_key path_cmp (is_entry_of p) es
not_kept p e es out =
    let w = where_key path_cmp (is_entry_of p) es in
    ap (λ b. cond ((length e.0 == length p + 1) && b) (e ∷ w) w) out ∙ dropped (length e.0 == length p + 1) (e ∷ w) w

none_behind : (p x : List (List ℕ)) (es : Tree) → path_cmp p x ≡ Less → is_at_or_under p x ≡ false → T (below_all path_cmp x es) → where_key path_cmp (is_entry_of p) es ≡ []
none_behind p x [] a out h = refl
none_behind p x (e ∷ es) a out h =
    not_kept p e es (behind_not_under p x e.0 a out (is_less _ (one _ _ h))) ∙ none_behind p x es a out (two _ _ h)

pub run_of-is : (p : List (List ℕ)) (es : Tree) → T (below_all path_cmp p es) → T (is_sorted path_cmp es) → run_of p es ≡ length (where_key path_cmp (is_entry_of p) es)
run_of-is p [] low sorted = refl
run_of-is p (e ∷ es) low sorted =
    let w = where_key path_cmp (is_entry_of p) es in
    let rest : run_of p es ≡ length (where_key path_cmp (is_entry_of p) es) = run_of-is p es (two _ _ low) (two _ _ sorted) in
    elim (is_at_or_under p e.0) as (λ b. is_at_or_under p e.0 ≡ b → (if b then (if length e.0 == length p + 1 then 1 else 0) + run_of p es else 0) ≡ length (cond ((length e.0 == length p + 1) && b) (e ∷ w) w)) [
      | true ↦ λ u. elim (length e.0 == length p + 1) as (λ b. (if b then 1 else 0) + run_of p es ≡ length (cond (b && true) (e ∷ w) w)) [ true ↦ omega (arith, rest) | false ↦ omega (arith, rest) ]
      | false ↦ λ u. sym (ap length (dropped (length e.0 == length p + 1) (e ∷ w) w ∙ none_behind p e.0 es (is_less _ (one _ _ low)) u (one _ _ sorted)))
    ] refl

below_at : (x : List (List ℕ)) (es : Tree) (i : ℕ) (d : E) → i < length es → T (below_all path_cmp x es) → path_cmp x (get_or es i d).0 ≡ Less
below_at x [] i d lt h = absurd (omega arith)
below_at x (e ∷ es) zero d lt h = is_less _ (one _ _ h)
below_at x (e ∷ es) (suc i) d lt h = below_at x es i d (omega arith) (two _ _ h)

not_next : (n : ℕ) → (n == n + 1) ≡ false
not_next n = grind (arith, nat_tests)

skip : (tree : Tree) (i : ℕ) (d : E) → i < length tree → T (is_sorted path_cmp tree)
    → where_key path_cmp (is_entry_of (get_or tree i d).0) tree ≡ where_key path_cmp (is_entry_of (get_or tree i d).0) (drop (suc i) tree)
skip [] i d lt sorted = absurd (omega arith)
skip (e ∷ tree) zero d lt sorted =
    let w = where_key path_cmp (is_entry_of e.0) tree in
    ap (λ b. cond (b && is_at_or_under e.0 e.0) (e ∷ w) w) (not_next (length e.0))
skip (e ∷ tree) (suc i) d lt sorted =
    not_kept (get_or tree i d).0 e tree (before_not_under (get_or tree i d).0 e.0 (below_at e.0 tree i d (omega arith) (one _ _ sorted))) ∙ skip tree i d (omega arith) (two _ _ sorted)

sorted_behind : (tree : Tree) (i : ℕ) (d : E) → i < length tree → T (is_sorted path_cmp tree)
    → T (below_all path_cmp (get_or tree i d).0 (drop (suc i) tree)) × T (is_sorted path_cmp (drop (suc i) tree))
sorted_behind [] i d lt sorted = absurd (omega arith)
sorted_behind (e ∷ tree) zero d lt sorted = (one _ _ sorted, two _ _ sorted)
sorted_behind (e ∷ tree) (suc i) d lt sorted = sorted_behind tree i d (omega arith) (two _ _ sorted)

pub entries_at : (tree : Tree) (i : ℕ) (d : E) → i < length tree → T (is_sorted path_cmp tree) → run_of (get_or tree i d).0 (drop (i + 1) tree) ≡ length (entries_of tree (get_or tree i d).0)
unfolding entries_of
entries_at tree i d lt sorted =
    let behind = sorted_behind tree i d lt sorted in
    rw add-one (run_of-is (get_or tree i d).0 (drop (suc i) tree) behind.0 behind.1 ∙ sym (ap length (skip tree i d lt sorted)))
