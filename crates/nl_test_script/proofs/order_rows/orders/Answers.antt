use Rattle.std.proofs.Common.{◌≡◌, ℕ, zero, suc, true, false, [], ◌∷◌, refl, arith, rules}
use Rattle.std.specs.Prelude.{IsFalse, AllPairs}
use Rattle.std.proofs.lemmas.List.Sorted.{sum_by-IsPermutation}
use Rattle.nl_tree.specs.declared.call.Line.{Line}
use Rattle.nl_test_script.specs.Examples.{before_a_sync, the_sync}
use Rattle.nl_tree.specs.Order.{has_to_precede}
use Rattle.nl_test_script.specs.OrderExamples.{beside_it, three_lines}
use Rattle.nl_test_script.proofs.order_rows.orders.Goals as goal

rising : AllPairs (λ (a : Line) b. IsFalse (has_to_precede b a)) (beside_it ∷ before_a_sync ∷ the_sync ∷ [])
rising zero zero d lt up = absurd (omega arith)
rising zero (suc zero) d lt up = refl
rising zero (suc (suc zero)) d lt up = refl
rising zero (suc (suc (suc j))) d lt up = absurd (omega arith)
rising (suc zero) zero d lt up = absurd (omega arith)
rising (suc zero) (suc zero) d lt up = absurd (omega arith)
rising (suc zero) (suc (suc zero)) d lt up = refl
rising (suc zero) (suc (suc (suc j))) d lt up = absurd (omega arith)
rising (suc (suc i)) j d lt up = absurd (omega arith)

not_so : true ≡ false → ⊥
not_so e = cc

fewer : (x : ℕ) → x ≡ 2 → x ≡ 3 → ⊥
fewer x e f = omega arith

pub returns-clause-in_order : goal.returns-clause-in_order
returns-clause-in_order c = record { each_once = record { moves = (0, 1) ∷ []; below = search rules; is = refl }; in_order = rising }

pub returns-clause-round : goal.returns-clause-round
returns-clause-round c h = not_so (h.in_order 1 2 the_sync (omega arith) (omega arith))

pub returns-clause-missing : goal.returns-clause-missing
returns-clause-missing c h = fewer 2 refl (sum_by-IsPermutation (λ (l : Line). 1) three_lines (before_a_sync ∷ the_sync ∷ []) h.each_once)

same_sum : (x : ℕ) → x ≡ 5 → x ≡ 6 → ⊥
same_sum x e f = omega arith

more : (x : ℕ) → x ≡ 4 → x ≡ 3 → ⊥
more x e f = omega arith

pub returns-clause-twice : goal.returns-clause-twice
returns-clause-twice c h = same_sum 5 refl (sum_by-IsPermutation (λ (l : Line). l.line) three_lines (before_a_sync ∷ before_a_sync ∷ the_sync ∷ []) h.each_once)

pub returns-clause-once_more : goal.returns-clause-once_more
returns-clause-once_more c h = more 4 refl (sum_by-IsPermutation (λ (l : Line). 1) three_lines (before_a_sync ∷ beside_it ∷ the_sync ∷ the_sync ∷ []) h.each_once)
