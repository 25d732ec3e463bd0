use Rattle.std.proofs.Common.{◌≡◌, zero, suc, true, false, [], ◌∷◌, refl, arith, rules}
use Rattle.std.specs.Prelude.{IsFalse, AllPairs}
use Rattle.nl_tree.specs.declared.call.Line.{Line}
use Rattle.nl_tree.specs.Order.{has_to_precede}
use Rattle.nl_test_script.specs.OrderExamples.{beside_it, line_before}
use Rattle.nl_test_script.proofs.order_rows.orders_of_one_worker.Goals as goal

rising : AllPairs (λ (a : Line) b. IsFalse (has_to_precede b a)) (line_before ∷ beside_it ∷ [])
rising zero zero d lt up = absurd (omega arith)
rising zero (suc zero) d lt up = refl
rising zero (suc (suc j)) d lt up = absurd (omega arith)
rising (suc i) j d lt up = absurd (omega arith)

not_so : true ≡ false → ⊥
not_so e = cc

pub returns-clause-in_order : goal.returns-clause-in_order
returns-clause-in_order c = record { each_once = record { moves = []; below = search rules; is = refl }; in_order = rising }

pub returns-clause-turned : goal.returns-clause-turned
returns-clause-turned c h = not_so (h.in_order 0 1 line_before (omega arith) (omega arith))
