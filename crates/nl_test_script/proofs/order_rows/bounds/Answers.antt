use Rattle.std.proofs.Common.{◌≡◌, ◌<◌, ◌≤◌, zero, suc, true, [], refl, arith}
use Rattle.std.specs.Prelude.{All, AllPairs, codes}
use Rattle.nl_field.specs.Names.{is_name}
use Rattle.nl_tree.specs.Calls.{AreNames, IsLine}
use Rattle.nl_test_script.specs.Examples.{a, d, the_sync}
use Rattle.nl_test_script.specs.OrderExamples.{three_lines}
use Rattle.nl_tree.specs.declared.call.Line.{Line}
use Rattle.nl_test_script.proofs.order_rows.bounds.Goals as goal

no_names : AreNames []
no_names k x lt = absurd (omega arith)

name_a : AreNames a
unfolding is_name
name_a zero x lt = refl
name_a (suc k) x lt = absurd (omega arith)

name_d : AreNames d
unfolding is_name
name_d zero x lt = refl
name_d (suc k) x lt = absurd (omega arith)

is_no_name : is_name (codes "a/b") ≡ true → ⊥
unfolding is_name
is_no_name e = cc

above : 3 < 3 → ⊥
above h = omega arith

each : All IsLine three_lines
each zero x lt = record { number = omega arith; worker = omega arith; bounded = record { names = (name_d, tt); bytes = tt } }
each (suc zero) x lt = record { number = omega arith; worker = omega arith; bounded = record { names = (no_names, tt); bytes = tt } }
each (suc (suc zero)) x lt = record { number = omega arith; worker = omega arith; bounded = record { names = tt; bytes = tt } }
each (suc (suc (suc k))) x lt = absurd (omega arith)

rising : AllPairs (λ (l : Line) m. (l.line < m.line) × (l.round ≤ m.round)) three_lines
rising zero zero x lt up = absurd (omega arith)
rising zero (suc zero) x lt up = (omega arith, omega arith)
rising zero (suc (suc zero)) x lt up = (omega arith, omega arith)
rising zero (suc (suc (suc j))) x lt up = absurd (omega arith)
rising (suc zero) zero x lt up = absurd (omega arith)
rising (suc zero) (suc zero) x lt up = absurd (omega arith)
rising (suc zero) (suc (suc zero)) x lt up = (omega arith, omega arith)
rising (suc zero) (suc (suc (suc j))) x lt up = absurd (omega arith)
rising (suc (suc i)) j x lt up = absurd (omega arith)

pub returns-clause-name : goal.returns-clause-name
returns-clause-name c = record { names = (name_a, tt); bytes = tt }

pub returns-clause-no_name : goal.returns-clause-no_name
returns-clause-no_name c h = is_no_name (h.names.0 0 [] (omega arith))

pub returns-clause-lines : goal.returns-clause-lines
returns-clause-lines c = record { each = each; rising = rising }

pub returns-clause-twice : goal.returns-clause-twice
returns-clause-twice c h = above (h.rising 0 1 the_sync (omega arith) (omega arith)).0
