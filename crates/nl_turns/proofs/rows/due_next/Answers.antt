use Rattle.std.proofs.Common.{refl, arith}
use Rattle.nl_turns.proofs.OnLiterals.{turns_on_literals}
use Rattle.nl_turns.proofs.rows.due_next.Goals as goal

pub returns-clause-line : goal.returns-clause-line
returns-clause-line c = record { numbered = omega arith; bounded = record { names = ((λ i x is. absurd (omega (arith, is))), tt); bytes = tt }; found = (_, refl, refl, refl) }

pub returns-clause-reply : goal.returns-clause-reply
unfolding turns_on_literals
returns-clause-reply c = refl
