use Rattle.std.proofs.Common.{refl}
use Rattle.nl_turns.proofs.OnLiterals.{turns_on_literals}
use Rattle.nl_workers.proofs.rows.answers.Goals as goal

pub returns-clause-row : goal.returns-clause-row
unfolding turns_on_literals
returns-clause-row c = record { entry_is = refl; ordinal = refl; place = refl; answer = λ t. (refl, refl) }

pub returns-clause-other_answer : goal.returns-clause-other_answer
unfolding turns_on_literals
returns-clause-other_answer c h = let e = (h.answer tt).0 in absurd (cc e)

pub returns-clause-other_bytes : goal.returns-clause-other_bytes
unfolding turns_on_literals
returns-clause-other_bytes c h = let e = (h.answer tt).1 in absurd (cc e)
