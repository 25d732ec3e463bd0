use Rattle.std.proofs.Common.{refl}
use Rattle.nl_spec_commits.proofs.rows.awaits_what_is_replaced.Goals as goal

pub returns-clause-replaced : goal.returns-clause-replaced
returns-clause-replaced c = refl

pub returns-clause-none : goal.returns-clause-none
returns-clause-none c = refl
