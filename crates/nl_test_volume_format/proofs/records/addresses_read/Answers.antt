use Rattle.std.proofs.Common.{refl}
use Rattle.nl_field.proofs.OnLiterals.{field_on_literals}
use Rattle.nl_test_volume_format.proofs.records.addresses_read.Goals as goal

pub returns-clause-value : goal.returns-clause-value
unfolding field_on_literals
returns-clause-value c = refl

pub returns-clause-unwritten : goal.returns-clause-unwritten
unfolding field_on_literals
returns-clause-unwritten c = refl

pub returns-clause-none : goal.returns-clause-none
unfolding field_on_literals
returns-clause-none c = refl

pub returns-clause-last : goal.returns-clause-last
unfolding field_on_literals
returns-clause-last c = refl

pub returns-clause-beyond : goal.returns-clause-beyond
unfolding field_on_literals
returns-clause-beyond c = refl
