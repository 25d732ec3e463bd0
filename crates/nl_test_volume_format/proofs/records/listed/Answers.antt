use Rattle.std.proofs.Common.{refl}
use Rattle.nl_field.proofs.OnLiterals.{field_on_literals}
use Rattle.nl_test_volume_format.proofs.records.listed.Goals as goal

pub returns-clause-lower : goal.returns-clause-lower
unfolding field_on_literals
returns-clause-lower c = refl

pub returns-clause-differs : goal.returns-clause-differs
unfolding field_on_literals
returns-clause-differs c = refl

pub returns-clause-zeros : goal.returns-clause-zeros
unfolding field_on_literals
returns-clause-zeros c = refl

pub returns-clause-own : goal.returns-clause-own
unfolding field_on_literals
returns-clause-own c = refl

pub returns-clause-taken : goal.returns-clause-taken
unfolding field_on_literals
returns-clause-taken c = refl

pub returns-clause-empty : goal.returns-clause-empty
unfolding field_on_literals
returns-clause-empty c = refl

pub returns-clause-lost : goal.returns-clause-lost
unfolding field_on_literals
returns-clause-lost c = refl

pub returns-clause-place : goal.returns-clause-place
unfolding field_on_literals
returns-clause-place c = refl
