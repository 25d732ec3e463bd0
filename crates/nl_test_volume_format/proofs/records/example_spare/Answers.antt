use Rattle.std.proofs.Common.{refl}
use Rattle.nl_field.proofs.OnLiterals.{field_on_literals}
use Rattle.nl_test_volume_format.proofs.records.example_spare.Goals as goal

pub returns-clause-written : goal.returns-clause-written
unfolding field_on_literals
returns-clause-written c = refl

pub returns-clause-read : goal.returns-clause-read
unfolding field_on_literals
returns-clause-read c = refl

pub returns-clause-no_zeros : goal.returns-clause-no_zeros
unfolding field_on_literals
returns-clause-no_zeros c = refl

pub returns-clause-no_stamp : goal.returns-clause-no_stamp
unfolding field_on_literals
returns-clause-no_stamp c = refl
