use Rattle.std.proofs.Common.{refl}
use Rattle.nl_field.proofs.OnLiterals.{field_on_literals}
use Rattle.nl_test_volume_format.proofs.records.newest_of_two.Goals as goal

pub returns-clause-outside : goal.returns-clause-outside
unfolding field_on_literals
returns-clause-outside c = refl

pub returns-clause-spare : goal.returns-clause-spare
unfolding field_on_literals
returns-clause-spare c = refl
