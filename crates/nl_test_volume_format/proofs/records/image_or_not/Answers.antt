use Rattle.std.proofs.Common.{refl}
use Rattle.nl_field.proofs.OnLiterals.{field_on_literals}
use Rattle.nl_test_volume_format.proofs.records.image_or_not.Goals as goal

pub returns-clause-fresh : goal.returns-clause-fresh
unfolding field_on_literals
returns-clause-fresh c = refl

pub returns-clause-short : goal.returns-clause-short
unfolding field_on_literals
returns-clause-short c = refl
