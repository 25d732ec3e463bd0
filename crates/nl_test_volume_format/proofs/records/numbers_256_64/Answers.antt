use Rattle.std.proofs.Common.{refl}
use Rattle.nl_field.proofs.OnLiterals.{field_on_literals}
use Rattle.nl_test_volume_format.proofs.records.numbers_256_64.Goals as goal

pub returns : goal.returns
unfolding field_on_literals
returns c = refl
