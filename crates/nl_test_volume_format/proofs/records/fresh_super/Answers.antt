use Rattle.std.proofs.Common.{refl}
use Rattle.nl_field.proofs.OnLiterals.{field_on_literals}
use Rattle.nl_test_volume_format.proofs.records.fresh_super.Goals as goal

pub returns-clause-head : goal.returns-clause-head
unfolding field_on_literals
returns-clause-head c = refl

pub returns-clause-back : goal.returns-clause-back
unfolding field_on_literals
returns-clause-back c = refl
