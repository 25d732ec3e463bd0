use Rattle.std.proofs.Common.{refl}
use Rattle.nl_meta.proofs.OnLiterals.{meta_on_literals}
use Rattle.nl_test_volume_format.proofs.rows.moved_pointers.Goals as goal

pub returns-clause-first : goal.returns-clause-first
unfolding meta_on_literals
returns-clause-first c = refl

pub returns-clause-second : goal.returns-clause-second
unfolding meta_on_literals
returns-clause-second c = refl
