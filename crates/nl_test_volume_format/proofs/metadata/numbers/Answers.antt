use Rattle.std.proofs.Common.{refl}
use Rattle.nl_meta.proofs.OnLiterals.{meta_on_literals}
use Rattle.nl_test_volume_format.proofs.metadata.numbers.Goals as goal

pub returns-clause-none : goal.returns-clause-none
unfolding meta_on_literals
returns-clause-none c = refl

pub returns-clause-both : goal.returns-clause-both
unfolding meta_on_literals
returns-clause-both c = refl

pub returns-clause-greater : goal.returns-clause-greater
unfolding meta_on_literals
returns-clause-greater c = refl
