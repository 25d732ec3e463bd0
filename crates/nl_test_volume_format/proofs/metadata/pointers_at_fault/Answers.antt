use Rattle.std.proofs.Common.{refl}
use Rattle.nl_meta.proofs.OnLiterals.{meta_on_literals}
use Rattle.nl_test_volume_format.proofs.metadata.pointers_at_fault.Goals as goal

pub returns-clause-size : goal.returns-clause-size
unfolding meta_on_literals
returns-clause-size c = refl

pub returns-clause-name : goal.returns-clause-name
unfolding meta_on_literals
returns-clause-name c = refl

pub returns-clause-tag : goal.returns-clause-tag
unfolding meta_on_literals
returns-clause-tag c = refl
