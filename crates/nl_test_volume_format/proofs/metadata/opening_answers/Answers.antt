use Rattle.std.proofs.Common.{refl}
use Rattle.nl_meta.proofs.OnLiterals.{meta_on_literals}
use Rattle.nl_test_volume_format.proofs.metadata.opening_answers.Goals as goal

pub returns-clause-blank : goal.returns-clause-blank
unfolding meta_on_literals
returns-clause-blank c = refl

pub returns-clause-damaged : goal.returns-clause-damaged
unfolding meta_on_literals
returns-clause-damaged c = refl

pub returns-clause-consistent : goal.returns-clause-consistent
unfolding meta_on_literals
returns-clause-consistent c = refl
