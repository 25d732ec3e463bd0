use Rattle.std.proofs.Common.{refl}
use Rattle.nl_meta.proofs.OnLiterals.{meta_on_literals}
use Rattle.nl_test_volume_format.proofs.metadata.entries_by_name.Goals as goal

pub returns-clause-first : goal.returns-clause-first
unfolding meta_on_literals
returns-clause-first c = refl

pub returns-clause-longer : goal.returns-clause-longer
unfolding meta_on_literals
returns-clause-longer c = refl

pub returns-clause-other : goal.returns-clause-other
unfolding meta_on_literals
returns-clause-other c = refl
