use Rattle.std.proofs.Common.{refl}
use Rattle.nl_meta.proofs.OnLiterals.{meta_on_literals}
use Rattle.nl_test_volume_format.proofs.metadata.supers_at_fault.Goals as goal

pub returns-clause-pages : goal.returns-clause-pages
unfolding meta_on_literals
returns-clause-pages c = refl

pub returns-clause-none : goal.returns-clause-none
unfolding meta_on_literals
returns-clause-none c = refl

pub returns-clause-illegal : goal.returns-clause-illegal
unfolding meta_on_literals
returns-clause-illegal c = refl
