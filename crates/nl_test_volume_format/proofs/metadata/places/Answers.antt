use Rattle.std.proofs.Common.{refl}
use Rattle.nl_meta.proofs.OnLiterals.{meta_on_literals}
use Rattle.nl_test_volume_format.proofs.metadata.places.Goals as goal

pub returns-clause-own : goal.returns-clause-own
unfolding meta_on_literals
returns-clause-own c = refl

pub returns-clause-moved : goal.returns-clause-moved
unfolding meta_on_literals
returns-clause-moved c = refl

pub returns-clause-in_spare : goal.returns-clause-in_spare
unfolding meta_on_literals
returns-clause-in_spare c = refl
