use Rattle.std.proofs.Common.{refl}
use Rattle.nl_meta.proofs.OnLiterals.{meta_on_literals}
use Rattle.nl_core_open.specs.Figures.{pairs_of}
use Rattle.nl_test_volume_format.proofs.rows.pairs.Goals as goal

pub returns-clause-none : goal.returns-clause-none
unfolding meta_on_literals pairs_of
returns-clause-none c = refl

pub returns-clause-own : goal.returns-clause-own
unfolding meta_on_literals pairs_of
returns-clause-own c = refl

pub returns-clause-moved : goal.returns-clause-moved
unfolding meta_on_literals pairs_of
returns-clause-moved c = refl

pub returns-clause-in_spare : goal.returns-clause-in_spare
unfolding meta_on_literals pairs_of
returns-clause-in_spare c = refl
