use Rattle.std.proofs.Common.{refl}
use Rattle.nl_meta.proofs.OnLiterals.{meta_on_literals}
use Rattle.nl_test_volume_format.proofs.metadata.pointers_by_index.Goals as goal

pub returns-clause-last_direct : goal.returns-clause-last_direct
unfolding meta_on_literals
returns-clause-last_direct c = refl

pub returns-clause-first_indirect : goal.returns-clause-first_indirect
unfolding meta_on_literals
returns-clause-first_indirect c = refl

pub returns-clause-last_of_range : goal.returns-clause-last_of_range
unfolding meta_on_literals
returns-clause-last_of_range c = refl

pub returns-clause-next_range : goal.returns-clause-next_range
unfolding meta_on_literals
returns-clause-next_range c = refl

pub returns-clause-behind : goal.returns-clause-behind
unfolding meta_on_literals
returns-clause-behind c = refl

pub returns-clause-no_range : goal.returns-clause-no_range
unfolding meta_on_literals
returns-clause-no_range c = refl
