use Rattle.std.proofs.Common.{refl}
use Rattle.nl_meta.proofs.OnLiterals.{meta_on_literals}
use Rattle.nl_test_volume_format.proofs.metadata.addresses_at_fault.Goals as goal

pub returns-clause-before : goal.returns-clause-before
unfolding meta_on_literals
returns-clause-before c = refl

pub returns-clause-behind : goal.returns-clause-behind
unfolding meta_on_literals
returns-clause-behind c = refl

pub returns-clause-twice : goal.returns-clause-twice
unfolding meta_on_literals
returns-clause-twice c = refl

pub returns-clause-shared : goal.returns-clause-shared
unfolding meta_on_literals
returns-clause-shared c = refl

pub returns-clause-unspelled : goal.returns-clause-unspelled
unfolding meta_on_literals
returns-clause-unspelled c = refl

pub returns-clause-empty : goal.returns-clause-empty
unfolding meta_on_literals
returns-clause-empty c = refl

pub returns-clause-outside : goal.returns-clause-outside
unfolding meta_on_literals
returns-clause-outside c = refl
