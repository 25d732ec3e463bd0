use Rattle.std.proofs.Common.{refl}
use Rattle.nl_meta.proofs.OnLiterals.{meta_on_literals}
use Rattle.nl_test_volume_format.proofs.metadata.entries_at_fault.Goals as goal

pub returns-clause-unspelled : goal.returns-clause-unspelled
unfolding meta_on_literals
returns-clause-unspelled c = refl

pub returns-clause-root : goal.returns-clause-root
unfolding meta_on_literals
returns-clause-root c = refl

pub returns-clause-unused : goal.returns-clause-unused
unfolding meta_on_literals
returns-clause-unused c = refl

pub returns-clause-behind : goal.returns-clause-behind
unfolding meta_on_literals
returns-clause-behind c = refl

pub returns-clause-twice : goal.returns-clause-twice
unfolding meta_on_literals
returns-clause-twice c = refl

pub returns-clause-elsewhere : goal.returns-clause-elsewhere
unfolding meta_on_literals
returns-clause-elsewhere c = refl

pub returns-clause-ring : goal.returns-clause-ring
unfolding meta_on_literals
returns-clause-ring c = refl
