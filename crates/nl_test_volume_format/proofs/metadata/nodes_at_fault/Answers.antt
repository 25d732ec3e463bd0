use Rattle.std.proofs.Common.{refl}
use Rattle.nl_meta.proofs.OnLiterals.{meta_on_literals}
use Rattle.nl_test_volume_format.proofs.metadata.nodes_at_fault.Goals as goal

pub returns-clause-root : goal.returns-clause-root
unfolding meta_on_literals
returns-clause-root c = refl

pub returns-clause-before : goal.returns-clause-before
unfolding meta_on_literals
returns-clause-before c = refl

pub returns-clause-behind : goal.returns-clause-behind
unfolding meta_on_literals
returns-clause-behind c = refl

pub returns-clause-nodes : goal.returns-clause-nodes
unfolding meta_on_literals
returns-clause-nodes c = refl
