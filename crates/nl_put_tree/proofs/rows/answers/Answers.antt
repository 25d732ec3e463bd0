use Rattle.std.proofs.Common.{refl}
use Rattle.nl_tree.proofs.OnLiterals.{tree_on_literals}
use Rattle.nl_put_tree.proofs.rows.answers.Goals as goal

pub returns-clause-due : goal.returns-clause-due
unfolding tree_on_literals
returns-clause-due c = refl

pub returns-clause-not_due : goal.returns-clause-not_due
unfolding tree_on_literals
returns-clause-not_due c is = cc is

pub returns-clause-made : goal.returns-clause-made
unfolding tree_on_literals
returns-clause-made c = refl
