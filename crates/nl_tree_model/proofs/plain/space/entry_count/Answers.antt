use Rattle.std.proofs.Common.{◌∙◌}
use Rattle.nl_tree_model.proofs.SpaceSteps.{entries_in_order}
use Rattle.nl_tree_model.proofs.plain.space.entry_count.Goals as goal

pub returns-clause-count : goal.returns-clause-count
returns-clause-count c = λ d. c.run.ensures.count ∙ entries_in_order c.args.tree.now c.args.at c.index-tree-at.result d c.requires.there c.requires.order
