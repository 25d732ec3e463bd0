use Rattle.std.proofs.Common.{arith}
use Rattle.nl_tree.proofs.SpaceProofs.{data-is}
use Rattle.nl_tree_model.proofs.plain.space.data_total.Goals as goal

pub entries-init : goal.entries-init
entries-init c = (omega (arith, data-is c.args.tree.now), omega arith)
