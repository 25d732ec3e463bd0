use Rattle.std.proofs.Common.{arith}
use Rattle.nl_tree_content.proofs.FileProofs.{zeros_step, zeros_length}
use Rattle.nl_tree_content.proofs.file_ops.push_zeros.Goals as goal

pub push-requires : goal.push-requires
push-requires c = omega (arith, zeros_length _ _ _ c.zeros.invariant)

pub zeros-preserved : goal.zeros-preserved
zeros-preserved c = zeros_step _ _ _ c.zeros.at c.push.ensures c.zeros.invariant
