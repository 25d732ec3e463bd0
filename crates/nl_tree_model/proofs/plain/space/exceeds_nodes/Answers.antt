use Rattle.std.proofs.Common.{arith}
use Rattle.std.proofs.lemmas.Bool.Decides.{nat_tests}
use Rattle.nl_tree.proofs.SpaceProofs.{nodes-are}
use Rattle.nl_tree_model.proofs.plain.space.exceeds_nodes.Goals as goal

pub returns : goal.returns
returns c = rw (← nodes-are c.args.tree.now) (grind (arith, nat_tests))
