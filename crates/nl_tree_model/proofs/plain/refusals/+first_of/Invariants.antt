use Rattle.std.proofs.Common.{length}
use Rattle.nl_tree_model.proofs.plain.refusals.+first_of.Given as goal

abbrev pub decreases-first_of : goal.decreases-first_of
decreases-first_of l = length l.refusals.now
