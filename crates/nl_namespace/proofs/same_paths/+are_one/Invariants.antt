use Rattle.std.proofs.Common.{length}
use Rattle.nl_namespace.proofs.same_paths.+are_one.Given as goal

abbrev pub decreases-are_one : goal.decreases-are_one
decreases-are_one l = length l.a.now
