use Rattle.std.proofs.Common.{length}
use Rattle.nl_namespace.proofs.same_paths.+lies_under.Given as goal

abbrev pub decreases-lies_under : goal.decreases-lies_under
decreases-lies_under l = length l.a.now
