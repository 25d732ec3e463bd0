use Rattle.std.proofs.Common.{length}
use Rattle.nl_journal.specs.Progress.{units_left}
use Rattle.nl_journal.proofs.journal.Journal.+finish.Given as goal

abbrev pub decreases-finish : goal.decreases-finish
decreases-finish g l = units_left l.self.now.phase (length l.meta.now.frozen.addresses)
