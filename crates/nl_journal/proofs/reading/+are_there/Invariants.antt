use Rattle.nl_journal.proofs.reading.+are_there.Given as goal

abbrev pub decreases-are_there : goal.decreases-are_there
decreases-are_there g l = l.count
