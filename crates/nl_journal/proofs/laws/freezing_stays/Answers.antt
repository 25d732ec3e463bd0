use Rattle.nl_journal.proofs.Freezing.{freezing}
use Rattle.nl_journal.proofs.laws.freezing_stays.Goals as goal

pub returns : goal.returns
returns c = freezing
