use Rattle.nl_journal_commit.proofs.HoldingOn.{holders_stand}
use Rattle.nl_journal_commit.proofs.laws.holders_stand.Goals as goal

pub returns : goal.returns
returns g c = holders_stand g.D.Counts
