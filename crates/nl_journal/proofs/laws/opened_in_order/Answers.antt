use Rattle.nl_journal.proofs.Openings.{opens_in_order}
use Rattle.nl_journal.proofs.laws.opened_in_order.Goals as goal

pub returns : goal.returns
returns g c = opens_in_order g.D.Counts
