use Rattle.nl_journal.proofs.InOrders.{stays}
use Rattle.nl_journal.proofs.laws.stays_in_order.Goals as goal

pub returns : goal.returns
returns g c = stays g.D.Counts
