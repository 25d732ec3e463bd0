use Rattle.nl_journal.proofs.InOrders.{stored_pages_are}
use Rattle.nl_journal.proofs.laws.stored_pages.Goals as goal

pub returns : goal.returns
returns g c = stored_pages_are g.D.Counts
