use Rattle.nl_journal.proofs.Freezing.{freezes}
use Rattle.nl_journal.proofs.laws.freezes_in_order.Goals as goal

pub returns : goal.returns
returns g c = freezes g.D.Counts
