use Rattle.nl_handler.proofs.PagesChanged.{handler_changes_pages}
use Rattle.nl_handler.proofs.laws.handler_changes_pages.Goals as goal

pub returns : goal.returns
returns g c = handler_changes_pages g.D.Counts
