use Rattle.nl_meta.proofs.PageProofs.{calls_change_pages}
use Rattle.nl_meta.proofs.laws.calls_change_pages.Goals as goal

pub returns : goal.returns
returns c = calls_change_pages
