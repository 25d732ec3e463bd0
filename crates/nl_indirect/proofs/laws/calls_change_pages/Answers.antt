use Rattle.nl_indirect.proofs.PageProofs.{storing_changes_pages, truncating_changes_pages}
use Rattle.nl_indirect.proofs.laws.calls_change_pages.Goals as goal

pub returns-clause-storing : goal.returns-clause-storing
returns-clause-storing c = storing_changes_pages

pub returns-clause-truncating : goal.returns-clause-truncating
returns-clause-truncating c = truncating_changes_pages
