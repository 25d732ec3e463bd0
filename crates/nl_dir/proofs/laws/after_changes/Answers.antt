use Rattle.nl_dir.proofs.AfterProofs.{addresses_of_changed, lists_inserted, lists_removed}
use Rattle.nl_dir.proofs.laws.after_changes.Goals as goal

pub returns-clause-inserted : goal.returns-clause-inserted
returns-clause-inserted c = lists_inserted

pub returns-clause-removed : goal.returns-clause-removed
returns-clause-removed c = lists_removed

pub returns-clause-addresses : goal.returns-clause-addresses
returns-clause-addresses c = addresses_of_changed
