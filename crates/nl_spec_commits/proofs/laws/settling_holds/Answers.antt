use Rattle.nl_spec_commits.proofs.Changing.{changes_journaled, steps_journaled}
use Rattle.nl_spec_commits.proofs.Settling.{acknowledges_hold, addresses_hold, frees_hold, metadata_holds, none_due}
use Rattle.nl_spec_commits.proofs.laws.settling_holds.Goals as goal

pub returns-clause-addresses : goal.returns-clause-addresses
returns-clause-addresses g c = addresses_hold g.D.Counts

pub returns-clause-freeing : goal.returns-clause-freeing
returns-clause-freeing g c = frees_hold g.D.Counts

pub returns-clause-acknowledging : goal.returns-clause-acknowledging
returns-clause-acknowledging g c = acknowledges_hold g.D.Counts

pub returns-clause-none_due : goal.returns-clause-none_due
returns-clause-none_due g c = none_due

pub returns-clause-metadata : goal.returns-clause-metadata
returns-clause-metadata g c = metadata_holds g.D.Counts

pub returns-clause-changes : goal.returns-clause-changes
returns-clause-changes g c = changes_journaled g.D.Counts

pub returns-clause-steps : goal.returns-clause-steps
returns-clause-steps g c = steps_journaled g.D.Counts
