use Rattle.nl_spec_commits.proofs.Holding.{decided_keeps_held, freeze_keeps_held, unit_keeps_held}
use Rattle.nl_spec_commits.proofs.laws.units_keep_held.Goals as goal

pub returns-clause-freeze : goal.returns-clause-freeze
returns-clause-freeze g c = freeze_keeps_held g.D.Counts

pub returns-clause-unit : goal.returns-clause-unit
returns-clause-unit g c = unit_keeps_held g.D.Counts

pub returns-clause-decided : goal.returns-clause-decided
returns-clause-decided g c = decided_keeps_held g.D.Counts
