use Rattle.nl_spec_commits.proofs.UnitTrees.{unit_goes, unit_leaves}
use Rattle.nl_spec_commits.proofs.laws.trees_go_on_by_unit.Goals as goal

pub returns-clause-unit : goal.returns-clause-unit
returns-clause-unit g c = unit_goes g.D.Counts

pub returns-clause-leaves : goal.returns-clause-leaves
returns-clause-leaves g c = unit_leaves g.D.Counts
