use Rattle.nl_spec_commits.proofs.CommitTrees.{commit_goes, commit_leaves}
use Rattle.nl_spec_commits.proofs.Trees.{completing_goes, freezing_goes, super_page_goes}
use Rattle.nl_spec_commits.proofs.laws.trees_go_on.Goals as goal

pub returns-clause-completing : goal.returns-clause-completing
returns-clause-completing g c = completing_goes g.D.Counts

pub returns-clause-freezing : goal.returns-clause-freezing
returns-clause-freezing g c = freezing_goes g.D.Counts

pub returns-clause-super_page : goal.returns-clause-super_page
returns-clause-super_page g c = super_page_goes g.D.Counts

pub returns-clause-commit : goal.returns-clause-commit
returns-clause-commit g c = commit_goes g.D.Counts

pub returns-clause-leaves : goal.returns-clause-leaves
returns-clause-leaves g c = commit_leaves g.D.Counts
