use Rattle.nl_spec_commits.proofs.Holding.{acknowledged_keeps_held, commit_keeps_held, commits_hold, freed_keeps_held}
use Rattle.nl_spec_commits.proofs.laws.commits_keep_held.Goals as goal

pub returns-clause-commit : goal.returns-clause-commit
returns-clause-commit g c = commits_hold g.D.Counts

pub returns-clause-kept : goal.returns-clause-kept
returns-clause-kept g c = commit_keeps_held g.D.Counts

pub returns-clause-freed : goal.returns-clause-freed
returns-clause-freed g c = freed_keeps_held g.D.Counts

pub returns-clause-acknowledged : goal.returns-clause-acknowledged
returns-clause-acknowledged g c = acknowledged_keeps_held g.D.Counts
