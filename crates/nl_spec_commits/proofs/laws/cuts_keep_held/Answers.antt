use Rattle.nl_spec_commits.proofs.FileCutting.{emptying_keeps_held, parting_keeps_held, truncating_keeps_held}
use Rattle.nl_spec_commits.proofs.laws.cuts_keep_held.Goals as goal

pub returns-clause-truncating : goal.returns-clause-truncating
returns-clause-truncating g c = truncating_keeps_held g.D.Counts

pub returns-clause-parting : goal.returns-clause-parting
returns-clause-parting g c = parting_keeps_held g.D.Counts

pub returns-clause-emptying : goal.returns-clause-emptying
returns-clause-emptying g c = emptying_keeps_held g.D.Counts
