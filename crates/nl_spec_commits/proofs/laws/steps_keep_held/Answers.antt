use Rattle.nl_spec_commits.proofs.Steps.{handling_keeps_held, step_keeps_held}
use Rattle.nl_spec_commits.proofs.laws.steps_keep_held.Goals as goal

pub returns-clause-step : goal.returns-clause-step
returns-clause-step g c = step_keeps_held g.D.Counts

pub returns-clause-handling : goal.returns-clause-handling
returns-clause-handling g c = handling_keeps_held g.D.Counts
