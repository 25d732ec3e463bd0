use Rattle.nl_calls_steps.proofs.Stepping.{reads_are_alike, steps_are_cores, steps_go, steps_leave, steps_run, steps_then}
use Rattle.nl_calls_steps.proofs.laws.steps_go_on.Goals as goal

pub returns-clause-cores : goal.returns-clause-cores
returns-clause-cores g c = steps_are_cores g.D.Counts

pub returns-clause-runs : goal.returns-clause-runs
returns-clause-runs g c = steps_run g.D.Counts

pub returns-clause-trees : goal.returns-clause-trees
returns-clause-trees g c = steps_go g.D.Counts

pub returns-clause-left : goal.returns-clause-left
returns-clause-left g c = steps_leave g.D.Counts

pub returns-clause-after : goal.returns-clause-after
returns-clause-after g c = steps_then g.D.Counts

pub returns-clause-reads : goal.returns-clause-reads
returns-clause-reads g c = reads_are_alike g.D.Counts
