use Rattle.nl_spec_commits.proofs.Ahead.{ahead_is_running}
use Rattle.nl_spec_commits.proofs.Reading.{committed_reads}
use Rattle.nl_spec_commits.proofs.laws.commits_read.Goals as goal

pub returns-clause-ahead : goal.returns-clause-ahead
returns-clause-ahead g c = ahead_is_running g.D.Counts

pub returns-clause-committed : goal.returns-clause-committed
returns-clause-committed g c = committed_reads
