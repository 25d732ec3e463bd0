use Rattle.std.proofs.Common.{arith}
use Rattle.nl_spec_commits.proofs.rows.acknowledges_what_counts.Goals as goal

pub returns : goal.returns
returns c told = omega arith
