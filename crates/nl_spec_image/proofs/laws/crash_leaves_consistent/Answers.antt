use Rattle.nl_spec_image.proofs.CrashConsistencyProofs.{crash_leaves_consistent}
use Rattle.nl_spec_image.proofs.laws.crash_leaves_consistent.Goals as goal

pub returns : goal.returns
returns c = crash_leaves_consistent
