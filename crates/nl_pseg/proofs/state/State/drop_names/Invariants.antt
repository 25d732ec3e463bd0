use Rattle.std.proofs.Common.{length}
use Rattle.nl_pseg.proofs.Dropping.{Dropping}
use Rattle.nl_pseg.specs.Kept.{kept}
use Rattle.nl_pseg.proofs.state.State.drop_names.Given as goal

abbrev pub invariant-loop-name : goal.invariant-loop-name
invariant-loop-name l = Dropping l.target (kept l.initial.self) (kept l.self)

abbrev pub decreases-loop-name : goal.decreases-loop-name
decreases-loop-name l = length (kept l.self).names.pairs
