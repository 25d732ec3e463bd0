use Rattle.std.proofs.Common.{◌≡◌, ℕ, ◌+◌, ◌*◌, ◌<◌, ◌≤◌, None}
use Rattle.nl_pseg.specs.Segment.{held_at}
use Rattle.nl_pseg.specs.Seen.{seen}
use Rattle.nl_pseg.specs.Kept.{kept}
use Rattle.nl_pseg.proofs.state.State.live_among.Given as goal

abbrev pub invariant-loop-at : goal.invariant-loop-at
invariant-loop-at l = (k : ℕ) → l.from ≤ k → k < l.at → held_at (seen (kept l.self)) (l.block * (kept l.self).blocks.size + k) ≡ None
