use Rattle.std.proofs.Common.{◌≡◌, ℕ, ◌/◌, ◌<◌, ◌≤◌, None}
use Rattle.nl_device.specs.Opening.{IsSoiled, SaysErased}
use Rattle.nl_pseg.specs.Segment.{IsClean, IsNextCopy, KeepsBlock, TakenAsErased}
use Rattle.nl_pseg.specs.Space.{IsWhole}
use Rattle.nl_device.proofs.opening.soil.soil_physical.Given as goal

abbrev pub invariant-loop-block : goal.invariant-loop-block
invariant-loop-block l = record {
  same : IsSoiled l.initial.pseg l.pseg;
  erased : (p : ℕ) → TakenAsErased l.pseg p → TakenAsErased l.initial.pseg p × (l.fn.first ≤ p / l.initial.pseg.size → p / l.initial.pseg.size < l.block → SaysErased l.fn.tables (p / l.initial.pseg.size));
  clean : ((block : ℕ) → l.fn.first ≤ block → block < l.block → SaysErased l.fn.tables block) → IsClean l.pseg;
  kept : KeepsBlock l.pseg;
  whole : IsWhole l.pseg;
  none : l.pseg.victim ≡ None;
  copies : (p : ℕ) → IsNextCopy l.pseg p → IsNextCopy l.initial.pseg p;
}
