-- The status of a command that was carried out, where the counts of faults before it were these.
use Rattle.std.proofs.Common.{◌≡◌, ℕ, List, subst}
use Rattle.std.specs.Prelude.{◌⊎◌}
use Rattle.nl_field.specs.CrashStates.{Rose}
use Rattle.nl_spec_headline.specs.Status.{DoneStatus}
use Rattle.nl_spec_headline.specs.Streams.{Medium, MediumRose, Stream}

pub done_since : (reads writes : ℕ) (sink sink' : Stream) (medium middle : Medium) (status : ℕ) (text : List ℕ) → reads ≡ medium.counts.read_faults → writes ≡ medium.counts.write_faults
    → DoneStatus status (Rose reads middle.counts.read_faults ⊎ Rose writes middle.counts.write_faults) sink sink' text → DoneStatus status (MediumRose medium middle) sink sink' text
done_since reads writes sink sink' medium middle status text is_reads is_writes =
    subst (λ (k : ℕ × ℕ). DoneStatus status (Rose k.0 middle.counts.read_faults ⊎ Rose k.1 middle.counts.write_faults) sink sink' text) (λ j. (is_reads j, is_writes j))
