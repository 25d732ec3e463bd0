-- A comparison that was carried out, and leaves the medium that was handed in.
use Rattle.std.proofs.Common.{◌≡◌, ℕ, List, [], map, refl, sym, subst}
use Rattle.std.specs.Prelude.{◌⊎◌}
use Rattle.nl_field.specs.CrashStates.{Rose}
use Rattle.nl_field.specs.Numbers.{shape_for}
use Rattle.nl_spec_headline.specs.Status.{DoneStatus}
use Rattle.nl_spec_headline.specs.Streams.{Medium, Prints, Stream}
use Rattle.nl_spec_headline.specs.declared.lists.Ordered.{Ordered}
use Rattle.nl_spec_headline.specs.declared.lists.Synced.{Synced}
use Rattle.nl_tree.specs.declared.call.Line.{Line}
use Rattle.nl_cmd_words.proofs.Ending.{done_since}
use Rattle.nl_cmd_compare.specs.Ends.{CompareEnds, Measures, compare_text, compared}
use Rattle.nl_cmd_compare.specs.declared.comparison.Numbers.{Numbers}

pub has_compared : (tells : Type 0) (lines : List Line) (numbers : Numbers) (reads writes : ℕ) (sink sink' : Stream) (medium medium' : Medium) (order : List Ordered) (syncs : List Synced) (status : ℕ)
    → reads ≡ medium.counts.read_faults → writes ≡ medium.counts.write_faults → medium' ≡ medium
    → Measures (shape_for 32 32) (map (λ (l : Line). l.call) lines) numbers → Prints sink sink' (compare_text numbers) → order ≡ [] → syncs ≡ []
    → DoneStatus status (Rose reads medium.counts.read_faults ⊎ Rose writes medium.counts.write_faults) sink sink' (compare_text numbers)
    → CompareEnds tells lines sink sink' medium medium' order syncs status
has_compared tells lines numbers reads writes sink sink' medium medium' order syncs status is_reads is_writes same measures prints no_lines no_syncs is =
    subst (λ (m : Medium). CompareEnds tells lines sink sink' medium m order syncs status) (sym same)
    (compared numbers measures
    (record { prints = prints; untouched = record { same_contents = λ t. refl; same_clock = refl; same_write_faults = refl }; no_lines = no_lines; no_syncs = no_syncs })
    (done_since reads writes sink sink' medium medium status (compare_text numbers) is_reads is_writes is))
