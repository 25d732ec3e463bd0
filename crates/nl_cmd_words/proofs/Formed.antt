-- A volume that was made.
use Rattle.std.proofs.Common.{◌≡◌, ℕ, List, [], sym, subst}
use Rattle.std.specs.Prelude.{◌⊎◌}
use Rattle.nl_field.specs.CrashStates.{Rose}
use Rattle.nl_spec_headline.specs.Status.{DoneStatus}
use Rattle.nl_spec_headline.specs.Streams.{Medium, Prints, Stream}
use Rattle.nl_spec_headline.specs.declared.lists.Ordered.{Ordered}
use Rattle.nl_spec_headline.specs.declared.lists.Synced.{Synced}
use Rattle.nl_cmd_words.specs.Ends.{FormatEnds, formatted}
use Rattle.nl_cmd_words.specs.Others.{Formats}
use Rattle.nl_cmd_words.proofs.Ending.{done_since}

-- It was told. The counts of faults before it are these.
pub format_done : (tells : Type 0) (blocks pages reads writes : ℕ) (sink sink' : Stream) (medium middle medium' : Medium) (order : List Ordered) (syncs : List Synced) (status : ℕ) (text : List ℕ)
    → reads ≡ medium.counts.read_faults → writes ≡ medium.counts.write_faults → medium' ≡ middle → Formats tells blocks pages middle text → Prints sink sink' text → order ≡ [] → syncs ≡ []
    → DoneStatus status (Rose reads middle.counts.read_faults ⊎ Rose writes middle.counts.write_faults) sink sink' text → FormatEnds tells blocks pages sink sink' medium medium' order syncs status
format_done tells blocks pages reads writes sink sink' medium middle medium' order syncs status text is_reads is_writes same made prints no_lines no_syncs done =
    subst (λ m. FormatEnds tells blocks pages sink sink' medium m order syncs status) (sym same)
    (formatted text made prints no_lines no_syncs (done_since reads writes sink sink' medium middle status text is_reads is_writes done))
