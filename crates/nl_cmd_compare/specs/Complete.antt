-- Completeness: where nothing fails and memory is enough, a comparison prints its numbers.
use Rattle.std.specs.Prelude.{ℕ, List}
use Rattle.nl_cmd_words.specs.Complete.{IsCarriedOut, NothingRose}
use Rattle.nl_spec_headline.specs.Streams.{Medium, Stream}
use Rattle.nl_spec_headline.specs.declared.lists.Ordered.{Ordered}
use Rattle.nl_spec_headline.specs.declared.lists.Synced.{Synced}
use Rattle.nl_tree.specs.declared.call.Line.{Line}
use Rattle.nl_cmd_compare.specs.Ends.{CompareEnds}

-- Where nothing fails the numbers are printed, unless memory is wanting.
abbrev pub CompareCompletes : Type 0 → Type 0
CompareCompletes tells =
    (lines : List Line) (source source' sink sink' : Stream) (medium medium' : Medium) (order : List Ordered) (syncs : List Synced)
    (status : ℕ)
    → CompareEnds tells lines sink sink' medium medium' order syncs status → NothingRose source source' sink sink' medium medium'
    → IsCarriedOut status
