-- How the words of a command line end on an image file, and which command makes one.
use Rattle.std.specs.Prelude.{ℕ, ⊤, Bool, true, false, IsTrue, List, Option, None, Some}
use Rattle.nl_cmd_words.specs.Command.{command_of}
use Rattle.nl_cmd_words.specs.declared.command.Command.{Command}
use Rattle.nl_cmd_words.specs.declared.command.Command.TheVariants.{Format}
use Rattle.nl_spec_headline.specs.Streams.{Medium, Stream}
use Rattle.nl_spec_headline.specs.declared.lists.Ordered.{Ordered}
use Rattle.nl_spec_headline.specs.declared.lists.Synced.{Synced}
use Rattle.nl_tree.specs.declared.reply.Refusal.{Refusal}
use Rattle.nl_top.specs.Ends.{CallEnds, MayRefuse}

-- A file does not tell its bytes, so nothing is said of what a stop leaves.
abbrev pub EndsOnFile : List (List ℕ) → Stream → Stream → Stream → Stream → Option Refusal → ℕ → Type 0
EndsOnFile words source source' sink sink' refused status =
    (before : Medium) × (after : Medium) × (order : List Ordered) × (syncs : List Synced)
    × CallEnds (IsTrue false) words (λ leaving. ⊤) source source' sink sink' before after order syncs refused status
    × MayRefuse (command_of words) refused

-- only a format makes a file that is missing
abbrev pub makes_a_file : Command → Bool
makes_a_file (Format blocks pages) = true
makes_a_file command = false

-- the words are those of a command that forms the medium
abbrev pub forms : Option Command → Bool
forms None = false
forms (Some command) = makes_a_file command
