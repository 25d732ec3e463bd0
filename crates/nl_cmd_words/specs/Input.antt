-- What reading a source to its end gives, and which script that is.
use Rattle.std.specs.Prelude.{◌≡◌, ◌≤◌, ⊤, ℕ, ◌+◌, List, [], ◌++◌, length, Option, IfSome, option_map, Err, Ok}
use Rattle.nl_field.specs.CrashStates.{Rose}
use Rattle.nl_spec_headline.specs.Headline.{ReadsScript}
use Rattle.nl_spec_headline.specs.Streams.{Stream}
use Rattle.nl_script.specs.Script.{script}
use Rattle.nl_script.specs.declared.refusal.ScriptRefusal.TheVariants as refusal
use Rattle.nl_cmd_words.specs.Ends.{RefusesScript}
use Rattle.nl_cmd_words.specs.declared.input.Input.{Input}
use Rattle.nl_cmd_words.specs.declared.input.Input.TheVariants as input
use Rattle.nl_cmd_words.specs.declared.script.Script.{Script}
use Rattle.nl_cmd_words.specs.declared.script.Script.TheVariants as given

-- What was left begins with the bytes that were read: all of it, or one byte more than was wanted.
abbrev pub ReadsAll : ℕ → Option (List ℕ) → Option (List ℕ) → Input → Type 0
ReadsAll limit old new (input.All bytes) =
    (length bytes ≤ limit) × (old ≡ option_map (λ rest. bytes ++ rest) new) × IfSome new (λ rest. rest ≡ [])
ReadsAll limit old new input.TooLong = (read : List ℕ) × (length read ≡ limit + 1) × (old ≡ option_map (λ rest. read ++ rest) new)
ReadsAll limit old new input.Failed = ⊤
ReadsAll limit old new input.Memory = ⊤

-- The lines that the source had left, or why they are refused; a read failed; or memory was wanting.
abbrev pub GivesScript : Stream → Stream → Script → Type 0
GivesScript old new (given.Lines lines) = ReadsScript old new lines
GivesScript old new (given.Refused line column why) = RefusesScript old new line column why
GivesScript old new given.Failed = Rose old.faults new.faults
GivesScript old new given.Memory = ⊤

-- The bytes are a script of the lines, or are refused so.
abbrev pub IsReadAs : List ℕ → Script → Type 0
IsReadAs bytes (given.Lines lines) = script bytes ≡ Ok lines
IsReadAs bytes (given.Refused line column why) = script bytes ≡ Err (refusal.Refused line column why)
IsReadAs bytes given.Failed = ⊥
IsReadAs bytes given.Memory = ⊤
