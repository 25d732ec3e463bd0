-- Text that is gathered before it is written.
use Rattle.std.specs.Prelude.{◌≡◌, ℕ, List, ◌++◌, Option}
use Rattle.nl_io.specs.Streams.{WritesStream}
use Rattle.nl_io.specs.declared.sink.SinkAnswer.TheVariants as sink

-- the text that waits to be written, and how often there was no room for more
pub record Waiting : Type 0 where
  pub text : List ℕ
  pub faults : ℕ

-- A sink took the front of a text, and the rest of it waits.
abbrev pub WritesFront : Option (List ℕ) → Option (List ℕ) → (text waiting : List ℕ) → Type 0
WritesFront old new text waiting = (front : List ℕ) × (front ++ waiting ≡ text) × WritesStream old new sink.Took front
