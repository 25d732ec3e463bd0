-- What reading and writing do to the bytes of a stream. A stream tells its bytes, or None where it does not.
use Rattle.std.specs.Prelude.{◌≡◌, ◌<◌, ◌≤◌, ℕ, List, [], ◌++◌, length, take, Option, IfSome}
use Rattle.std.specs.Option.{option_map}
use Rattle.nl_io.specs.declared.source.SourceAnswer.{SourceAnswer}
use Rattle.nl_io.specs.declared.source.SourceAnswer.TheVariants as source
use Rattle.nl_io.specs.declared.sink.SinkAnswer.{SinkAnswer}
use Rattle.nl_io.specs.declared.sink.SinkAnswer.TheVariants as sink

-- What was left begins with what was read, at least one byte. The end comes only where nothing is left, and a failed read loses nothing.
abbrev pub ReadsStream : Option (List ℕ) → Option (List ℕ) → SourceAnswer → List ℕ → Type 0
ReadsStream old new (source.Got n) buf = (0 < n) × (n ≤ length buf) × (old ≡ option_map (λ rest. take n buf ++ rest) new)
ReadsStream old new source.End buf = (new ≡ old) × IfSome old (λ bytes. bytes ≡ [])
ReadsStream old new source.Failed buf = new ≡ old

-- what is taken ends with what was written, at a failure with a prefix of it
abbrev pub WritesStream : Option (List ℕ) → Option (List ℕ) → SinkAnswer → List ℕ → Type 0
WritesStream old new sink.Took bytes = new ≡ option_map (λ before. before ++ bytes) old
WritesStream old new sink.Failed bytes = (n : ℕ) × (n ≤ length bytes) × (new ≡ option_map (λ before. before ++ take n bytes) old)
