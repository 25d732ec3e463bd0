-- Source, sink and medium in a call of the store.
use Rattle.std.specs.Prelude.{◌≡◌, ◌≤◌, ℕ, List, [], ◌++◌, Option, IfSome}
use Rattle.std.specs.Option.{option_map}
use Rattle.nl_field.specs.CrashStates.{Rose}
use Rattle.nl_field.specs.Page.{Image}
use Rattle.nl_io.specs.Streams.{WritesStream}
use Rattle.nl_io.specs.declared.sink.SinkAnswer.{SinkAnswer}
use Rattle.nl_io.specs.declared.sink.Sink.{Ghosts as SinkGhosts}
use Rattle.nl_io.specs.declared.sink.SinkAnswer.TheVariants as sink
use Rattle.nl_io.specs.declared.source.Source.{Ghosts as SourceGhosts}
use Rattle.nl_nand.specs.declared.nand.Nand.{Ghosts as NandGhosts}
use Rattle.nl_nand.specs.declared.geometry.Geometry.{Geometry}
use Rattle.nl_spec_image.specs.Crash.{Run, CrashesSafely}
use Rattle.nl_spec_image.specs.Stands.{ConsistentAs}
use Rattle.nl_tree.specs.Causes.{Counts, FaultRose}

-- the bytes that a source has left or a sink has taken, where told, and its count of faults
pub record Stream : Type 0 where
  pub bytes : Option (List ℕ)
  pub faults : ℕ

abbrev pub stream : Option (List ℕ) → ℕ → Stream
stream bytes faults = record { bytes = bytes; faults = faults }

-- what is seen of a source
abbrev pub source_seen : {S : Type 0} → SourceGhosts S → S → Stream
source_seen g src = stream (g.left src) (g.faults src)

-- what is seen of a sink
abbrev pub sink_seen : {K : Type 0} → SinkGhosts K → K → Stream
sink_seen g sink = stream (g.taken sink) (g.faults sink)

pub record Medium : Type 0 where
  pub geometry : Geometry
  pub contents : Image
  pub counts : Counts

abbrev pub medium : Geometry → Image → ℕ → ℕ → ℕ → Medium
medium geometry contents clock read_faults write_faults =
    record { geometry = geometry; contents = contents; counts = record { clock = clock; read_faults = read_faults; write_faults = write_faults } }

-- what is seen of a medium
abbrev pub medium_seen : {M : Type 0} → NandGhosts M → M → Medium
medium_seen g m = medium (g.geometry m) (g.contents m) (g.clock m) (g.read_faults m) (g.write_faults m)

-- What a stop leaves of a run that took the medium from the first of these to the second.
abbrev pub stops_within : {M : Type 0} → NandGhosts M → M → M → Run → Type 0
stops_within g old new = CrashesSafely ConsistentAs (λ m c. g.left old m c) (λ m c. g.left new m c) (g.clock old) (g.clock new)

-- a count of faults of the medium rose
abbrev pub MediumRose : Medium → Medium → Type 0
MediumRose old new = FaultRose old.counts new.counts

-- A source was read whole: these bytes were read from it, and nothing is left of it.
pub record ReadsWhole (old new : Stream) (bytes : List ℕ) : Type 0 where
  pub read : old.bytes ≡ option_map (λ rest. bytes ++ rest) new.bytes
  pub none_left : IfSome new.bytes (λ rest. rest ≡ [])

-- The sink took the text, or its count rose and it took a prefix.
pub record Prints (old new : Stream) (text : List ℕ) : Type 0 where
  pub answer : SinkAnswer
  pub taken : WritesStream old.bytes new.bytes answer text
  pub never_falls : old.faults ≤ new.faults
  pub cause : answer ≡ sink.Failed → Rose old.faults new.faults

-- the text was taken whole
abbrev pub PrintsWhole : Stream → Stream → List ℕ → Type 0
PrintsWhole old new text = WritesStream old.bytes new.bytes sink.Took text

-- Contents and clock of a medium are as they were, and no program or erase failed. What it holds is said where it tells it.
pub record Untouched (tells : Type 0) (old new : Medium) : Type 0 where
  pub same_contents : tells → new.contents ≡ old.contents
  pub same_clock : new.counts.clock ≡ old.counts.clock
  pub same_write_faults : new.counts.write_faults ≡ old.counts.write_faults
