-- How a command ends that runs no line, with which status, text and cause, and what it then says of source, sink and medium.
use Rattle.std.specs.Prelude.{◌≡◌, ◌⊎◌, ℕ, ◌<◌, List, [], ◌++◌, length, codes, Err}
use Rattle.std.specs.Option.{option_map}
use Rattle.nl_field.specs.CrashStates.{Rose}
use Rattle.nl_field.specs.declared.place.Place.{Place}
use Rattle.nl_spec_headline.specs.Status.{DoneStatus}
use Rattle.nl_spec_headline.specs.Streams.{Medium, MediumRose, Prints, ReadsWhole, Stream, Untouched}
use Rattle.nl_spec_headline.specs.declared.lists.Ordered.{Ordered}
use Rattle.nl_spec_headline.specs.declared.lists.Synced.{Synced}
use Rattle.nl_io.specs.Streams.{WritesStream}
use Rattle.nl_io.specs.declared.sink.SinkAnswer.{SinkAnswer}
use Rattle.nl_io.specs.declared.sink.SinkAnswer.TheVariants as answers
use Rattle.nl_print.specs.Texts.{damaged_text}
use Rattle.nl_script.specs.Script.{max_script, script}
use Rattle.nl_script.specs.declared.refusal.ScriptRefusal.TheVariants.{Refused}
use Rattle.nl_script.specs.declared.why.Why.{Why}
use Rattle.nl_cmd_words.specs.Others.{FindsFaults, FindsConsistent, Formats, IsBlankImage, IsDamaged}

-- The status is that of a command that was carried out, with whatever text the sink has taken so.
abbrev pub IsStatusOf : ℕ → Type 0 → SinkAnswer → Type 0
IsStatusOf status failed answer =
    (sink sink' : Stream) (text : List ℕ) → WritesStream sink.bytes sink'.bytes answer text
    → (answer ≡ answers.Failed → Rose sink.faults sink'.faults) → DoneStatus status failed sink sink' text

-- An ending before any line was run: it prints its text, leaves the medium, and lists no line and no sync.
pub record EndsBefore (tells : Type 0) (text : List ℕ) (sink sink' : Stream) (medium medium' : Medium) (order : List Ordered) (syncs : List Synced) : Type 0 where
  pub prints : Prints sink sink' text
  pub untouched : Untouched tells medium medium'
  pub no_lines : order ≡ []
  pub no_syncs : syncs ≡ []

-- All that the source had left is refused, or what was read of it, which is more than a script may have.
pub record RefusesScript (source source' : Stream) (line column : ℕ) (why : Why) : Type 0 where
  pub bytes : List ℕ
  pub read : ReadsWhole source source' bytes
      ⊎ ((max_script < length bytes) × (source.bytes ≡ option_map (λ rest. bytes ++ rest) source'.bytes))
  pub refused : script bytes ≡ Err (Refused line column why)

-- Why the volume was not opened, with its status and its text: for want of memory, since a read failed, or for what the image is.
pub data NotOpened (tells : Type 0) (medium medium' : Medium) (status : ℕ) (text : List ℕ) : Type 0 where
  no_memory : status ≡ 6 → text ≡ codes "memory\n" → NotOpened tells medium medium' status text
  medium_fault : status ≡ 5 → text ≡ codes "medium fault\n" → Rose medium.counts.read_faults medium'.counts.read_faults
      → NotOpened tells medium medium' status text
  blank : status ≡ 7 → text ≡ codes "blank\n" → (tells → IsBlankImage medium.contents) → NotOpened tells medium medium' status text
  damaged : (place : Place) → status ≡ 7 → text ≡ damaged_text place → (tells → IsDamaged medium.contents place)
      → NotOpened tells medium medium' status text

-- How a format ends. After a failure nothing is said here of what the medium holds; what a stop leaves is said beside it.
pub data FormatEnds (tells : Type 0) (blocks pages : ℕ) (sink sink' : Stream) (medium medium' : Medium) (order : List Ordered) (syncs : List Synced) (status : ℕ) : Type 0 where
  format_fault : status ≡ 5 → Rose medium.counts.write_faults medium'.counts.write_faults → Prints sink sink' (codes "medium fault\n")
      → order ≡ [] → syncs ≡ []
      → FormatEnds tells blocks pages sink sink' medium medium' order syncs status
  format_no_memory : status ≡ 6 → EndsBefore tells (codes "memory\n") sink sink' medium medium' order syncs
      → FormatEnds tells blocks pages sink sink' medium medium' order syncs status
  formatted : (text : List ℕ) → Formats tells blocks pages medium' text → Prints sink sink' text → order ≡ [] → syncs ≡ []
      → DoneStatus status (MediumRose medium medium') sink sink' text
      → FormatEnds tells blocks pages sink sink' medium medium' order syncs status

-- How a check ends. Findings have a status of their own.
pub data CheckEnds (tells : Type 0) (sink sink' : Stream) (medium medium' : Medium) (order : List Ordered) (syncs : List Synced) (status : ℕ) : Type 0 where
  check_no_memory : status ≡ 6 → EndsBefore tells (codes "memory\n") sink sink' medium medium' order syncs
      → CheckEnds tells sink sink' medium medium' order syncs status
  check_fault : status ≡ 5 → Rose medium.counts.read_faults medium'.counts.read_faults
      → EndsBefore tells (codes "medium fault\n") sink sink' medium medium' order syncs
      → CheckEnds tells sink sink' medium medium' order syncs status
  check_blank : status ≡ 7 → (tells → IsBlankImage medium.contents)
      → EndsBefore tells (codes "blank\n") sink sink' medium medium' order syncs
      → CheckEnds tells sink sink' medium medium' order syncs status
  finds : (text : List ℕ) → status ≡ 8 → FindsFaults tells medium.contents text
      → EndsBefore tells text sink sink' medium medium' order syncs
      → CheckEnds tells sink sink' medium medium' order syncs status
  is_sound : (text : List ℕ) → FindsConsistent tells medium.contents text → EndsBefore tells text sink sink' medium medium' order syncs
      → DoneStatus status (MediumRose medium medium') sink sink' text
      → CheckEnds tells sink sink' medium medium' order syncs status
