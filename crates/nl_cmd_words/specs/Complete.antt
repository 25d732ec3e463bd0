-- Completeness: where nothing fails and memory is enough, a command is carried out.
use Rattle.std.specs.Prelude.{◌≡◌, ◌⊎◌, ℕ, ◌+◌, ◌-◌, ◌<◌, ◌^◌, List}
use Rattle.nl_field.specs.CrashStates.{Rose, top}
use Rattle.nl_field.specs.Scan.{next_stamp_of}
use Rattle.nl_spec_headline.specs.Status.{DoneStatus}
use Rattle.nl_spec_headline.specs.Streams.{Medium, MediumRose, Stream}
use Rattle.nl_spec_headline.specs.declared.lists.Ordered.{Ordered}
use Rattle.nl_spec_headline.specs.declared.lists.Synced.{Synced}
use Rattle.nl_spec_image.specs.Stands.{ConsistentAs}
use Rattle.nl_tree.specs.Tree.{Tree}
use Rattle.nl_cmd_words.specs.Ends.{CheckEnds, FormatEnds, NotOpened}

-- no count of source, sink or medium rose in the call
pub record NothingRose (source source' sink sink' : Stream) (medium medium' : Medium) : Type 0 where
  pub source_stays : Rose source.faults source'.faults → ⊥
  pub sink_stays : Rose sink.faults sink'.faults → ⊥
  pub medium_stays : MediumRose medium medium' → ⊥

-- The medium tells its contents, and starts sound, as some tree after this count of calls.
pub record StartsConsistent (tells : Type 0) (medium : Medium) (count : ℕ) : Type 0 where
  pub told : tells
  pub tree : Tree
  pub sound : ConsistentAs medium.contents count tree

-- The clock, the write sequence numbers and the sum of both counts of faults do not come to their ends.
pub record CountsLast (medium medium' : Medium) : Type 0 where
  pub clock : medium'.counts.clock < 2 ^ 63
  pub stamps : next_stamp_of medium.contents + (medium'.counts.clock - medium.counts.clock) < 2 ^ 62
  pub faults : medium'.counts.read_faults + medium'.counts.write_faults < top

-- The command was carried out, unless memory was wanting.
abbrev pub IsCarriedOut : ℕ → Type 0
IsCarriedOut status = (status ≡ 0) ⊎ (status ≡ 6)

-- Where nothing fails a command that was carried out ends with status 0.
abbrev pub DoneCompletes : Type 0
DoneCompletes =
    (source source' sink sink' : Stream) (medium medium' : Medium) (status : ℕ) (text : List ℕ)
    → DoneStatus status (MediumRose medium medium') sink sink' text → NothingRose source source' sink sink' medium medium' → status ≡ 0

-- Where nothing fails the volume of a sound image is opened, unless memory is wanting.
abbrev pub OpeningCompletes : Type 0 → Type 0
OpeningCompletes tells =
    (source source' sink sink' : Stream) (medium medium' : Medium) (status count : ℕ) (text : List ℕ)
    → NotOpened tells medium medium' status text → StartsConsistent tells medium count → NothingRose source source' sink sink' medium medium'
    → status ≡ 6

-- Where nothing fails a volume is made.
abbrev pub FormatCompletes : Type 0 → Type 0
FormatCompletes tells =
    (blocks pages : ℕ) (source source' sink sink' : Stream) (medium medium' : Medium) (order : List Ordered) (syncs : List Synced)
    (status : ℕ)
    → FormatEnds tells blocks pages sink sink' medium medium' order syncs status → NothingRose source source' sink sink' medium medium'
    → IsCarriedOut status

-- Where nothing fails a sound image is found sound.
abbrev pub CheckCompletes : Type 0 → Type 0
CheckCompletes tells =
    (source source' sink sink' : Stream) (medium medium' : Medium) (order : List Ordered) (syncs : List Synced) (status count : ℕ)
    → CheckEnds tells sink sink' medium medium' order syncs status → StartsConsistent tells medium count
    → NothingRose source source' sink sink' medium medium' → IsCarriedOut status
