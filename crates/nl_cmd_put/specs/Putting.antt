-- How the command ends that puts a file: with which status, text, refusal and cause, and what it then says of source, sink and medium, and
-- of what a stop leaves.
use Rattle.std.specs.Prelude.{◌≡◌, ◌⊎◌, ℕ, ◌<◌, Bool, true, List, [], ◌++◌, length, codes, Option, None, Some, option_map}
use Rattle.nl_field.specs.CrashStates.{Rose}
use Rattle.nl_field.specs.Numbers.{max_file_size}
use Rattle.nl_spec_headline.specs.Course.{Course}
use Rattle.nl_spec_headline.specs.Status.{DoneStatus}
use Rattle.nl_spec_headline.specs.Streams.{Medium, MediumRose, Prints, ReadsWhole, Stream}
use Rattle.nl_spec_headline.specs.declared.lists.Ordered.{Ordered}
use Rattle.nl_spec_headline.specs.declared.lists.Synced.{Synced}
use Rattle.nl_spec_image.specs.Crash.{Run}
use Rattle.nl_print.specs.Texts.{then_number}
use Rattle.nl_tree.specs.declared.reply.Refusal.{Refusal}
use Rattle.nl_tree.specs.declared.reply.Refusal.TheVariants.{Efbig, Eisdir}
use Rattle.nl_cmd_words.specs.Ends.{EndsBefore, NotOpened}
use Rattle.nl_cmd_put.specs.OnVolume.{RunsPut}
use Rattle.nl_cmd_put.specs.declared.ending.End.{End}
use Rattle.nl_cmd_put.specs.declared.ending.End.TheVariants as ends

-- that so many bytes were put
abbrev pub put_text : ℕ → List ℕ
put_text count = codes "put" ++ then_number count ++ codes "\n"

-- A count of faults of the medium rose, a page was lost, or closing found the volume worn.
abbrev pub PutFailed : Medium → Medium → Bool → Bool → Type 0
PutFailed medium medium' lost worn = MediumRose medium medium' ⊎ ((lost ≡ true) ⊎ (worn ≡ true))

-- What is told where nothing failed: so many bytes, with status 0, or 4 where the sink failed; the refusal, with status 2; or that memory
-- was wanting, with status 6. A fault has status 5.
abbrev pub TellsEnd : End → Stream → Stream → Option Refusal → ℕ → Type 0
TellsEnd (ends.Put count) sink sink' refused status =
    (refused ≡ None) × Prints sink sink' (put_text count) × DoneStatus status ⊥ sink sink' (put_text count)
TellsEnd (ends.Refused refusal) sink sink' refused status = (refused ≡ Some refusal) × (status ≡ 2) × (sink' ≡ sink)
TellsEnd ends.Memory sink sink' refused status = (refused ≡ None) × (status ≡ 6) × Prints sink sink' (codes "memory\n")
TellsEnd ends.Fault sink sink' refused status = (refused ≡ None) × (status ≡ 5) × (sink' ≡ sink)

-- Status 5 and no text where it failed, and else what the end says.
abbrev pub TellsPut : End → Type 0 → Stream → Stream → Option Refusal → ℕ → Type 0
TellsPut end failed sink sink' refused status =
    (failed × (refused ≡ None) × (status ≡ 5) × (sink' ≡ sink)) ⊎ ((failed → ⊥) × TellsEnd end sink sink' refused status)

-- The put was run on a volume that opened, and its end was told.
pub record PutRan (tells : Type 0) (path : List (List ℕ)) (bytes : List ℕ) (stops : Run → Type 0) (sink sink' : Stream)
    (medium medium' : Medium) (order : List Ordered) (syncs : List Synced) (refused : Option Refusal) (status : ℕ) : Type 0 where
  pub course : Course
  pub end : End
  pub lost : Bool
  pub worn : Bool
  pub runs : RunsPut tells path bytes stops medium medium' end lost worn course
  pub told : TellsPut end (PutFailed medium medium' lost worn) sink sink' refused status
  pub no_lines : order ≡ []
  pub no_syncs : syncs ≡ []

-- An ending before any volume was opened, at which nothing is printed but the refusal is told.
pub record RefusedBefore (tells nothing : Type 0) (refusal : Refusal) (sink sink' : Stream) (medium medium' : Medium)
    (order : List Ordered) (syncs : List Synced) (refused : Option Refusal) (status : ℕ) : Type 0 where
  pub status_is : status ≡ 2
  pub refused_is : refused ≡ Some refusal
  pub leaves : nothing
  pub no_text : sink' ≡ sink
  pub before : EndsBefore tells [] sink sink' medium medium' order syncs

-- How it ends once the bytes were read. `nothing`: a stop leaves nothing new.
pub data BytesEnd (tells : Type 0) (path : List (List ℕ)) (bytes : List ℕ) (nothing : Type 0) (stops : Run → Type 0) (sink sink' : Stream)
    (medium medium' : Medium) (order : List Ordered) (syncs : List Synced) (refused : Option Refusal) (status : ℕ) : Type 0 where
  at_root : path ≡ [] → RefusedBefore tells nothing Eisdir sink sink' medium medium' order syncs refused status
      → BytesEnd tells path bytes nothing stops sink sink' medium medium' order syncs refused status
  no_memory : status ≡ 6 → refused ≡ None → nothing → EndsBefore tells (codes "memory\n") sink sink' medium medium' order syncs
      → BytesEnd tells path bytes nothing stops sink sink' medium medium' order syncs refused status
  not_opened : (text : List ℕ) → NotOpened tells medium medium' status text → refused ≡ None → nothing
      → EndsBefore tells text sink sink' medium medium' order syncs
      → BytesEnd tells path bytes nothing stops sink sink' medium medium' order syncs refused status
  ran : PutRan tells path bytes stops sink sink' medium medium' order syncs refused status
      → BytesEnd tells path bytes nothing stops sink sink' medium medium' order syncs refused status

-- How the command ends. The order is source, length, root, opening, put, sink.
pub data PutEnds (tells : Type 0) (path : List (List ℕ)) (nothing : Type 0) (stops : Run → Type 0) (source source' sink sink' : Stream)
    (medium medium' : Medium) (order : List Ordered) (syncs : List Synced) (refused : Option Refusal) (status : ℕ) : Type 0 where
  source_fault : status ≡ 3 → Rose source.faults source'.faults → refused ≡ None → nothing
      → EndsBefore tells (codes "source fault\n") sink sink' medium medium' order syncs
      → PutEnds tells path nothing stops source source' sink sink' medium medium' order syncs refused status
  no_memory_to_read : status ≡ 6 → refused ≡ None → nothing → EndsBefore tells (codes "memory\n") sink sink' medium medium' order syncs
      → PutEnds tells path nothing stops source source' sink sink' medium medium' order syncs refused status
  too_long : (read : List ℕ) → max_file_size < length read → source.bytes ≡ option_map (λ rest. read ++ rest) source'.bytes
      → RefusedBefore tells nothing Efbig sink sink' medium medium' order syncs refused status
      → PutEnds tells path nothing stops source source' sink sink' medium medium' order syncs refused status
  all_read : (bytes : List ℕ) → ReadsWhole source source' bytes
      → BytesEnd tells path bytes nothing stops sink sink' medium medium' order syncs refused status
      → PutEnds tells path nothing stops source source' sink sink' medium medium' order syncs refused status
