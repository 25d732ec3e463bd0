-- What a call that writes does to a core, and what it answers.
use Rattle.std.specs.Prelude.{◌≡◌, ℕ, ◌+◌, ◌<◌, ◌≤◌, ⊤, IsSome, [], List, length, slice_get, Option, Some, Result, Ok, Err}
use Rattle.std.specs.Int.{div_ceil}
use Rattle.nl_tree.specs.Event.{page_given}
use Rattle.nl_tree.specs.Step.{step}
use Rattle.nl_tree.specs.Tree.{Tree}
use Rattle.nl_tree.specs.declared.call.Call.{Call}
use Rattle.nl_tree.specs.declared.reply.Reply.TheVariants.{Count, No}
use Rattle.nl_flight.specs.Flight.{of_worker}
use Rattle.nl_flight.specs.declared.page.FlightPage.{FlightPage}
use Rattle.nl_iface.specs.Names.{place_of}
use Rattle.nl_iface.specs.declared.counts.Counts.{Ghosts}
use Rattle.nl_meta.specs.Consistent.{PageOfStamp}
use Rattle.nl_meta_running.specs.declared.answer.Stop.{Stop}
use Rattle.nl_meta_running.specs.declared.answer.Stop.TheVariants as stop
use Rattle.nl_core.specs.Goes.{PreservesVolume}
use Rattle.nl_core.specs.LastCommit.{HasRoomAtOnce}
use Rattle.nl_core.specs.Programming.{HasLineOrNone}
use Rattle.nl_core.specs.Trees.{CoreRepresentsTree}
use Rattle.nl_core.specs.declared.state.Core.{Core}
use Rattle.nl_calls_steps.specs.Lines.{worker_pages}
use Rattle.nl_calls_bytes.specs.Contents.{count_indexes}
use Rattle.nl_calls_bytes.specs.Ranges.{from_of, len_of}
use Rattle.nl_calls_steps.specs.declared.answer.Written.TheVariants as written
use Rattle.nl_calls_steps.specs.Calls.{HasPagesOfFiles, IfWritten, IfUndone, OtherLinesStay, RepresentsSomeTree, TakesWithin, stop_in}
use Rattle.nl_calls_steps.specs.Answers.{EndsEarly}
use Rattle.nl_calls_steps.specs.declared.answer.Written.{Written}

-- The page at a place of a line: that of the whole page at that place of the call's range. While the medium tells its contents, it holds
-- what the call gives it.
pub record IsStagedPage {D : Type 0} (g : Ghosts D) (s : D) (call : Call) (place : ℕ) (page : FlightPage) : Type 0 where
  pub index : page.index ≡ div_ceil (from_of call) 4096 + place
  pub tagged : page.tag.index ≡ page.index
  pub whole : IsSome (page_given call page.index)
  pub given : g.tells → page_given call page.index ≡ Some (g.bytes s (place_of (g.names s) page.at))

abbrev pub AreStaged : {D : Type 0} → Ghosts D → Core D → Call → List FlightPage → Type 0
AreStaged g v call pages = (place : ℕ) (page : FlightPage) → slice_get pages place ≡ Some page → IsStagedPage g v.device call place page

-- What holds before a worker's line is done that writes: the volume runs and can be written, and its files have so many pages. No worker
-- has more pages in flight than a line may, and those of this one are of this line, whole pages of the call from the first one on.
pub record CanWriteLine {D : Type 0} (g : Ghosts D) (v : Core D) (worker line : ℕ) (call : Call) (files : ℕ) : Type 0 where
  pub writes : v.stopped ≡ 0
  pub runs : RepresentsSomeTree g v
  pub known : worker < 8
  pub some : 0 < line
  pub has_line : HasLineOrNone v.flight worker line
  pub files_are : HasPagesOfFiles g v files
  pub staged : AreStaged g v call (worker_pages v worker)
  pub few : (w : ℕ) → length (of_worker v.flight w).pages ≤ 16

-- There is room for the call without a commit: four more pages of the metadata may become dirty, and the device has room for each page in
-- which some of its bytes lie.
abbrev pub HasRoomToWrite : {D : Type 0} → Ghosts D → Call → Core D → Type 0
HasRoomToWrite g call v = HasRoomAtOnce g 4 (count_indexes (from_of call) (len_of call)) v

-- ---- answers

-- The step of each tree as which the core ran answers to a write what the core answers.
abbrev pub AnswersWrite : {D : Type 0} → Ghosts D → Call → Core D → Written → Type 0
AnswersWrite g call old (written.Done files) =
    g.tells → (page_of_stamp : ℕ → Option PageOfStamp) (tree : Tree) → CoreRepresentsTree g old page_of_stamp tree
    → (step (g.shape old.device) tree call).reply ≡ Count (len_of call)
AnswersWrite g call old (written.No refusal) =
    g.tells → (page_of_stamp : ℕ → Option PageOfStamp) (tree : Tree) → CoreRepresentsTree g old page_of_stamp tree
    → step (g.shape old.device) tree call ≡ record { reply = No refusal; bytes = []; tree = tree }
AnswersWrite g call old (written.Lost w f) = ⊤
AnswersWrite g call old written.Fault = ⊤

-- the answer of a part of the call, or of what ended the call early
abbrev pub ended_as : Result Written Stop → Written
ended_as (Ok answer) = answer
ended_as (Err stop.Fault) = written.Fault
ended_as (Err (stop.Lost w f)) = written.Lost w f

-- All of a call that writes: what it does, with at most so many write sequence numbers, what it answers, and why it ended early.
pub record EndsWrite {D : Type 0} (g : Ghosts D) (most worker : ℕ) (call : Call) (old new : Core D) (answer : Written) : Type 0 where
  pub done : IfWritten answer (λ files. TakesWithin g most worker call old new × HasPagesOfFiles g new files)
  pub undone : IfUndone answer (PreservesVolume g most old new)
  pub answers : AnswersWrite g call old answer
  pub others : OtherLinesStay worker old.flight new.flight
  pub early : EndsEarly g old new (stop_in answer)
