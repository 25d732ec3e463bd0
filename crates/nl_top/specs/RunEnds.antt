-- How a command ends that runs lines, with which status, text and cause, and what it then says of source, sink and medium, and of what a
-- stop leaves.
use Rattle.std.specs.Prelude.{◌≡◌, ℕ, Bool, List, codes}
use Rattle.nl_field.specs.CrashStates.{Rose}
use Rattle.nl_spec_headline.specs.Course.{Course, text_in}
use Rattle.nl_spec_headline.specs.Headline.{ReadsScript, RunsLines}
use Rattle.nl_spec_headline.specs.Status.{DoneStatus, HaveCauses, RunFailed}
use Rattle.nl_spec_headline.specs.Streams.{Medium, Prints, Stream}
use Rattle.nl_spec_headline.specs.declared.lists.Ordered.{Ordered}
use Rattle.nl_spec_headline.specs.declared.lists.Synced.{Synced}
use Rattle.nl_print.specs.Texts.{refused_text}
use Rattle.nl_script.specs.Causes.{cause_word}
use Rattle.nl_script.specs.declared.why.Why.{Why}
use Rattle.nl_tree.specs.declared.call.Line.{Line}
use Rattle.nl_cmd_words.specs.Ends.{EndsBefore, NotOpened, RefusesScript}
use Rattle.nl_top.specs.Leaving.{Leaving, nothing_new, prefixes_of}

-- what is printed of a course by a run: its text
abbrev pub PrintsAnswers : Course → List ℕ → Type 0
PrintsAnswers course text = text ≡ text_in course

-- The lines were run, and a text was printed that shows their one course.
pub record Ran (tells : Type 0) (lines : List Line) (shows : Course → List ℕ → Type 0) (leaves : Leaving → Type 0) (sink sink' : Stream) (medium medium' : Medium) (order : List Ordered) (syncs : List Synced) (status : ℕ) : Type 0 where
  pub course : Course
  pub lost : Bool
  pub worn : Bool
  pub runs : RunsLines tells lines (λ run. leaves (prefixes_of run)) medium medium' order syncs worn course
  pub causes : HaveCauses tells medium.counts medium'.counts course.next_stamp lost worn
  pub text : List ℕ
  pub text_is : shows course text
  pub prints : Prints sink sink' text
  pub done : DoneStatus status (RunFailed order medium.counts medium'.counts lost worn) sink sink' text

-- How a run of lines ends.
pub data RunEnds (tells : Type 0) (lines : List Line) (shows : Course → List ℕ → Type 0) (leaves : Leaving → Type 0) (sink sink' : Stream) (medium medium' : Medium) (order : List Ordered) (syncs : List Synced) (status : ℕ) : Type 0 where
  not_run : (text : List ℕ) → NotOpened tells medium medium' status text → leaves nothing_new
      → EndsBefore tells text sink sink' medium medium' order syncs
      → RunEnds tells lines shows leaves sink sink' medium medium' order syncs status
  ran : Ran tells lines shows leaves sink sink' medium medium' order syncs status
      → RunEnds tells lines shows leaves sink sink' medium medium' order syncs status

-- How the command ends that runs the script of a source. The order is source, script, memory, opening, run, sink.
pub data ScriptEnds (tells : Type 0) (leaves : Leaving → Type 0) (source source' sink sink' : Stream) (medium medium' : Medium) (order : List Ordered) (syncs : List Synced) (status : ℕ) : Type 0 where
  source_fault : status ≡ 3 → Rose source.faults source'.faults → leaves nothing_new
      → EndsBefore tells (codes "source fault\n") sink sink' medium medium' order syncs
      → ScriptEnds tells leaves source source' sink sink' medium medium' order syncs status
  source_no_memory : status ≡ 6 → leaves nothing_new → EndsBefore tells (codes "memory\n") sink sink' medium medium' order syncs
      → ScriptEnds tells leaves source source' sink sink' medium medium' order syncs status
  script_refused : (line column : ℕ) (why : Why) → status ≡ 2 → RefusesScript source source' line column why
      → leaves nothing_new → EndsBefore tells (refused_text line column (cause_word why)) sink sink' medium medium' order syncs
      → ScriptEnds tells leaves source source' sink sink' medium medium' order syncs status
  runs_script : (lines : List Line) → ReadsScript source source' lines
      → RunEnds tells lines PrintsAnswers leaves sink sink' medium medium' order syncs status
      → ScriptEnds tells leaves source source' sink sink' medium medium' order syncs status
