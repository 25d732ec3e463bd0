-- What a sink takes of the text that a core shows.
use Rattle.std.specs.Prelude.{◌≡◌, ⊤, ℕ, List, [], ◌∷◌, flat_map, length, take, Option, Some, None}
use Rattle.nl_io.specs.Streams.{WritesStream}
use Rattle.nl_io.specs.declared.sink.SinkAnswer.{SinkAnswer}
use Rattle.nl_io.specs.declared.sink.SinkAnswer.TheVariants as sink
use Rattle.nl_tree.specs.Charges.{data_charge, meta_charge, node_charge}
use Rattle.nl_tree.specs.Tree.{Tree}
use Rattle.nl_print.specs.Texts.{report_text}
use Rattle.nl_iface.specs.Counting.{FailuresCounted}
use Rattle.nl_iface.specs.declared.counts.Counts.{Ghosts}
use Rattle.nl_meta.specs.Consistent.{PageOfStamp}
use Rattle.nl_core.specs.Trees.{CoreRepresentsTree}
use Rattle.nl_core.specs.declared.state.Core.{Core}
use Rattle.nl_volume_list.specs.Items.{PathItem, items_of}
use Rattle.nl_cmd_print.specs.Printed.{item_line}
use Rattle.nl_volume_list.specs.Walks.{WalkState, still_to_give}
use Rattle.nl_cmd_print.specs.declared.paths.Shown.{Shown}
use Rattle.nl_cmd_print.specs.declared.paths.Shown.TheVariants as shown

-- how the text was taken that was printed
abbrev pub sink_answer : Shown → SinkAnswer
sink_answer shown.All = sink.Took
sink_answer shown.NotTaken = sink.Failed
sink_answer shown.Fault = sink.Took
sink_answer shown.Lost = sink.Took

-- The text is a beginning of the whole.
abbrev pub IsTextPrefix : List ℕ → List ℕ → Type 0
IsTextPrefix text whole = text ≡ take (length text) whole

-- The text is the whole, or a beginning of it where the printing ended early.
abbrev pub IsShown : Shown → List ℕ → List ℕ → Type 0
IsShown shown.All text whole = text ≡ whole
IsShown shown.NotTaken text whole = IsTextPrefix text whole
IsShown shown.Fault text whole = IsTextPrefix text whole
IsShown shown.Lost text whole = IsTextPrefix text whole

-- Some text was printed. Where the medium tells its contents, it is that of each tree as which the core runs.
pub record PrintsText {D : Type 0} (g : Ghosts D) (v : Core D) (text_of : Tree → List ℕ) (old new : Option (List ℕ)) (answer : Shown) : Type 0 where
  pub text : List ℕ
  pub taken : WritesStream old new (sink_answer answer) text
  pub of_tree : g.tells → (page_of_stamp : ℕ → Option PageOfStamp) (tree : Tree) → CoreRepresentsTree g v page_of_stamp tree
      → IsShown answer text (text_of tree)

-- Reads failed only where a fault ended the printing, and then one did. A page is lost only where the medium does not tell its contents.
abbrev pub ReadsFor : {D : Type 0} → Ghosts D → D → D → Shown → Type 0
ReadsFor g old new shown.All = g.read_faults new ≡ g.read_faults old
ReadsFor g old new shown.NotTaken = g.read_faults new ≡ g.read_faults old
ReadsFor g old new shown.Fault = FailuresCounted ⊤ (g.read_faults old) (g.read_faults new) ⊤
ReadsFor g old new shown.Lost = (g.read_faults new ≡ g.read_faults old) × (g.tells → ⊥)

-- ---- its parts

-- the lines of all paths
abbrev pub paths_text : Tree → List ℕ
paths_text tree = flat_map item_line (items_of tree)

-- how the printing ended, where a line was its last
abbrev pub ended_by : SinkAnswer → Option Shown
ended_by sink.Took = None
ended_by sink.Failed = Some shown.NotTaken

-- how a line was taken; none ends the printing
abbrev pub line_answer : Option Shown → SinkAnswer
line_answer None = sink.Took
line_answer (Some answer) = sink_answer answer

abbrev pub ReadsUntil : {D : Type 0} → Ghosts D → D → D → Option Shown → Type 0
ReadsUntil g old new None = g.read_faults new ≡ g.read_faults old
ReadsUntil g old new (Some answer) = ReadsFor g old new answer

-- The line is that of the first path that was left, and the rest is left then.
pub record IsNextLine (tree : Tree) (was walk : WalkState) (line : List ℕ) : Type 0 where
  pub one : PathItem
  pub left : still_to_give tree was ≡ one ∷ still_to_give tree walk
  pub is_line : line ≡ item_line one

-- A line was printed, or nothing where no path is left or none could be found.
abbrev pub IsPrintedLine : Tree → WalkState → WalkState → List ℕ → Option Shown → Type 0
IsPrintedLine tree was walk line None = IsNextLine tree was walk line
IsPrintedLine tree was walk line (Some shown.All) = (still_to_give tree was ≡ []) × (line ≡ [])
IsPrintedLine tree was walk line (Some shown.NotTaken) = IsNextLine tree was walk line
IsPrintedLine tree was walk line (Some shown.Fault) = line ≡ []
IsPrintedLine tree was walk line (Some shown.Lost) = line ≡ []

-- Some line was printed, which is that of each tree as which the core runs.
pub record ShowsNext {D : Type 0} (g : Ghosts D) (v : Core D) (was walk : WalkState) (old new : Option (List ℕ)) (answer : Option Shown) : Type 0 where
  pub line : List ℕ
  pub taken : WritesStream old new (line_answer answer) line
  pub of_tree : (page_of_stamp : ℕ → Option PageOfStamp) (tree : Tree) → CoreRepresentsTree g v page_of_stamp tree → IsPrintedLine tree was walk line answer

-- ---- the report

-- Some text was printed. It has the charges of each tree as which the core runs, as many pairs as its device has now, and the next write
-- sequence number of the device.
pub record PrintsReport {D : Type 0} (g : Ghosts D) (v : Core D) (least greatest : ℕ) (old new : Option (List ℕ)) (answer : SinkAnswer) : Type 0 where
  pub text : List ℕ
  pub taken : WritesStream old new answer text
  pub of_tree : (page_of_stamp : ℕ → Option PageOfStamp) (tree : Tree) → CoreRepresentsTree g v page_of_stamp tree
      → text ≡ report_text (g.shape v.device) v.count (data_charge tree) (node_charge tree) (meta_charge tree)
      (g.names v.device).space.pairs least greatest (g.next_stamp v.device)
