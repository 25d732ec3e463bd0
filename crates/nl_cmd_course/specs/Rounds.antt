-- Lines that were run in turns of a lock: the rows of their answers, and the course that they are of.
use Rattle.std.specs.Prelude.{◌≡◌, ℕ, ◌+◌, ◌<◌, ◌≤◌, ◌^◌, Bool, List, [], length, map, filter_map, Option, Some, None, option_map}
use Rattle.nl_spec_image.specs.Crash.{Run}
use Rattle.nl_cmd_answers.specs.Rows.{HavePlaces, said}
use Rattle.nl_tree.specs.Causes.{fault_in}
use Rattle.nl_tree.specs.declared.call.Line.{Line}
use Rattle.nl_tree.specs.declared.reply.Reply.{Reply}
use Rattle.nl_tree.specs.declared.reply.Reply.TheVariants.{Synced as SyncReply}
use Rattle.nl_turns.specs.History.{Opening, line_at}
use Rattle.nl_workers.specs.Table.{IsTableFor, Row, TableState}
use Rattle.nl_spec_headline.specs.Course.{Course, RepliedLine, tree_after}
use Rattle.nl_spec_headline.specs.Headline.{RunsLines}
use Rattle.nl_spec_headline.specs.Status.{HaveCauses}
use Rattle.nl_spec_headline.specs.Streams.{Medium}
use Rattle.nl_spec_headline.specs.Table.{Table}
use Rattle.nl_spec_headline.specs.declared.lists.Ordered.{Ordered}
use Rattle.nl_spec_headline.specs.declared.lists.Synced.{Synced}
use Rattle.nl_cmd_course.specs.Charges.{AreCharges}
use Rattle.nl_cmd_course.specs.declared.charges.Charges.{Charges}

-- ---- the course of a run

abbrev pub replied : Row → Line → RepliedLine
replied row line = record { line = line; reply = row.answered.reply; bytes = row.bytes }

abbrev pub reply_of_row : List Line → Row → Option RepliedLine
reply_of_row lines row = option_map (replied row) (line_at lines row.line)

-- as what the lock was opened, and the answers in its table
abbrev pub course_of : Opening → List Row → Course
course_of opening rows =
    record { shape = opening.shape; count = opening.count; tree = opening.tree; next_stamp = opening.next_stamp; answers = filter_map (reply_of_row opening.lines) rows }

-- ---- what is told of the rows

abbrev pub ordered_row : Row → Ordered
ordered_row row = record { line = row.line; fault = fault_in row.answered.reply }

abbrev pub synced_row : ℕ → Reply → Option Synced
synced_row line (SyncReply upto moment) = Some (record { line = line; upto = upto; moment = moment })
synced_row line reply = None

abbrev pub order_of_rows : List Row → List Ordered
order_of_rows rows = map ordered_row rows

abbrev pub syncs_of_rows : List Row → List Synced
syncs_of_rows rows = filter_map (λ (row : Row). synced_row row.line row.answered.reply) rows

-- ---- room

-- An empty list with room for so many.
pub record IsEmptyWithRoomFor {A : Type 0} (count : ℕ) (list : Table A) : Type 0 where
  pub none : list.items ≡ []
  pub room : count ≤ list.room

-- One more can be pushed.
pub record HasOneMore {A : Type 0} (list : Table A) : Type 0 where
  pub room : 0 < list.room
  pub few : length list.items + 1 < 2 ^ 32

-- The tables of a run are new, and made for these lines.
pub record AreTablesFor (lines : List Line) (answers : TableState) (order : Table Ordered) (syncs : Table Synced) : Type 0 where
  pub table : IsTableFor lines answers
  pub order_room : IsEmptyWithRoomFor (length lines) order
  pub syncs_room : IsEmptyWithRoomFor (length lines) syncs

-- The lists have room for the rows.
pub record AreRoomyFor (rows : List Row) (order : Table Ordered) (syncs : Table Synced) : Type 0 where
  pub order_room : IsEmptyWithRoomFor (length rows) order
  pub syncs_room : IsEmptyWithRoomFor (length rows) syncs

-- ---- the lines were run

-- The lines were run on a volume that opened on a medium, and the volume was closed. The rows are their answers. The sentences of the
-- headline hold of their course, with the order and the syncs that the rows tell; a lost page and a worn volume have their causes; what is
-- printed of the rows is what is printed of the course, and the rows have its places. Where the medium tells its contents, the charges are
-- those of the tree after the whole course.
pub record LinesRan (tells : Type 0) (lines : List Line) (stops : Run → Type 0) (medium medium' : Medium) (rows : List Row) (lost worn : Bool) (charges : Charges) (course : Course) : Type 0 where
  pub runs : RunsLines tells lines stops medium medium' (order_of_rows rows) (syncs_of_rows rows) worn course
  pub causes : HaveCauses tells medium.counts medium'.counts course.next_stamp lost worn
  pub said : map said rows ≡ map (λ (a : RepliedLine). (a.line.line, a.reply, a.bytes)) course.answers
  pub places : HavePlaces course.count rows
  pub charged : tells → AreCharges charges (tree_after course)
