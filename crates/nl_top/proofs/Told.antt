-- Endings of a run of lines, from what its parts say.
use Rattle.std.proofs.Common.{◌≡◌, ℕ, Bool, List, length, ap, sym, subst, ◌∙◌}
use Rattle.nl_spec_headline.specs.Course.{Course}
use Rattle.nl_spec_headline.specs.Status.{DoneStatus, RunFailed}
use Rattle.nl_spec_headline.specs.Streams.{Medium, Prints, Stream}
use Rattle.nl_spec_headline.specs.declared.lists.Ordered.{Ordered}
use Rattle.nl_spec_headline.specs.declared.lists.Synced.{Synced}
use Rattle.nl_print.specs.Texts.{Answered, run_text}
use Rattle.nl_cmd_course.specs.Rounds.{AreRoomyFor, AreTablesFor, IsEmptyWithRoomFor, LinesRan, order_of_rows, syncs_of_rows}
use Rattle.nl_cmd_course.specs.declared.charges.Charges.{Charges}
use Rattle.nl_cmd_answers.specs.Rows.{PlacedRowsAreARun, rows_text, summary_text}
use Rattle.nl_tree.specs.declared.call.Line.{Line}
use Rattle.nl_workers.specs.Table.{Row, TableState}
use Rattle.nl_spec_headline.specs.Table.{Table}
use Rattle.nl_top.specs.Leaving.{Leaving, prefixes_of}
use Rattle.nl_top.specs.RunEnds.{RunEnds, ran}
use Rattle.nl_top.specs.Telling.{PrintsCourse, told_text}
use Rattle.nl_top.specs.declared.telling.Told.{Told}
use Rattle.nl_top.specs.declared.telling.Told.TheVariants.{Answers, Summary}

-- ---- lines that were run

module _ (tells : Type 0) (lines : List Line) (leaves : Leaving → Type 0) (sink sink' : Stream) (medium medium' : Medium) (rows : List Row) (lost worn : Bool) (charges : Charges) (course : Course) (count status : ℕ)
    (runs : LinesRan tells lines (λ run. leaves (prefixes_of run)) medium medium' rows lost worn charges course) (opened : count ≡ course.count) where
  -- what is told of the rows shows the course
  shows_it : (what : Told) → PlacedRowsAreARun → PrintsCourse what tells course (told_text what count charges rows)
  shows_it Answers placed = ap (λ (n : ℕ). rows_text n rows) opened ∙ placed course.count rows runs.places ∙ ap (run_text course.count) runs.said
  shows_it Summary placed = record {
    charges = charges;
    text_is = ap (λ (answered : List Answered). summary_text answered charges.pages charges.nodes charges.meta) runs.said;
    charged = runs.charged;
  }

  pub was_told : (what : Told) → PlacedRowsAreARun → (order : List Ordered) (syncs : List Synced) → order ≡ order_of_rows rows → syncs ≡ syncs_of_rows rows
      → Prints sink sink' (told_text what count charges rows) → DoneStatus status (RunFailed order medium.counts medium'.counts lost worn) sink sink' (told_text what count charges rows)
      → RunEnds tells lines (PrintsCourse what tells) leaves sink sink' medium medium' order syncs status
  was_told what placed order syncs is_order is_syncs prints done =
      subst (λ (x : List Ordered × List Synced). RunEnds tells lines (PrintsCourse what tells) leaves sink sink' medium medium' x.0 x.1 status) (λ i. (sym is_order i, sym is_syncs i))
      (ran (record {
        course = course;
        lost = lost;
        worn = worn;
        runs = runs.runs;
        causes = runs.causes;
        text = told_text what count charges rows;
        text_is = shows_it what placed;
        prints = prints;
        done = subst (λ (o : List Ordered). DoneStatus status (RunFailed o medium.counts medium'.counts lost worn) sink sink' (told_text what count charges rows)) is_order done;
      }))

-- the lists have room for the rows
pub room_for : (lines : List Line) (rows : List Row) (answers : TableState) (order order' : Table Ordered) (syncs syncs' : Table Synced) → length rows ≡ length lines → AreTablesFor lines answers order syncs
    → order' ≡ order → syncs' ≡ syncs → AreRoomyFor rows order' syncs'
room_for lines rows answers order order' syncs syncs' many tables same_order same_syncs =
    record {
      order_room = subst (λ (x : ℕ × Table Ordered). IsEmptyWithRoomFor x.0 x.1) (λ i. (sym many i, sym same_order i)) tables.order_room;
      syncs_room = subst (λ (x : ℕ × Table Synced). IsEmptyWithRoomFor x.0 x.1) (λ i. (sym many i, sym same_syncs i)) tables.syncs_room;
    }
