-- Lines were run on a volume that opened on its medium, and it was closed: the sentences hold of their course.
use Rattle.std.proofs.Common.{◌≡◌, ◌^◌, ℕ, ◌+◌, ◌<◌, ◌≤◌, Bool, false, List, [], length, Option, IsTrue, refl, sym, subst}
use Rattle.nl_field.specs.CrashStates.{top}
use Rattle.nl_tree.specs.Calls.{AreLines}
use Rattle.nl_tree.specs.Causes.{Counts, FaultRose, NeverFall}
use Rattle.nl_tree.specs.Tree.{Tree}
use Rattle.nl_tree.specs.declared.call.Line.{Line}
use Rattle.nl_iface.specs.declared.counts.Counts.{Ghosts}
use Rattle.nl_core.specs.Core.{begun_of}
use Rattle.nl_core.specs.Trees.{CoreRepresentsTree}
use Rattle.nl_core.specs.declared.state.Core.{Core}
use Rattle.nl_meta.specs.Consistent.{PageOfStamp}
use Rattle.nl_spec_image.specs.Crash.{Run}
use Rattle.nl_spec_image.specs.Stands.{ConsistentAs}
use Rattle.nl_turns.specs.History.{Opening, effects, opening_counts, tree_after}
use Rattle.nl_turns.specs.Seat.{SeatState, entries}
use Rattle.nl_turns.specs.declared.entry.Entry.{Entry}
use Rattle.nl_calls_steps.specs.Calls.{counts_of}
use Rattle.nl_volume.specs.Closing.{IsYoungAtEnd}
use Rattle.nl_volume.specs.Opening.{opening_of}
use Rattle.nl_volume_stage.specs.Standing.{RepresentsHistory, run_of}
use Rattle.nl_workers.specs.Rounds.{AreRows, EpochsRan}
use Rattle.nl_workers.specs.Table.{Row}
use Rattle.nl_spec_headline.specs.Headline.{BeginsSpelled, IsYoung, OpensAs}
use Rattle.nl_spec_headline.specs.Streams.{Medium}
use Rattle.nl_cmd_course.specs.Charges.{AreCharges}
use Rattle.nl_cmd_course.specs.declared.charges.Charges.{Charges}
use Rattle.nl_volume.specs.Opened.{OpensOn}
use Rattle.nl_cmd_course.specs.Rounds.{LinesRan, course_of}
use Rattle.nl_cmd_run.proofs.Kept.{has_kept, worn_so, young_at_end}
use Rattle.nl_cmd_course.proofs.Whole.{lines_ran, many}

module _ {D : Type 0} (g : Ghosts D) (origin v : Core D) (done : ℕ) (tree : Tree) (lines : List Line) (seat after : SeatState) (rows : List Row)
    (opening_is : seat.opening ≡ opening_of g origin tree lines) (rise : AreLines lines) (short : length lines < 2 ^ 32) (ran : EpochsRan g.tells seat lines rows after)
    (stands : RepresentsHistory g origin (opening_of g origin tree lines) (entries after.seen) v done) where
  abbrev o : Opening
  o = opening_of g origin tree lines

  abbrev h : List Entry
  h = entries after.seen

  table : AreRows g.tells o h rows
  table = subst (λ (x : Opening). AreRows g.tells x h rows) opening_is ran.table

  module _ (stops : Run → Type 0) (medium medium' : Medium) (lost worn : Bool) (charges : Charges) (counts : medium.counts ≡ opening_counts o) (later : NeverFall (counts_of g v.device) medium'.counts)
      (clock : medium'.counts.clock ≤ top) (writes : medium'.counts.write_faults ≤ top)
      (opened : OpensOn g medium.contents origin) (sound : g.tells → ConsistentAs medium.contents origin.count tree)
      (leaves : IsYoungAtEnd g.tells o h (begun_of origin) medium'.counts.clock → stops (run_of o h))
      (ends : IsYoungAtEnd g.tells o h (begun_of origin) medium'.counts.clock → (FaultRose (opening_counts o) medium'.counts → ⊥) → worn ≡ false → ConsistentAs medium'.contents (o.count + effects h) (tree_after o h))
      (none_lost : g.tells → lost ≡ false) (worn_is : IsTrue worn → 2 ^ 62 ≤ g.next_stamp v.device) (charged : (page_of_stamp : ℕ → Option PageOfStamp) (tree : Tree) → CoreRepresentsTree g v page_of_stamp tree → AreCharges charges tree) where
    opens_so : g.tells → OpensAs medium.contents (course_of o [])
    opens_so t = let k = opened.opens t in record { sound = sound t; shape = k.shape; next_stamp = k.next_stamp }

    begins_so : BeginsSpelled (course_of o [])
    begins_so = record { count = opened.few; next_stamp = opened.spelled }

    young_so : g.tells → IsYoung medium.contents (opening_counts o) medium'.counts (course_of o rows) → IsYoungAtEnd g.tells o h (begun_of origin) medium'.counts.clock
    young_so t young =
        young_at_end g origin o h v done stands medium'.counts later clock writes medium.contents (course_of o rows) t
        (many g.tells lines o after.seen rows refl rise ran.order table ran.placed (opening_counts o) (counts_of g v.device) medium'.counts (has_kept g origin o h v done stands medium'.counts later clock writes) begins_so short)
        (opened.number t) young

    charges_are : g.tells → AreCharges charges (tree_after o h)
    charges_are t = let k = stands.serves.along.runs t in charged k.0 (tree_after o h) k.1

    pub rounds_and_end : LinesRan g.tells lines stops medium medium' rows lost worn charges (course_of o rows)
    rounds_and_end =
        lines_ran g.tells lines o after.seen rows refl rise ran.order table ran.placed (opening_counts o) (counts_of g v.device) medium'.counts
        (has_kept g origin o h v done stands medium'.counts later clock writes) begins_so short stops medium medium' lost worn charges counts refl opens_so (λ t young. leaves (young_so t young))
        (λ t young none unworn. ends (young_so t young) (λ rose. none (subst (λ (x : Counts). FaultRose x medium'.counts) (sym counts) rose)) unworn)
        none_lost (λ is. worn_so g origin o h v done stands medium'.counts later clock writes (worn_is is)) charges_are
