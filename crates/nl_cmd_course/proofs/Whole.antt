-- The sentences hold of the course of the rows: each from what the workers, the volume and its closing say.
use Rattle.std.proofs.Common.{◌≡◌, ◌⊎◌, inl, inr, ⊎_elim, ℕ, ◌+◌, ◌^◌, ◌<◌, ◌≤◌, Bool, true, false, List, [], length, Some, sym, ap, ◌∙◌, subst, arith}
use Rattle.std.proofs.lemmas.List.{length-map}
use Rattle.std.proofs.lemmas.List.Sorted.{length_permutation}
use Rattle.std.specs.Prelude.{AllPairs, IfSome}
use Rattle.nl_field.specs.CrashStates.{Earlier, top}
use Rattle.nl_field.specs.Members.{Has}
use Rattle.nl_field.specs.Page.{Image}
use Rattle.nl_tree.specs.Calls.{AreLines}
use Rattle.nl_tree.specs.Causes.{Counts, HasCause, MayBeExhausted, eio_of, erofs_of}
use Rattle.nl_tree.specs.Order.{IsOrderOf, SyncPoint}
use Rattle.nl_tree.specs.Replay.{replay}
use Rattle.nl_tree.specs.Tree.{Tree}
use Rattle.nl_tree.specs.declared.call.Call.{Call}
use Rattle.nl_tree.specs.declared.call.Line.{Line}
use Rattle.nl_tree.specs.declared.reply.FaultReply.{FaultReply}
use Rattle.nl_spec_image.specs.Crash.{OpensAsPrefix, Run}
use Rattle.nl_spec_image.specs.Stands.{ConsistentAs}
use Rattle.nl_turns.specs.History.{IsKnown, Opening, SyncsInRange, call_of, effects, fault_of, marked_calls, syncs_of, tree_after as tree_of_history}
use Rattle.nl_turns.specs.Seat.{Passed, entries}
use Rattle.nl_turns.specs.declared.entry.Entry.{Entry}
use Rattle.nl_workers.specs.Rounds.{AllPlaced, AreRows, answered_lines}
use Rattle.nl_workers.specs.Table.{Row}
use Rattle.nl_spec_headline.specs.Course.{Course, RepliedLine, count_after, lines_in, run_in, tree_after}
use Rattle.nl_spec_headline.specs.Headline.{AnswersByTree, BeginsSpelled, EndsAfterAll, IsOneOrder, IsYoung, OpensAs, RunsLines, CrashesLeavePrefixes, TellsSyncs}
use Rattle.nl_spec_headline.specs.Streams.{Medium, MediumRose}
use Rattle.nl_cmd_course.specs.Charges.{AreCharges}
use Rattle.nl_cmd_course.specs.declared.charges.Charges.{Charges}
use Rattle.nl_cmd_course.specs.Rounds.{LinesRan, course_of, order_of_rows, syncs_of_rows}
use Rattle.nl_cmd_course.proofs.Answers.{each_cause, each_due, failed_differ, have_places, refused_alike}
use Rattle.nl_cmd_course.proofs.Replies.{as_many, calls_are, lines_are, order_told, printed, syncs_in_course}
use Rattle.nl_cmd_course.proofs.Stopping.{starts_as}
use Rattle.nl_cmd_course.proofs.Syncing.{are_syncs}

-- what a volume that was closed has kept of the history of the turns since its opening
pub record HasKept (tells : Type 0) (o : Opening) (h : List Entry) (before then now : Counts) : Type 0 where
  pub known : (e : Entry) → Has h e → IsKnown o e
  pub marks : (e : Entry) → Has h e → IfSome (fault_of e.fault) (λ fault. (call : Call) × (call_of o e ≡ Some call) × HasCause tells before then o.next_stamp call fault)
  pub still : (call : Call) (fault : FaultReply) → HasCause tells before then o.next_stamp call fault → HasCause tells before now o.next_stamp call fault
  pub failed : AllPairs (λ a b. (n : ℕ) → eio_of (fault_of a.fault) ≡ Some n → eio_of (fault_of b.fault) ≡ Some n → n ≡ top) h
  pub number : ℕ
  pub refused : (e : Entry) (n : ℕ) → Has h e → erofs_of (fault_of e.fault) ≡ Some n → n ≡ number
  pub ranges : SyncsInRange o h
  pub rising : AllPairs (λ a b. a.moment ≤ b.moment) (syncs_of h)
  pub within : (s : SyncPoint) → Has (syncs_of h) s
      → (Earlier before.clock s.moment ⊎ (s.upto ≡ o.count)) × (before.clock ≤ s.moment) × (s.moment ≤ now.clock)

module _ (tells : Type 0) (lines : List Line) (o : Opening) (history : List Passed) (rows : List Row) (has : o.lines ≡ lines) (rise : AreLines lines) (order : IsOrderOf lines (answered_lines lines (entries history)))
    (table : AreRows tells o (entries history) rows) (placed : AllPlaced lines history) (before then now : Counts) (kept : HasKept tells o (entries history) before then now)
    (begins : BeginsSpelled (course_of o [])) (short : length lines < 2 ^ 32) where
  abbrev course : Course
  course = course_of o rows

  abbrev h : List Entry
  h = entries history

  -- ---- the run of the history is that of the course

  pub many : count_after course ≡ o.count + effects h
  many = ap (λ n. o.count + n) (as_many tells o h rows table kept.known)

  pub run_is : run_in course ≡ record { shape = o.shape; count = o.count; tree = o.tree; calls = marked_calls o h; syncs = syncs_of h }
  run_is = λ k. record { shape = o.shape; count = o.count; tree = o.tree; calls = sym (calls_are tells o h rows table) k; syncs = sym (syncs_in_course tells o h rows table kept.known) k }

  tree_is : tree_of_history o h ≡ tree_after course
  tree_is = ap (replay o.shape o.tree) (calls_are tells o h rows table)

  -- ---- the sentences

  in_order : IsOneOrder lines (order_of_rows rows) course
  in_order = record {
    in_order = subst (IsOrderOf lines) (ap (λ ls. answered_lines ls h) (sym has) ∙ lines_are tells o h rows table) order;
    told = order_told tells o h rows table kept.known;
  }

  by_tree : AnswersByTree tells before now course
  by_tree = record {
    due = each_due tells o h rows table kept.known;
    causes = each_cause tells o h rows table kept.known before then now o.next_stamp kept.marks kept.still;
    failed = failed_differ tells o h rows table kept.known kept.failed;
    refused = refused_alike tells o h rows table kept.known kept.number kept.refused;
  }

  -- as many places as lines, which do not come to their end
  within : o.count + effects h ≤ top
  within =
      let begun : o.count < 2 ^ 63 = begins.count in
      let a = length-map course.answers (λ (x : RepliedLine). x.line) in
      let b = length_permutation lines (lines_in course) in_order.in_order.each_once in
      let c = as_many tells o h rows table kept.known in
      omega (arith, a, b, c, begun, short)

  tells_syncs : TellsSyncs before now course (syncs_of_rows rows)
  tells_syncs =
      are_syncs tells o history rows table kept.known before.clock now.clock
      (subst AreLines (sym has) rise)
      (subst (λ ls. IsOrderOf ls (answered_lines ls h)) (sym has) order)
      (subst (λ ls. AllPlaced ls history) (sym has) placed)
      kept.ranges
      within
      kept.rising
      (λ s there. let w = kept.within s there in (w.1, w.2))

  opens_so : (image : Image) → OpensAs image (course_of o []) → OpensAs image course
  opens_so image opens = record { sound = opens.sound; shape = opens.shape; next_stamp = opens.next_stamp }

  starts_so : (image : Image) → ConsistentAs image o.count o.tree → now.clock < 2 ^ 63 → OpensAsPrefix ConsistentAs (run_in course) before.clock image
  starts_so image sound young =
      starts_as (run_in course) before.clock image sound
      (λ s there.
      let w = kept.within s (subst (λ (xs : List SyncPoint). Has xs s) (ap (λ (r : Run). r.syncs) run_is) there) in
      let last = w.2 in
      ⊎_elim (λ later. inl (later (let first = w.1 in omega (arith, first, last, young)))) inr w.0)

  module _ (stops : Run → Type 0) (medium medium' : Medium) (lost worn : Bool) (charges : Charges) (counts : medium.counts ≡ before) (counts' : medium'.counts ≡ now)
      (opens : tells → OpensAs medium.contents (course_of o []))
      (leaves : tells → IsYoung medium.contents before now course → stops (record { shape = o.shape; count = o.count; tree = o.tree; calls = marked_calls o h; syncs = syncs_of h }))
      (ends : tells → IsYoung medium.contents before now course → (MediumRose medium medium' → ⊥) → worn ≡ false → ConsistentAs medium'.contents (o.count + effects h) (tree_of_history o h))
      (none_lost : tells → lost ≡ false) (worn_is : worn ≡ true → MayBeExhausted before now o.next_stamp) (charged : tells → AreCharges charges (tree_of_history o h)) where
    young_is : IsYoung medium.contents medium.counts medium'.counts course → IsYoung medium.contents before now course
    young_is = subst (λ (c : Counts × Counts). IsYoung medium.contents c.0 c.1 course) (λ k. (counts k, counts' k))

    stops_so : tells → IsYoung medium.contents before now course → CrashesLeavePrefixes medium.contents before stops course
    stops_so t young = record {
      starts = starts_so medium.contents (opens t).sound young.clock;
      leaves = subst stops (sym run_is) (leaves t young);
    }

    ends_so : tells → IsYoung medium.contents before now course → (MediumRose medium medium' → ⊥) → worn ≡ false → EndsAfterAll medium'.contents course
    ends_so t young none unworn = subst (λ (x : ℕ × Tree). ConsistentAs medium'.contents x.0 x.1) (λ k. (sym many k, tree_is k)) (ends t young none unworn)

    runs : RunsLines tells lines stops medium medium' (order_of_rows rows) (syncs_of_rows rows) worn course
    runs = record {
      opens = λ t. opens_so medium.contents (opens t);
      begins = record { count = begins.count; next_stamp = begins.next_stamp };
      order_is = in_order;
      answers = subst (λ (c : Counts × Counts). AnswersByTree tells c.0 c.1 course) (λ k. (sym counts k, sym counts' k)) by_tree;
      syncs_are = subst (λ (c : Counts × Counts). TellsSyncs c.0 c.1 course (syncs_of_rows rows)) (λ k. (sym counts k, sym counts' k)) tells_syncs;
      stopped = λ t young. subst (λ (c : Counts). CrashesLeavePrefixes medium.contents c stops course) (sym counts) (stops_so t (young_is young));
      ends = λ t young. ends_so t (young_is young);
    }

    pub lines_ran : LinesRan tells lines stops medium medium' rows lost worn charges course
    lines_ran = record {
      runs = runs;
      causes = record { lost_is = none_lost; worn_is = λ is. subst (λ (c : Counts × Counts). MayBeExhausted c.0 c.1 o.next_stamp) (λ k. (sym counts k, sym counts' k)) (worn_is is) };
      said = printed tells o h rows table kept.known;
      places = have_places tells o h rows table kept.known within;
      charged = λ t. subst (AreCharges charges) tree_is (charged t);
    }
