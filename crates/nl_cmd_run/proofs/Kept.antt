-- What a volume that stands for a history says of its course, and what closing it adds.
use Rattle.std.proofs.Common.{◌≡◌, ◌^◌, ℕ, ◌+◌, ◌-◌, ◌<◌, ◌≤◌, List, inl, inr, ⊎_elim, arith}
use Rattle.std.proofs.lemmas.Bool.{cases_lt}
use Rattle.nl_field.specs.CrashStates.{top}
use Rattle.nl_field.specs.Medium.{shape_of_image}
use Rattle.nl_field.specs.Page.{Image}
use Rattle.nl_field.specs.Virtual.{virtual_bytes}
use Rattle.nl_tree.specs.Causes.{Counts, MayBeExhausted, NeverFall, max_stamp}
use Rattle.nl_iface.specs.declared.counts.Counts.{Ghosts}
use Rattle.nl_meta.specs.Committed.{next_number}
use Rattle.nl_core.specs.Core.{begun_of}
use Rattle.nl_core.specs.declared.state.Core.{Core}
use Rattle.nl_turns.specs.History.{Opening, effects, opening_counts}
use Rattle.nl_turns.specs.declared.entry.Entry.{Entry}
use Rattle.nl_calls_steps.specs.Calls.{counts_of}
use Rattle.nl_volume.specs.Closing.{IsYoungAtEnd}
use Rattle.nl_volume_stage.specs.Standing.{RepresentsHistory}
use Rattle.nl_volume_stage.proofs.Causes.{still_cause}
use Rattle.nl_spec_headline.specs.Course.{Course, count_after}
use Rattle.nl_spec_headline.specs.Headline.{IsYoung}
use Rattle.nl_cmd_course.proofs.Whole.{HasKept}

module _ {D : Type 0} (g : Ghosts D) (origin : Core D) (o : Opening) (h : List Entry) (v : Core D) (done : ℕ) (s : RepresentsHistory g origin o h v done) (now : Counts) (later : NeverFall (counts_of g v.device) now)
    (clock : now.clock ≤ top) (writes : now.write_faults ≤ top) where
  pub has_kept : HasKept g.tells o h (opening_counts o) (counts_of g v.device) now
  has_kept = record {
    known = s.serves.known;
    marks = s.serves.marks;
    still = still_cause (opening_counts o) (counts_of g v.device) now later s.serves.since writes clock g.tells o.next_stamp;
    failed = s.numbers.past;
    number = v.stopped;
    refused = λ e n there is. (s.numbers.one e n there is).0;
    ranges = s.serves.syncs;
    rising = s.serves.moments.rising;
    within = λ x there.
        let w = s.serves.moments.within x there in
        let e = s.serves.moments.ends in
        let l = later.clock in
        let last = w.2 in
        (w.0, w.1, omega (arith, e, l, last));
  }

  -- a volume that closing finds worn has used its numbers up
  pub worn_so : 2 ^ 62 ≤ g.next_stamp v.device → MayBeExhausted (opening_counts o) now o.next_stamp
  worn_so worn = ⊎_elim (λ low. ⊎_elim (λ less. inl (used low less)) (λ full. inr (inr (omega (arith, full, writes)))) (cases_lt now.write_faults top)) (λ full. inr (inl (omega (arith, full, clock)))) (cases_lt now.clock top)
    where
      used : now.clock < top → now.write_faults < top → max_stamp ≤ o.next_stamp + (now.clock - o.clock) + (now.write_faults - o.write_faults)
      used low less =
          let c = later.clock in
          let w = later.write_faults in
          let at = s.serves.next_stamp (omega (arith, c, low)) (omega (arith, w, less)) in
          omega (arith, c, w, at, worn)

  -- the numbers of transactions have not ended
  pub young_at_end : (image : Image) (course : Course) → g.tells → count_after course ≡ o.count + effects h → begun_of origin + 1 ≡ next_number (shape_of_image image) (virtual_bytes image)
      → IsYoung image (opening_counts o) now course → IsYoungAtEnd g.tells o h (begun_of origin) now.clock
  young_at_end image course t many number young =
      let a = young.transactions in
      let b = young.places in
      let c = s.serves.since.clock in
      let l = later.clock in
      record {
        told = t;
        moments = young.clock;
        calls = omega (arith, b, many);
        numbers = omega (arith, a, number, c, l);
      }
