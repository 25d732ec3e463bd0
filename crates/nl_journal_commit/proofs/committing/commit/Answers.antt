use Rattle.std.proofs.Common.{◌≡◌, ◌==◌, ◌<◌, ◌^◌, ℕ, List, [], inl, inr, length, refl, sym, ◌∙◌, ap, subst, arith}
use Rattle.std.specs.List.{list_any}
use Rattle.std.specs.Prelude.{⊤}
use Rattle.nl_field.specs.CrashStates.{Turns}
use Rattle.nl_field.specs.declared.answers.VirtualWrite.TheVariants as write
use Rattle.nl_iface.specs.Calls.{CrashStatesHave}
use Rattle.nl_meta.specs.Pages.{Frozen, Pages, dirty_pages, none_frozen}
use Rattle.nl_journal.specs.Committing.{committed_on, finished_on}
use Rattle.nl_journal.specs.Left.{FinishWrites, LeavesEither, LeavesOne}
use Rattle.nl_journal.specs.Progress.{HasNumber, IsPhase, begun, raised}
use Rattle.nl_journal.specs.Units.{Finishes}
use Rattle.nl_journal.specs.declared.answers.Phase.{Phase}
use Rattle.nl_journal.proofs.CommitSteps.{begun_header, begun_none, commit_failed, commit_then, dirty_writes, unraised}
use Rattle.nl_journal.proofs.FinishSteps.{all_finished}
use Rattle.nl_journal.proofs.Passing.{counted_then, none_failed, passes_most, passes_then}
use Rattle.nl_journal_commit.specs.Committing.{ChangesAt, EarlierAt}
use Rattle.nl_journal_commit.specs.Completing.{Completes, DecidesAt, IsDecided, StillAwaitsCommitPage}
use Rattle.nl_journal_commit.specs.Counting.{record_of, with_count, with_frozen}
use Rattle.nl_journal_commit.specs.Standing.{IsJournaled, PreservesGraph}
use Rattle.nl_field.specs.SuperPage.{super_bytes}
use Rattle.nl_journal_commit.proofs.CommittingSteps.{changes_stops, done_later, earlier_by, earlier_stops, first_is_dirty, frozen_none, if_some, is_decided_by, stopped_stops}
use Rattle.nl_journal_commit.proofs.Paid.{paid_then, part_paid}
use Rattle.nl_journal_commit.proofs.PartSteps.{stands_frozen}
use Rattle.nl_journal_commit.proofs.Standing.{changes_can_freeze, stands_then, super_page_stands}
use Rattle.nl_journal_commit.proofs.committing.commit.Goals as goal

pub complete-first-requires-clause-journaled : goal.complete-first-requires-clause-journaled
complete-first-requires-clause-journaled g c =
    let G = g.D.Counts in
    let s = c.args.device.now in
    let p = c.args.journal.now in
    let stored = super_page_stands G s p c.args.meta.now (super_bytes (record_of c.args.shape.now c.args.count)) (g.met.D.VirtualPages.numbers s c.requires.formed) c.requires.journaled in
    subst (λ (n : Pages). IsJournaled G s p n) (sym c.store_count.ensures) stored.journaled

pub commit_changes-rest-requires-clause-changes : goal.commit_changes-rest-requires-clause-changes
commit_changes-rest-requires-clause-changes g c =
    let G = g.D.Counts in
    let s = c.args.device.now in
    let m = c.complete-first.new.device in
    let p = c.args.journal.now in
    let q = c.complete-first.new.journal in
    let pages = with_count c.args.shape.now c.args.count c.args.meta.now in
    let mid = c.complete-first.new.meta in
    let is = c.store_count.ensures in
    let e = c.complete-first.ensures in
    let D1 = c.complete-first.result.answer ≡ write.Done in
    let volume = g.met.D.VirtualPages.numbers s c.requires.formed in
    let first : Finishes 0 D1 p q pages mid = subst (λ (n : Pages). Finishes 0 D1 p q n mid) is e.finishes in
    let running : mid.running ≡ pages.running = ap (λ (n : Pages). n.running) first.kept in
    let dirty : mid.dirty ≡ pages.dirty = ap (λ (n : Pages). n.dirty) first.kept in
    let ends = all_finished q.phase mid.frozen e.stands.journaled.order.phase (first.left c.in-Done.is) in
    let none : mid.frozen ≡ none_frozen = frozen_none mid.frozen ends.1 c.stands.ensures.frozen_images in
    let can = changes_can_freeze G m q mid e.stands.journaled c.stands.ensures (ap (λ (xs : List ℕ). list_any (λ a. a == 0) xs) dirty ∙ first_is_dirty c.args.meta.now.dirty) ends.0 none in
    can

pub returns-in-Done : goal.returns-in-Done
returns-in-Done g c =
    let G = g.D.Counts in
    let s = c.args.device.now in
    let m = c.complete-first.new.device in
    let p = c.args.journal.now in
    let q = c.complete-first.new.journal in
    let pages = with_count c.args.shape.now c.args.count c.args.meta.now in
    let mid = c.complete-first.new.meta in
    let is = c.store_count.ensures in
    let e = c.complete-first.ensures in
    let D1 = c.complete-first.result.answer ≡ write.Done in
    let volume = g.met.D.VirtualPages.numbers s c.requires.formed in
    let first : Finishes 0 D1 p q pages mid = subst (λ (n : Pages). Finishes 0 D1 p q n mid) is e.finishes in
    let running : mid.running ≡ pages.running = ap (λ (n : Pages). n.running) first.kept in
    let dirty : mid.dirty ≡ pages.dirty = ap (λ (n : Pages). n.dirty) first.kept in
    let t = c.commit_changes-rest.new.device in
    let r = c.commit_changes-rest.new.journal in
    let now = c.commit_changes-rest.new.meta in
    let f = c.commit_changes-rest.ensures in
    let over = c.commit_changes-rest.result.answer ≡ write.Done in
    let ends = all_finished q.phase mid.frozen e.stands.journaled.order.phase (first.left c.in-Done.is) in
    let none : mid.frozen ≡ none_frozen = frozen_none mid.frozen ends.1 c.stands.ensures.frozen_images in
    let can = changes_can_freeze G m q mid e.stands.journaled c.stands.ensures (ap (λ (xs : List ℕ). list_any (λ a. a == 0) xs) dirty ∙ first_is_dirty c.args.meta.now.dirty) ends.0 none in
    let number : q.number ≡ begun p (length pages.frozen.addresses) = sym (begun_none q.phase q.number (length mid.frozen.addresses) ends.0 (ap length ends.1)) ∙ first.begun_stays in
    let starts : begun q (length mid.dirty) ≡ raised q.number = begun_header q.phase q.number (length mid.dirty) ends.0 can.dirty.pages.some in
    let number_q = λ (n : HasNumber r (length now.frozen.addresses)). (let below : HasNumber q (length mid.dirty) = subst (λ k. k < 9223372036854775808) f.finishes.begun_stays n in below) in
    let raises = λ (n : HasNumber r (length now.frozen.addresses)). (let below : raised q.number < 2 ^ 63 = subst (λ k. k < 9223372036854775808) starts (number_q n) in below) in
    let number_p = λ (n : HasNumber r (length now.frozen.addresses)). (let below : HasNumber p (length pages.frozen.addresses) = subst (λ k. k < 9223372036854775808) number (unraised q.number (raises n)) in below) in
    let wrote = λ (tells : G.tells) (n : HasNumber r (length now.frozen.addresses)). subst (λ (x : Pages). HasNumber p (length x.frozen.addresses) → FinishWrites G D1 p q x mid s m) is (e.writes tells) (number_p n) in
    let same = e.passes.named.same_shape in
    let fewer = λ (tells : G.tells). none_failed G D1 256 s m tells c.in-Done.is e.passes in
    record {
      formed = f.formed;
      stands =
          let stored = super_page_stands G s p c.args.meta.now (super_bytes (record_of c.args.shape.now c.args.count)) volume c.requires.journaled in
          let firsts = stands_then G s s m p q c.args.meta.now pages mid volume refl stored (subst (λ (n : Pages). PreservesGraph G s n m q mid) is e.stands) in
          stands_then G s m t q r c.args.meta.now mid now volume e.passes.named.same_shape firsts f.stands;
      commits = record {
        in_memory = record {
          ends = λ d.
              let last = all_finished r.phase now.frozen f.stands.journaled.order.phase (f.finishes.left d) in
              record {
                next = refl;
                kept = sym (begun_none r.phase r.number (length now.frozen.addresses) last.0 (ap length last.1)) ∙ (f.finishes.begun_stays ∙ (starts ∙ ap raised number));
                idle = last.0;
                thawed = last.1;
                clean = ap (λ (n : Pages). n.dirty) f.finishes.kept;
              };
          waits = λ off. inr (f.finishes.kept ∙ (ap (λ (x : Frozen). record mid { dirty = []; frozen = x }) (f.finishes.waits off) ∙ ap (λ (n : Pages). record n { dirty = []; frozen = dirty_pages n }) first.kept));
          running = ap (λ (n : Pages). n.running) f.finishes.kept ∙ running;
        };
        parts = record {
          between = m;
          halfway = q;
          rest = mid;
          answer = c.complete-first.result.answer;
          first = subst (λ (n : Pages). Completes G D1 s p n m q mid) is
              (record { same_shape = e.passes.named.same_shape; tables = e.passes.named.tables; stands = e.stands; finishes = e.finishes; writes = e.writes });
          first_decided = subst (λ (n : Pages). IsDecided c.complete-first.result.decided p q n.frozen mid.frozen) is (is_decided_by G s m p q c.store_count.new.meta mid.frozen c.complete-first.result.decided e.decided);
          second = inr (
            refl,
            c.stands.ensures,
            can,
            record {
              same_shape = f.passes.named.same_shape;
              tables = f.passes.named.tables;
              stands = stands_frozen G m mid t r now f.stands;
              finishes = f.finishes;
              writes = f.writes;
            },
            is_decided_by G m t q r (with_frozen mid) now.frozen c.commit_changes-rest.result.decided f.decided,
          );
        };
        paid = paid_then (G.clock s) p.number (G.clock m) q.number (G.clock t) r.number f.clock
            (part_paid G s m p q c.store_count.new.meta mid.frozen e.clock (subst (λ (n : Pages). IsPhase p.phase (length n.frozen.addresses)) (sym is) c.requires.journaled.order.phase)
            e.finishes.number e.finishes.begun_stays c.complete-first.result.decided e.decided)
            (part_paid G m t q r (with_frozen mid) now.frozen f.clock (subst (λ (x : Phase). IsPhase x (length mid.dirty)) (sym ends.0) tt)
            f.finishes.number f.finishes.begun_stays c.commit_changes-rest.result.decided f.decided);
      };
      earlier = if_some (StillAwaitsCommitPage p q c.store_count.new.meta.frozen mid.frozen) (DecidesAt G s m p q c.store_count.new.meta mid.frozen) (EarlierAt G s t p r pages now) c.complete-first.result.decided e.decided (λ at d. record {
        later = d.later;
        from = d.from;
        to = let a = d.to in let b = f.clock in omega (arith, a, b);
        stops = λ tells numbers.
            earlier_stops G s m t p q r pages mid now same (fewer tells) ends.0 ends.1 running dirty D1 c.in-Done.is (wrote tells numbers) over at
            (subst (λ (n : Pages). HasNumber p (length n.frozen.addresses) → CrashStatesHave G (Turns ⊤ at (LeavesEither G s (committed_on G s) (finished_on G s p n)) (LeavesOne G s (finished_on G s p n))) s m) is (d.stops tells) (number_p numbers))
            (f.writes tells (number_q numbers)).left.stops;
      });
      decided = if_some (StillAwaitsCommitPage q r (dirty_pages mid) now.frozen) (DecidesAt G m t q r (with_frozen mid) now.frozen) (ChangesAt G s t p r pages now) c.commit_changes-rest.result.decided f.decided (λ at d. record {
        later = earlier_by (G.clock s) (G.clock m) at e.clock d.later d.from;
        from = let a = e.clock in let b = d.from in omega (arith, a, b);
        to = d.to;
        stops = λ tells numbers.
            changes_stops G s m t p q r pages mid now same (fewer tells) ends.0 ends.1 running dirty D1 c.in-Done.is (wrote tells numbers) at d.later d.from (d.stops tells (number_q numbers));
      });
      writes = λ tells numbers.
          commit_then G D1 over s m t p q r pages mid now c.in-Done.is same (fewer tells) ends.0 ends.1 number running dirty (wrote tells numbers)
          (dirty_writes G over m t q r mid now ends.0 can.dirty.pages.some (ap (λ (n : Pages). n.dirty) f.finishes.kept) (raises numbers) (f.writes tells (number_q numbers)))
          (λ o. done_later G m t q r mid now c.commit_changes-rest.result.decided ends.0 can.dirty.pages.some f.decided (f.finishes.left o));
      passes = passes_then G s m t e.faults.writes_never_fall f.faults.writes_never_fall D1 over 256 256 c.in-Done.is f.clock e.passes f.passes;
      lost = f.lost;
      clock = let a = e.clock in let b = f.clock in omega (arith, a, b);
      faults = counted_then G s m t e.faults.writes_never_fall f.faults.writes_never_fall (c.complete-first.result.answer ≡ write.Fault) (c.commit_changes-rest.result.answer ≡ write.Fault) (λ fault. cc) e.passes.named.clean e.faults f.faults;
    }

pub returns-in_default : goal.returns-in_default
returns-in_default g c =
    let G = g.D.Counts in
    let s = c.args.device.now in
    let m = c.complete-first.new.device in
    let p = c.args.journal.now in
    let q = c.complete-first.new.journal in
    let pages = with_count c.args.shape.now c.args.count c.args.meta.now in
    let mid = c.complete-first.new.meta in
    let is = c.store_count.ensures in
    let e = c.complete-first.ensures in
    let D1 = c.complete-first.result.answer ≡ write.Done in
    let volume = g.met.D.VirtualPages.numbers s c.requires.formed in
    let first : Finishes 0 D1 p q pages mid = subst (λ (n : Pages). Finishes 0 D1 p q n mid) is e.finishes in
    let running : mid.running ≡ pages.running = ap (λ (n : Pages). n.running) first.kept in
    let dirty : mid.dirty ≡ pages.dirty = ap (λ (n : Pages). n.dirty) first.kept in
    let off : D1 → ⊥ = c.in_default.not-Done in
    let stored = super_page_stands G s p c.args.meta.now (super_bytes (record_of c.args.shape.now c.args.count)) volume c.requires.journaled in
    record {
      formed = e.formed;
      stands = stands_then G s s m p q c.args.meta.now pages mid volume refl stored (subst (λ (n : Pages). PreservesGraph G s n m q mid) is e.stands);
      commits = record {
        in_memory = record { ends = λ d. absurd (off d); waits = λ o. inl (first.kept ∙ ap (λ (x : Frozen). record pages { frozen = x }) (first.waits o)); running = running };
        parts = record {
          between = m;
          halfway = q;
          rest = mid;
          answer = c.complete-first.result.answer;
          first = subst (λ (n : Pages). Completes G D1 s p n m q mid) is
              (record { same_shape = e.passes.named.same_shape; tables = e.passes.named.tables; stands = e.stands; finishes = e.finishes; writes = e.writes });
          first_decided = subst (λ (n : Pages). IsDecided c.complete-first.result.decided p q n.frozen mid.frozen) is (is_decided_by G s m p q c.store_count.new.meta mid.frozen c.complete-first.result.decided e.decided);
          second = inl (refl, off, refl, refl, refl, refl);
        };
        paid = part_paid G s m p q c.store_count.new.meta mid.frozen e.clock (subst (λ (n : Pages). IsPhase p.phase (length n.frozen.addresses)) (sym is) c.requires.journaled.order.phase)
            e.finishes.number e.finishes.begun_stays c.complete-first.result.decided e.decided;
      };
      earlier = if_some (StillAwaitsCommitPage p q c.store_count.new.meta.frozen mid.frozen) (DecidesAt G s m p q c.store_count.new.meta mid.frozen) (EarlierAt G s m p q pages mid) c.complete-first.result.decided e.decided (λ at d. record {
        later = d.later;
        from = d.from;
        to = d.to;
        stops = λ tells numbers. stopped_stops G s m p pages at
            (subst (λ (n : Pages). HasNumber p (length n.frozen.addresses) → CrashStatesHave G (Turns ⊤ at (LeavesEither G s (committed_on G s) (finished_on G s p n)) (LeavesOne G s (finished_on G s p n))) s m) is (d.stops tells)
            (subst (λ n. n < 9223372036854775808) first.begun_stays numbers));
      });
      decided = tt;
      writes = λ tells numbers. commit_failed G D1 D1 s m p q pages mid off running dirty
          (subst (λ (n : Pages). HasNumber p (length n.frozen.addresses) → FinishWrites G D1 p q n mid s m) is (e.writes tells) (subst (λ n. n < 9223372036854775808) first.begun_stays numbers));
      passes = passes_most G D1 256 512 s m (omega arith) e.passes;
      lost = e.lost;
      clock = e.clock;
      faults = e.faults;
    }
