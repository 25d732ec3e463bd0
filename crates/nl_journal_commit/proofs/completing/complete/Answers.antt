use Rattle.std.proofs.Common.{◌≡◌, ℕ, ⊎_elim, ◌+◌, ◌<◌, length, refl, sym, ◌∙◌, subst, arith}
use Rattle.std.specs.Prelude.{⊤}
use Rattle.nl_field.specs.CrashStates.{Earlier, Turns}
use Rattle.nl_field.specs.declared.answers.VirtualWrite.TheVariants as write
use Rattle.nl_iface.specs.Calls.{CrashStatesHave}
use Rattle.nl_journal.specs.Committing.{committed_on, finished_on}
use Rattle.nl_journal.specs.Left.{LeavesEither, LeavesOne}
use Rattle.nl_journal.specs.Progress.{begun, units_left}
use Rattle.nl_journal.proofs.FinishSteps.{few_units}
use Rattle.nl_journal.proofs.Passing.{none_failed, passes_most, passes_then}
use Rattle.nl_journal_commit.proofs.CompletingSteps.{closed_by, closed_number, closed_pages, complete_stops, complete_then, few_of, open_still, writes_frozen}
use Rattle.nl_journal_commit.proofs.Standing.{stands_then, writing_stands}
use Rattle.nl_journal_commit.proofs.completing.complete.Goals as goal

pub returns-then-left-pages-clause-stands : goal.returns-then-left-pages-clause-stands
returns-then-left-pages-clause-stands g c =
    let G = g.D.Counts in
    let s = c.args.device.now in
    let t = c.finish-answer.new.device in
    let e = c.finish-answer.ensures in
    writing_stands G s t c.args.journal.now c.finish-answer.new.self c.args.meta.now c.finish-answer.new.meta (g.met.D.VirtualPages.numbers s c.requires.formed) c.requires.journaled
    (writes_frozen G s t c.args.journal.now c.finish-answer.new.self c.args.meta.now c.finish-answer.new.meta 0 (c.finish-answer.result ≡ write.Done) e.passes.named.same_shape e.order e.finishes e.home)

pub returns-in-Done-clause-stands : goal.returns-in-Done-clause-stands
returns-in-Done-clause-stands g c =
    let G = g.D.Counts in
    let s = c.args.device.now in
    let m = c.finish.new.device in
    let t = c.finish-answer-in-Done.new.device in
    let p = c.args.journal.now in
    let q = c.finish.new.self in
    let r = c.finish-answer-in-Done.new.self in
    let pages = c.args.meta.now in
    let mid = c.finish.new.meta in
    let now = c.finish-answer-in-Done.new.meta in
    let e = c.finish.ensures in
    let f = c.finish-answer-in-Done.ensures in
    let first = writing_stands G s m p q pages mid (g.met.D.VirtualPages.numbers s c.requires.formed) c.requires.journaled
    (writes_frozen G s m p q pages mid c.frozen_len-pages.result (c.finish.result ≡ write.Done) e.passes.named.same_shape e.order e.finishes e.home) in
    stands_then G s m t q r pages mid now (g.met.D.VirtualPages.numbers s c.requires.formed) e.passes.named.same_shape first
    (writing_stands G m t q r mid now (g.met.D.VirtualPages.numbers m e.formed) first.journaled
    (writes_frozen G m t q r mid now 0 (c.finish-answer-in-Done.result ≡ write.Done) f.passes.named.same_shape f.order f.finishes f.home))

pub returns-in-Done-clause-decided : goal.returns-in-Done-clause-decided
returns-in-Done-clause-decided g c =
    let G = g.D.Counts in
    let s = c.args.device.now in
    let m = c.finish.new.device in
    let t = c.finish-answer-in-Done.new.device in
    let p = c.args.journal.now in
    let q = c.finish.new.self in
    let r = c.finish-answer-in-Done.new.self in
    let pages = c.args.meta.now in
    let mid = c.finish.new.meta in
    let now = c.finish-answer-in-Done.new.meta in
    let e = c.finish.ensures in
    let f = c.finish-answer-in-Done.ensures in
    let count = c.frozen_len-pages.ensures.count in
    let closed = closed_by q.phase mid.frozen e.order.phase (few_of q mid.frozen pages.frozen c.frozen_len-pages.result c.frozen_len-pages.ensures.count (e.finishes.left c.in-Done.is) e.finishes.frozen) in
    let number : q.number ≡ begun p (length pages.frozen.addresses) = sym (closed_number q mid.frozen closed) ∙ e.finishes.begun_stays in
    let at = c.clock-moment.ensures in
    let a = e.clock.clock in
    let b = f.clock.clock in
    let more = c.if-left-pages.false in
    let units = c.left.ensures in
    let few = few_of q mid.frozen pages.frozen c.frozen_len-pages.result count (e.finishes.left c.in-Done.is) e.finishes.frozen in
    let rest = f.finishes.fewer in
    let few_r = few_of r now.frozen mid.frozen (length mid.frozen.addresses) refl (omega (arith, few, rest)) f.finishes.frozen in
    record {
      was_open = omega (arith, more, units, count);
      is_shut = λ opens. let no : ⊥ = omega (arith, few_r, opens) in no;
      number = ⊎_elim (λ same. same ∙ number) (λ all. all ∙ e.finishes.begun_stays) f.finishes.number;
      later = subst (λ (k : ℕ). Earlier (G.clock s) k) (sym at) (e.clock.later (c.in-Done.is, omega (arith, more, units)));
      from = omega (arith, at, a);
      to = omega (arith, at, b);
      stops = λ tells numbers. subst (λ (k : ℕ). CrashStatesHave G (Turns ⊤ k (LeavesEither G s (committed_on G s) (finished_on G s p pages)) (LeavesOne G s (finished_on G s p pages))) s t) (sym at)
          (complete_stops G s m t p q r pages mid now e.passes.named.same_shape (none_failed G (c.finish.result ≡ write.Done) (units_left p.phase (length pages.frozen.addresses)) s m tells c.in-Done.is e.passes)
          (c.finish.result ≡ write.Done) (c.finish-answer-in-Done.result ≡ write.Done) c.in-Done.is
          (closed_pages q.phase mid.frozen (committed_on G m) (G.shape s).vaddrs closed) (e.writes tells numbers) (f.writes tells (subst (λ n. n < 9223372036854775808) (sym e.finishes.begun_stays) numbers)));
    }

pub returns-in-Done-clause-writes : goal.returns-in-Done-clause-writes
returns-in-Done-clause-writes g c tells numbers =
    let G = g.D.Counts in
    let s = c.args.device.now in
    let m = c.finish.new.device in
    let t = c.finish-answer-in-Done.new.device in
    let p = c.args.journal.now in
    let q = c.finish.new.self in
    let r = c.finish-answer-in-Done.new.self in
    let pages = c.args.meta.now in
    let mid = c.finish.new.meta in
    let now = c.finish-answer-in-Done.new.meta in
    let e = c.finish.ensures in
    let f = c.finish-answer-in-Done.ensures in
    let closed = closed_by q.phase mid.frozen e.order.phase (few_of q mid.frozen pages.frozen c.frozen_len-pages.result c.frozen_len-pages.ensures.count (e.finishes.left c.in-Done.is) e.finishes.frozen) in
    let number : q.number ≡ begun p (length pages.frozen.addresses) = sym (closed_number q mid.frozen closed) ∙ e.finishes.begun_stays in
    complete_then G s m t p q r pages mid now e.passes.named.same_shape (none_failed G (c.finish.result ≡ write.Done) (units_left p.phase (length pages.frozen.addresses)) s m tells c.in-Done.is e.passes)
    (c.finish.result ≡ write.Done) (c.finish-answer-in-Done.result ≡ write.Done) c.in-Done.is
    (closed_pages q.phase mid.frozen (committed_on G m) (G.shape s).vaddrs closed) (e.writes tells numbers) (f.writes tells (subst (λ n. n < 9223372036854775808) (sym e.finishes.begun_stays) numbers))
    number e.finishes.begun_stays

pub returns-in-Done-clause-passes : goal.returns-in-Done-clause-passes
returns-in-Done-clause-passes g c =
    let G = g.D.Counts in
    let s = c.args.device.now in
    let m = c.finish.new.device in
    let t = c.finish-answer-in-Done.new.device in
    let p = c.args.journal.now in
    let q = c.finish.new.self in
    let pages = c.args.meta.now in
    let mid = c.finish.new.meta in
    let e = c.finish.ensures in
    let f = c.finish-answer-in-Done.ensures in
    let units = few_units p.phase pages.frozen (G.shape s).vaddrs c.requires.journaled.order.phase c.requires.journaled.order.pages in
    let left = e.finishes.left c.in-Done.is in
    let most = c.frozen_len-pages.ensures.most in
    passes_most G (c.finish-answer-in-Done.result ≡ write.Done) (units_left p.phase (length pages.frozen.addresses) + units_left q.phase (length mid.frozen.addresses)) 256 s t (omega (arith, units, left, most))
    (passes_then G s m t e.faults.writes_never_fall f.faults.writes_never_fall (c.finish.result ≡ write.Done) (c.finish-answer-in-Done.result ≡ write.Done) (units_left p.phase (length pages.frozen.addresses)) (units_left q.phase (length mid.frozen.addresses)) c.in-Done.is f.clock.clock e.passes f.passes)

pub returns-in_default : goal.returns-in_default
returns-in_default g c =
    let G = g.D.Counts in
    let s = c.args.device.now in
    let t = c.finish.new.device in
    let p = c.args.journal.now in
    let q = c.finish.new.self in
    let pages = c.args.meta.now in
    let now = c.finish.new.meta in
    let e = c.finish.ensures in
    let off : c.finish.result ≡ write.Done → ⊥ = c.in_default.not-Done in
    let units = few_units p.phase pages.frozen (G.shape s).vaddrs c.requires.journaled.order.phase c.requires.journaled.order.pages in
    let count = c.frozen_len-pages.ensures.count in
    let more = e.finishes.more off in
    record {
      formed = e.formed;
      stands = writing_stands G s t p q pages now (g.met.D.VirtualPages.numbers s c.requires.formed) c.requires.journaled
          (writes_frozen G s t p q pages now c.frozen_len-pages.result (c.finish.result ≡ write.Done) e.passes.named.same_shape e.order e.finishes e.home);
      finishes = record {
        left = λ d. absurd (off d);
        more = λ o. omega (arith, more);
        begun_stays = e.finishes.begun_stays;
        number = e.finishes.number;
        kept = e.finishes.kept;
        waits = e.finishes.waits;
        frozen = e.finishes.frozen;
        none = e.finishes.none;
        fewer = e.finishes.fewer;
      };
      decided = λ was. open_still p q pages now c.frozen_len-pages.result (c.finish.result ≡ write.Done) off count e.finishes;
      writes = e.writes;
      passes = passes_most G (c.finish.result ≡ write.Done) (units_left p.phase (length pages.frozen.addresses)) 256 s t (omega (arith, units)) e.passes;
      lost = e.lost;
      clock = e.clock.clock;
      faults = e.faults;
    }
