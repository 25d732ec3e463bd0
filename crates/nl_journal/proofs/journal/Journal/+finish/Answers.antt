use Rattle.std.proofs.Common.{◌≡◌, inl, inr, ⊎_elim, ◌+◌, ◌<◌, length, sym, ◌∙◌, ap, subst, arith}
use Rattle.nl_field.specs.declared.answers.VirtualWrite.TheVariants as write
use Rattle.nl_meta.specs.Pages.{Frozen, Pages, none_frozen}
use Rattle.nl_field.specs.declared.shape.Shape.{Shape}
use Rattle.nl_journal.specs.Homes.{BringsHome}
use Rattle.nl_journal.specs.Outcomes.{bytes_of}
use Rattle.nl_journal.specs.Passes.{ChangesAddressesOnly}
use Rattle.nl_journal.specs.Progress.{IsPhase, units_left}
use Rattle.nl_journal.specs.Units.{UnitIsDone, frozen_after}
use Rattle.nl_journal.specs.declared.answers.Unit.TheVariants as unit
use Rattle.nl_journal.proofs.Finishing.{after_either, few_left, more_left, phase_of_none}
use Rattle.nl_journal.proofs.FinishSteps.{begun_step, done_is, frozen_waits, no_addresses, number_step, some_frozen, units_step, writes_failed, writes_none, writes_step}
use Rattle.nl_journal.proofs.HomeWrites.{home_failed, home_step}
use Rattle.nl_journal.proofs.Passing.{counted_then, none_failed, passes_by, passes_most, passes_then}
use Rattle.nl_journal.proofs.journal.Journal.+finish.Goals as goal

pub returns-then-left-until-clause-writes : goal.returns-then-left-until-clause-writes
returns-then-left-until-clause-writes g m c t numbers =
    let s = c.args.device.now in
    let frozen = c.args.meta.now.frozen in
    let few = few_left c.args.self.now.phase (length frozen.addresses) c.requires.order.phase (let e = c.left.ensures in let le = c.if-left-until.true in let most = c.requires.until in omega (arith, e, le, most)) in
    writes_none g.D.Counts (write.Done ≡ write.Done) s c.args.self.now c.args.meta.now (g.met.D.VirtualPages.numbers s c.requires.formed) c.requires.order
    (⊎_elim (λ none. inl (none.0, no_addresses frozen.addresses none.1)) (λ decided. inr decided) few)
    (g.met.D.VirtualPages.stores s t c.requires.formed) t numbers

pub returns-in-Fault-clause-writes : goal.returns-in-Fault-clause-writes
returns-in-Fault-clause-writes g m c t numbers =
    let waits = c.in-Fault.ensures.advances.waits (λ d. d) in
    writes_failed g.D.Counts (write.Fault ≡ write.Done) c.args.device.now c.unit.new.device c.args.self.now c.unit.new.self c.args.meta.now c.unit.new.meta (λ o. cc) waits.0 waits.1 ⊥ (λ d. d)
    (c.in-Fault.ensures.writes t numbers) c.in-Fault.ensures.passes.named.same_shape

pub returns-in-Fault-clause-home : goal.returns-in-Fault-clause-home
returns-in-Fault-clause-home g m c t =
    let G = g.D.Counts in
    let waits = c.in-Fault.ensures.advances.waits (λ d. d) in
    home_failed (G.shape c.args.device.now).vaddrs c.args.self.now c.unit.new.self c.args.meta.now.frozen c.unit.new.meta.frozen (bytes_of (G.map c.args.device.now)) (bytes_of (G.map c.unit.new.device))
    waits.0 (ap (λ (n : Pages). n.frozen) waits.1) ((c.in-Fault.ensures.home t).waits (λ d. d))

pub returns-in-Fault-clause-passes : goal.returns-in-Fault-clause-passes
returns-in-Fault-clause-passes g m c =
    let old = c.args.device.now in
    let new = c.unit.new.device in
    let units = units_left c.args.self.now.phase (length c.args.meta.now.frozen.addresses) in
    passes_by g.D.Counts ⊥ (write.Fault ≡ write.Done) units old new (λ o. cc) (λ d. absurd d)
    (passes_most g.D.Counts ⊥ 1 units old new (let e = c.left.ensures in let ne = c.if-left-until.false in omega (arith, e, ne)) c.in-Fault.ensures.passes)

pub returns-in_default : goal.returns-in_default
returns-in_default g m c =
    let G = g.D.Counts in
    let old = c.args.device.now in
    let mid = c.unit.new.device in
    let new = c.finish.new.device in
    let p = c.args.self.now in
    let q = c.unit.new.self in
    let r = c.finish.new.self in
    let pages = c.args.meta.now in
    let mid_pages = c.unit.new.meta in
    let new_pages = c.finish.new.meta in
    let e = c.unit.ensures in
    let f = c.finish.ensures in
    let done = done_is c.unit.result c.in_default.not-Lost c.in_default.not-Fault in
    let goes = e.advances.done done in
    let after : mid_pages.frozen ≡ frozen_after p.phase pages.frozen = ap (λ (n : Pages). n.frozen) goes.2 in
    let left = c.left.ensures in
    let more = c.if-left-until.false in
    let some = some_frozen p.phase (length pages.frozen.addresses) c.requires.order.phase (λ none. omega (arith, left, more, none)) in
    let begun_same = begun_step p q pages mid_pages some goes.1 goes.2 in
    let units_same = units_step p q pages mid_pages c.requires.order.phase some goes.1 goes.2 in
    record {
      formed = f.formed;
      order = f.order;
      finishes = record {
        left = f.finishes.left;
        more = f.finishes.more;
        fewer = let rest = f.finishes.fewer in omega (arith, rest, units_same);
        begun_stays = f.finishes.begun_stays ∙ begun_same;
        number = number_step p q r pages mid_pages goes.1 begun_same f.finishes.number;
        kept = f.finishes.kept ∙ ap (λ (n : Pages). record n { frozen = new_pages.frozen }) goes.2;
        waits = λ off. f.finishes.waits off ∙ (after ∙ frozen_waits p.phase pages.frozen (λ none. off (f.finishes.none (ap (λ (x : Frozen). x.addresses) (after ∙ none)))));
        frozen = ⊎_elim
            (λ same. ⊎_elim
            (λ stays. inl (same ∙ (after ∙ stays)))
            (λ gone. let none : new_pages.frozen ≡ none_frozen = same ∙ (after ∙ gone) in
            inr (phase_of_none r.phase (subst (λ n. IsPhase r.phase n) (ap (λ (x : Frozen). length x.addresses) none) f.order.phase), none)) (after_either p.phase pages.frozen))
            (λ gone. inr gone) f.finishes.frozen;
        none = λ empty. let e = ap length empty in absurd (omega (arith, some, e));
      };
      writes = λ t numbers.
          writes_step G old mid new p pages e.passes.named.same_shape (none_failed G (UnitIsDone c.unit.result) 1 old mid t done e.passes) (UnitIsDone c.unit.result) (c.finish.result ≡ write.Done) q r mid_pages new_pages done
          c.requires.order.phase some goes.1 goes.2 (e.writes t numbers) (f.writes t (subst (λ n. n < 9223372036854775808) (sym begun_same) numbers))
          (λ o before undecided. f.clock.later (o, more_left p.phase q.phase pages.frozen mid_pages.frozen c.args.until some c.requires.until e.order.phase after before undecided));
      home = λ t. home_step (G.shape old).vaddrs pages.frozen new_pages.frozen r (bytes_of (G.map old)) (bytes_of (G.map mid)) (bytes_of (G.map new)) (UnitIsDone c.unit.result) done (c.requires.order.pages some)
          p q mid_pages.frozen goes.1 after (e.home t)
          (subst (λ (h : Shape). BringsHome h.vaddrs q r mid_pages.frozen new_pages.frozen (bytes_of (G.map mid)) (bytes_of (G.map new))) e.passes.named.same_shape (f.home t));
      passes = subst (λ n. ChangesAddressesOnly G (c.finish.result ≡ write.Done) n old new) (let one : 1 + units_left q.phase (length mid_pages.frozen.addresses) ≡ units_left p.phase (length pages.frozen.addresses) = omega (arith, units_same) in one)
          (passes_then G old mid new e.faults.writes_never_fall f.faults.writes_never_fall (UnitIsDone c.unit.result) (c.finish.result ≡ write.Done) 1 (units_left q.phase (length mid_pages.frozen.addresses)) done f.clock.clock e.passes f.passes);
      lost = f.lost;
      clock = record { clock = (let a = e.clock.clock in let b = f.clock.clock in omega (arith, a, b)); later = λ o below. let less = e.clock.later done below in let b = f.clock.clock in omega (arith, less, b) };
      faults = counted_then G old mid new e.faults.writes_never_fall f.faults.writes_never_fall (c.unit.result ≡ unit.Fault) (c.finish.result ≡ write.Fault) c.in_default.not-Fault e.passes.named.clean e.faults f.faults;
    }
