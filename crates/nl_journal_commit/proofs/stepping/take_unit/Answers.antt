use Rattle.std.proofs.Common.{◌≡◌, length, refl, sym, ◌∙◌}
use Rattle.nl_field.specs.declared.answers.VirtualWrite.TheVariants as write
use Rattle.nl_journal.specs.Units.{UnitIsDone}
use Rattle.nl_journal.specs.declared.answers.Unit.TheVariants as unit
use Rattle.nl_journal.proofs.FinishSteps.{done_is}
use Rattle.nl_journal.proofs.Passing.{passes_by}
use Rattle.nl_journal_commit.proofs.Standing.{writing_stands}
use Rattle.nl_journal_commit.proofs.UnitSteps.{counted_by, decided_in, done_decided, goes_by, not_commit, ticks_by, undone_fault, undone_lost, unit_waits, unit_writes, writes_by}
use Rattle.nl_journal_commit.proofs.stepping.take_unit.Goals as goal

pub returns-in-Decided : goal.returns-in-Decided
returns-in-Decided g c =
    let G = g.D.Counts in
    let s = c.args.device.now in
    let t = c.unit.new.device in
    let p = c.args.journal.now in
    let q = c.unit.new.self in
    let pages = c.args.meta.now in
    let now = c.unit.new.meta in
    let r = c.unit.result in
    let e = c.unit.ensures in
    let over : Type 0 = write.Done ≡ write.Done in
    let done = done_decided r c.in-Decided.number c.in-Decided.is in
    let to : over → UnitIsDone r = λ o. done in
    let from : UnitIsDone r → over = λ d. refl in
    let tells_page = decided_in p.phase p.number (length pages.frozen.addresses) c.in-Decided.number (sym c.in-Decided.is ∙ (e.advances.done done).0) in
    record {
      formed = e.formed;
      stands = writing_stands G s t p q pages now (g.met.D.VirtualPages.numbers s c.requires.formed) c.requires.journaled
          (unit_writes G s t p q pages now r e.passes.named.same_shape c.requires.journaled.order c.requires.some e.order e.advances e.home done);
      goes = goes_by r over p q pages now to from e.advances;
      decided = (refl, tells_page.0, tells_page.1);
      writes = λ tells numbers. writes_by G s t (UnitIsDone r) over to from p q pages now (e.writes tells numbers);
      passes = passes_by G (UnitIsDone r) over 1 s t to from e.passes;
      lost = tt;
      clock = ticks_by G s t (UnitIsDone r) over to from e.clock;
      faults = counted_by G s t (r ≡ unit.Fault) (write.Done ≡ write.Fault) (λ o. absurd (let no : ⊥ = cc in no)) (λ f. absurd (undone_fault r f done)) e.faults;
    }

pub returns-in-Lost : goal.returns-in-Lost
returns-in-Lost g c =
    let G = g.D.Counts in
    let s = c.args.device.now in
    let t = c.unit.new.device in
    let p = c.args.journal.now in
    let q = c.unit.new.self in
    let pages = c.args.meta.now in
    let now = c.unit.new.meta in
    let r = c.unit.result in
    let e = c.unit.ensures in
    let answer = write.Lost c.in-Lost.wanted c.in-Lost.found in
    let over : Type 0 = answer ≡ write.Done in
    let off = undone_lost r c.in-Lost.wanted c.in-Lost.found c.in-Lost.is in
    let to : over → UnitIsDone r = λ o. absurd (let no : ⊥ = cc in no) in
    let from : UnitIsDone r → over = λ d. absurd (off d) in
    record {
      formed = e.formed;
      stands = writing_stands G s t p q pages now (g.met.D.VirtualPages.numbers s c.requires.formed) c.requires.journaled
          (unit_waits G s t p q pages now r e.passes.named.same_shape c.requires.journaled.order c.requires.some e.order e.advances e.home off);
      goes = goes_by r over p q pages now to from e.advances;
      decided = λ o. absurd (off (to o));
      writes = λ tells numbers. writes_by G s t (UnitIsDone r) over to from p q pages now (e.writes tells numbers);
      passes = passes_by G (UnitIsDone r) over 1 s t to from e.passes;
      lost = c.in-Lost.ensures.lost;
      clock = ticks_by G s t (UnitIsDone r) over to from e.clock;
      faults = counted_by G s t (r ≡ unit.Fault) (answer ≡ write.Fault) (λ o. absurd (let no : ⊥ = cc in no)) (λ f. absurd (let w = c.in-Lost.is in let no : ⊥ = cc in no)) e.faults;
    }

pub returns-in-Fault : goal.returns-in-Fault
returns-in-Fault g c =
    let G = g.D.Counts in
    let s = c.args.device.now in
    let t = c.unit.new.device in
    let p = c.args.journal.now in
    let q = c.unit.new.self in
    let pages = c.args.meta.now in
    let now = c.unit.new.meta in
    let r = c.unit.result in
    let e = c.unit.ensures in
    let over : Type 0 = write.Fault ≡ write.Done in
    let off = undone_fault r c.in-Fault.is in
    let to : over → UnitIsDone r = λ o. absurd (let no : ⊥ = cc in no) in
    let from : UnitIsDone r → over = λ d. absurd (off d) in
    record {
      formed = e.formed;
      stands = writing_stands G s t p q pages now (g.met.D.VirtualPages.numbers s c.requires.formed) c.requires.journaled
          (unit_waits G s t p q pages now r e.passes.named.same_shape c.requires.journaled.order c.requires.some e.order e.advances e.home off);
      goes = goes_by r over p q pages now to from e.advances;
      decided = λ o. absurd (off (to o));
      writes = λ tells numbers. writes_by G s t (UnitIsDone r) over to from p q pages now (e.writes tells numbers);
      passes = passes_by G (UnitIsDone r) over 1 s t to from e.passes;
      lost = tt;
      clock = ticks_by G s t (UnitIsDone r) over to from e.clock;
      faults = counted_by G s t (r ≡ unit.Fault) (write.Fault ≡ write.Fault) (λ o. c.in-Fault.is) (λ f. refl) e.faults;
    }

pub returns-in_default : goal.returns-in_default
returns-in_default g c =
    let G = g.D.Counts in
    let s = c.args.device.now in
    let t = c.unit.new.device in
    let p = c.args.journal.now in
    let q = c.unit.new.self in
    let pages = c.args.meta.now in
    let now = c.unit.new.meta in
    let r = c.unit.result in
    let e = c.unit.ensures in
    let over : Type 0 = write.Done ≡ write.Done in
    let done = done_is r c.in_default.not-Lost c.in_default.not-Fault in
    let to : over → UnitIsDone r = λ o. done in
    let from : UnitIsDone r → over = λ d. refl in
    record {
      formed = e.formed;
      stands = writing_stands G s t p q pages now (g.met.D.VirtualPages.numbers s c.requires.formed) c.requires.journaled
          (unit_writes G s t p q pages now r e.passes.named.same_shape c.requires.journaled.order c.requires.some e.order e.advances e.home done);
      goes = goes_by r over p q pages now to from e.advances;
      decided = λ o. not_commit p.phase p.number (length pages.frozen.addresses) r (e.advances.done done).0 c.in_default.not-Decided;
      writes = λ tells numbers. writes_by G s t (UnitIsDone r) over to from p q pages now (e.writes tells numbers);
      passes = passes_by G (UnitIsDone r) over 1 s t to from e.passes;
      lost = tt;
      clock = ticks_by G s t (UnitIsDone r) over to from e.clock;
      faults = counted_by G s t (r ≡ unit.Fault) (write.Done ≡ write.Fault) (λ o. absurd (let no : ⊥ = cc in no)) (λ f. absurd (c.in_default.not-Fault f)) e.faults;
    }
