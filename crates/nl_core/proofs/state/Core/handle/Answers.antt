use Rattle.std.proofs.Common.{◌≡◌, ℕ, ◌+◌, ◌∙◌, Option, Some, ap, subst, arith}
use Rattle.std.specs.Prelude.{IfNone}
use Rattle.nl_tree.specs.declared.turn.DutyAnswer.TheVariants as duty
use Rattle.nl_core_callbacks.specs.declared.draining.Drained.{Drained}
use Rattle.nl_core_callbacks.specs.declared.draining.Drained.TheVariants as drained
use Rattle.nl_core.specs.Core.{begun_of, names_of}
use Rattle.nl_core.specs.Handling.{CallbackIsPending}
use Rattle.nl_core.proofs.HandledNumber.{handled_done, handles_then, lost_other, pending_some}
use Rattle.nl_core.proofs.Onward.{cause_then, goes_more, goes_then}
use Rattle.nl_core.proofs.state.Core.handle.Goals as goal

nothing_fault : duty.Nothing ≡ duty.Fault → ⊥
nothing_fault e = cc

did_fault : duty.Did ≡ duty.Fault → ⊥
did_fault e = cc

lost_fault : (wanted found : ℕ) → duty.Lost wanted found ≡ duty.Fault → ⊥
lost_fault wanted found e = cc

pub returns-in-None-clause-faults : goal.returns-in-None-clause-faults
returns-in-None-clause-faults g c is = absurd (nothing_fault is)

pub returns-in-Some-Done-clause-handles : goal.returns-in-Some-Done-clause-handles
returns-in-Some-Done-clause-handles g c =
    let G = g.D.Counts in
    let v = c.args.self.now in
    let u = c.handle_once.new.self in
    let is : c.handle_once.result ≡ Some drained.Done = c.in-Some-Done.is ∙ ap (λ (d : Drained). Some d) c.in-Some-Done.field-0-is in (
      pending_some G v u (begun_of v + 1) c.args.number c.handle_once.result c.handle_once.ensures.tries drained.Done is,
      handled_done G v u (begun_of v + 1) c.args.number c.handle_once.result c.handle_once.ensures.tries is,
    )

pub returns-in-Some-Done-clause-faults : goal.returns-in-Some-Done-clause-faults
returns-in-Some-Done-clause-faults g c is = absurd (did_fault is)

pub returns-in-Some-NoRoom-clause-goes : goal.returns-in-Some-NoRoom-clause-goes
returns-in-Some-NoRoom-clause-goes g c =
    let G = g.D.Counts in
    goes_then G c.args.self.now c.handle_once.new.self c.handle_with_room.new.self 0 512 c.handle_once.ensures.goes c.handle_with_room.ensures.goes

pub returns-in-Some-NoRoom-clause-handles : goal.returns-in-Some-NoRoom-clause-handles
returns-in-Some-NoRoom-clause-handles g c =
    let G = g.D.Counts in
    let v = c.args.self.now in
    let u = c.handle_once.new.self in
    let w = c.handle_with_room.new.self in
    let e = c.handle_once.ensures in
    let is : c.handle_once.result ≡ Some drained.NoRoom = c.in-Some-NoRoom.is ∙ ap (λ (d : Drained). Some d) c.in-Some-NoRoom.field-0-is in
    handles_then G v u w (begun_of v + 1) c.args.number c.handle_once.result e.tries
    (pending_some G v u (begun_of v + 1) c.args.number c.handle_once.result e.tries drained.NoRoom is) c.handle_with_room.result c.handle_with_room.ensures.handles

pub returns-in-Some-NoRoom-clause-faults : goal.returns-in-Some-NoRoom-clause-faults
returns-in-Some-NoRoom-clause-faults g c =
    let G = g.D.Counts in
    cause_then G (c.handle_with_room.result ≡ duty.Fault) (c.handle_with_room.result ≡ duty.Fault) c.args.self.now c.handle_once.new.self c.handle_with_room.new.self 0
    c.handle_once.ensures.goes c.handle_with_room.ensures.faults (λ f. f)

pub returns-in-Some-Fault-clause-faults : goal.returns-in-Some-Fault-clause-faults
returns-in-Some-Fault-clause-faults g c same = c.handle_once.ensures.faults (c.in-Some-Fault.is ∙ ap (λ (d : Drained). Some d) c.in-Some-Fault.field-0-is)

pub returns-in-Some-Lost-clause-faults : goal.returns-in-Some-Lost-clause-faults
returns-in-Some-Lost-clause-faults g c is = absurd (lost_fault _ _ is)

pub returns-in-None-clause-goes : goal.returns-in-None-clause-goes
returns-in-None-clause-goes g c = goes_more g.D.Counts 0 512 c.args.self.now c.handle_once.new.self (omega arith) c.handle_once.ensures.goes

pub returns-in-Some-Done-clause-goes : goal.returns-in-Some-Done-clause-goes
returns-in-Some-Done-clause-goes g c = goes_more g.D.Counts 0 512 c.args.self.now c.handle_once.new.self (omega arith) c.handle_once.ensures.goes

pub returns-in-Some-Fault-clause-goes : goal.returns-in-Some-Fault-clause-goes
returns-in-Some-Fault-clause-goes g c = goes_more g.D.Counts 0 512 c.args.self.now c.handle_once.new.self (omega arith) c.handle_once.ensures.goes

pub returns-in-Some-Lost-clause-goes : goal.returns-in-Some-Lost-clause-goes
returns-in-Some-Lost-clause-goes g c = goes_more g.D.Counts 0 512 c.args.self.now c.handle_once.new.self (omega arith) c.handle_once.ensures.goes

pub returns-in-None-clause-handles : goal.returns-in-None-clause-handles
returns-in-None-clause-handles g c =
    let G = g.D.Counts in
    let v = c.args.self.now in
    let u = c.handle_once.new.self in
    subst (λ (o : Option Drained). IfNone o ((CallbackIsPending (names_of G v) c.args.number → ⊥) × (u ≡ v))) c.in-None.is c.handle_once.ensures.tries.none

pub returns-in-Some-Fault-clause-handles : goal.returns-in-Some-Fault-clause-handles
returns-in-Some-Fault-clause-handles g c =
    let G = g.D.Counts in
    let v = c.args.self.now in
    let u = c.handle_once.new.self in
    let is : c.handle_once.result ≡ Some drained.Fault = c.in-Some-Fault.is ∙ ap (λ (d : Drained). Some d) c.in-Some-Fault.field-0-is in
    pending_some G v u (begun_of v + 1) c.args.number c.handle_once.result c.handle_once.ensures.tries drained.Fault is

pub returns-in-Some-Lost-clause-handles : goal.returns-in-Some-Lost-clause-handles
returns-in-Some-Lost-clause-handles g c =
    let G = g.D.Counts in
    let v = c.args.self.now in
    let u = c.handle_once.new.self in
    let wanted = c.in-Some-Lost.wanted in
    let found = c.in-Some-Lost.found in
    let is : c.handle_once.result ≡ Some (drained.Lost wanted found) = c.in-Some-Lost.is ∙ ap (λ (d : Drained). Some d) c.in-Some-Lost.field-0-is in
    let other = lost_other G v u (begun_of v + 1) c.args.number c.handle_once.result c.handle_once.ensures.tries wanted found is in
    (pending_some G v u (begun_of v + 1) c.args.number c.handle_once.result c.handle_once.ensures.tries (drained.Lost wanted found) is, other.0, other.1)
