use Rattle.std.proofs.Common.{◌≡◌, ◌∙◌, ◌^◌}
use Rattle.nl_tree.specs.declared.turn.DutyAnswer.TheVariants as duty
use Rattle.nl_core.specs.declared.rounds.Rounded.TheVariants as rounded
use Rattle.nl_core.proofs.Onward.{cause_stopped, cause_then}
use Rattle.nl_core.proofs.Rounding.{begins, falls, goes_all, goes_next, goes_on, handles_number, has_numbers}
use Rattle.nl_core.proofs.state.Core.handle_all.Goals as goal

pub each-init : goal.each-init
each-init g c = begins g.D.Counts c.args.self.now c.requires.core.formed c.requires.core c.requires.writes

pub handle-requires-clause-stamp : goal.handle-requires-clause-stamp
handle-requires-clause-stamp g c =
    let G = g.D.Counts in
    has_numbers G c.args.self.now c.each.self c.each.invariant c.device_stands.ensures.volume c.device_stands.ensures.names c.requires.stamp

pub returns-in-Lost-clause-goes : goal.returns-in-Lost-clause-goes
returns-in-Lost-clause-goes g c =
    let G = g.D.Counts in
    goes_next G c.args.self.now c.each.self c.each.invariant c.device_stands.ensures.volume c.device_stands.ensures.names c.device_stands.ensures.table c.in-Some.number c.in-Some.ensures.some c.handle.new.self c.handle.ensures.goes

pub returns-in-Lost-clause-lines : goal.returns-in-Lost-clause-lines
returns-in-Lost-clause-lines g c = c.handle.ensures.lines ∙ c.each.invariant.lines

pub returns-in-Lost-clause-handles : goal.returns-in-Lost-clause-handles
returns-in-Lost-clause-handles g c = (c.in-Lost.ensures.handles.1, c.in-Lost.ensures.handles.2)

pub returns-in-Lost-clause-faults : goal.returns-in-Lost-clause-faults
returns-in-Lost-clause-faults g c is = absurd (let no : ⊥ = cc in no)

pub returns-in-Fault-clause-goes : goal.returns-in-Fault-clause-goes
returns-in-Fault-clause-goes g c =
    let G = g.D.Counts in
    goes_next G c.args.self.now c.each.self c.each.invariant c.device_stands.ensures.volume c.device_stands.ensures.names c.device_stands.ensures.table c.in-Some.number c.in-Some.ensures.some c.handle.new.self c.handle.ensures.goes

pub returns-in-Fault-clause-lines : goal.returns-in-Fault-clause-lines
returns-in-Fault-clause-lines g c = c.handle.ensures.lines ∙ c.each.invariant.lines

pub returns-in-Fault-clause-faults : goal.returns-in-Fault-clause-faults
returns-in-Fault-clause-faults g c is =
    let G = g.D.Counts in
    cause_then G (c.handle.result ≡ duty.Fault) (c.handle.result ≡ duty.Fault) c.args.self.now c.each.self c.handle.new.self c.each.invariant.taken
    c.each.invariant.goes c.handle.ensures.faults (λ f. f) c.in-Fault.is

pub returns-then-self-ne0-clause-goes : goal.returns-then-self-ne0-clause-goes
returns-then-self-ne0-clause-goes g c =
    let G = g.D.Counts in
    goes_next G c.args.self.now c.each.self c.each.invariant c.device_stands.ensures.volume c.device_stands.ensures.names c.device_stands.ensures.table c.in-Some.number c.in-Some.ensures.some c.handle.new.self c.handle.ensures.goes

pub returns-then-self-ne0-clause-lines : goal.returns-then-self-ne0-clause-lines
returns-then-self-ne0-clause-lines g c = c.handle.ensures.lines ∙ c.each.invariant.lines

pub returns-then-self-ne0-clause-faults : goal.returns-then-self-ne0-clause-faults
returns-then-self-ne0-clause-faults g c =
    let G = g.D.Counts in
    cause_stopped G (rounded.Fault ≡ rounded.Fault) c.args.self.now c.handle.new.self (2 ^ 19) (returns-then-self-ne0-clause-goes g c) c.requires.writes c.if-self-ne0.true

pub each-smaller : goal.each-smaller
each-smaller g c =
    let G = g.D.Counts in
    let number = handles_number G c.each.self c.handle.new.self c.in-Some.number c.handle.result c.handle.ensures.handles (c.in-Some.ensures.some.0, c.in-Some.ensures.some.1, c.in-Some.ensures.some.2) c.in-Did.is in
    falls G c.args.self.now c.each.self c.each.invariant c.device_stands.ensures.volume c.device_stands.ensures.names c.device_stands.ensures.table c.in-Some.number c.in-Some.ensures.some c.handle.new.self c.handle.ensures.goes c.device_stands-in-Some.ensures.table number

pub each-preserved : goal.each-preserved
each-preserved g c =
    let G = g.D.Counts in
    let number = handles_number G c.each.self c.handle.new.self c.in-Some.number c.handle.result c.handle.ensures.handles (c.in-Some.ensures.some.0, c.in-Some.ensures.some.1, c.in-Some.ensures.some.2) c.in-Did.is in
    goes_on G c.args.self.now c.each.self c.each.invariant c.device_stands.ensures.volume c.device_stands.ensures.names c.device_stands.ensures.table c.in-Some.number c.in-Some.ensures.some c.handle.new.self c.handle.ensures.goes c.device_stands-in-Some.ensures.table number
    c.handle.ensures.core.formed c.handle.ensures.core c.handle.ensures.lines c.if-self-ne0.false

pub returns-clause-goes : goal.returns-clause-goes
returns-clause-goes g c =
    let G = g.D.Counts in
    goes_all G c.args.self.now c.each.self c.each.invariant c.device_stands.ensures.volume c.device_stands.ensures.names

pub returns-clause-lines : goal.returns-clause-lines
returns-clause-lines g c = c.each.invariant.lines

pub returns-clause-handles : goal.returns-clause-handles
returns-clause-handles g c = record { handled = c.in_default.ensures.none; space = c.each.invariant.space; runs = c.each.invariant.runs }

pub returns-clause-faults : goal.returns-clause-faults
returns-clause-faults g c is = absurd (let no : ⊥ = cc in no)
