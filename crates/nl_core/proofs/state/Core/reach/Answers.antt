use Rattle.std.proofs.Common.{◌≤◌, arith}
use Rattle.nl_core.proofs.Onward.{goes_more}
use Rattle.nl_core.proofs.Reached.{cause_unit, goes_ended, reaches_not, reaching_none, reaching_then}
use Rattle.nl_core.proofs.state.Core.reach.Goals as goal

pub units-init : goal.units-init
units-init g c = reaching_none g.D.Counts c.args.goal c.args.self.now c.requires.core

pub units-smaller : goal.units-smaller
units-smaller g c =
    let low = c.requires.goal in
    let count = c.units.invariant.goes.count in
    c.unit.ensures.does.less c.in-Done.is c.args.goal (omega (arith, low, count)) c.units-test.true

pub units-preserved : goal.units-preserved
units-preserved g c =
    let G = g.D.Counts in
    reaching_then G c.args.goal c.args.self.now c.units.self c.unit.new.self c.units.invariant c.unit.result c.requires.goal c.units-test.true c.unit.ensures.core c.unit.ensures.goes c.unit.ensures.does c.in-Done.is

pub returns-in_default : goal.returns-in_default
returns-in_default g c =
    let G = g.D.Counts in
    record {
      core = c.unit.ensures.core;
      goes = goes_ended G c.args.goal c.args.self.now c.units.self c.unit.new.self c.units.invariant c.unit.result c.requires.goal c.units-test.true c.unit.ensures.core c.unit.ensures.goes c.unit.ensures.does;
      reaches = reaches_not G c.args.goal c.args.self.now c.units.self c.unit.new.self c.units.invariant c.unit.result c.requires.goal c.units-test.true c.unit.ensures.core c.unit.ensures.goes c.unit.ensures.does c.in_default.not-Done;
      faults = cause_unit G c.args.goal c.args.self.now c.units.self c.unit.new.self c.units.invariant c.unit.result c.requires.goal c.units-test.true c.unit.ensures.core c.unit.ensures.goes c.unit.ensures.does c.unit.ensures.faults;
    }

pub returns-then-self-ne0-clause-goes : goal.returns-then-self-ne0-clause-goes
returns-then-self-ne0-clause-goes g c =
    let i = c.units.invariant in
    let few = i.paid in
    goes_more g.D.Counts i.taken 256 c.args.self.now c.units.self (omega (arith, few)) i.goes

pub returns-clause-goes : goal.returns-clause-goes
returns-clause-goes g c =
    let i = c.units.invariant in
    let few = i.paid in
    goes_more g.D.Counts i.taken 256 c.args.self.now c.units.self (omega (arith, few)) i.goes
