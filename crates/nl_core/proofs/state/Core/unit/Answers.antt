use Rattle.nl_core.proofs.Begun.{unit_does}
use Rattle.nl_core.proofs.Onward.{goes_then}
use Rattle.nl_core.proofs.state.Core.unit.Goals as goal

pub returns-clause-goes : goal.returns-clause-goes
returns-clause-goes g c = goes_then g.D.Counts c.args.self.now c.begin_unit.new.self c.write_unit.new.self 0 1 c.begin_unit.ensures.goes c.write_unit.ensures.goes

pub returns-clause-does : goal.returns-clause-does
returns-clause-does g c =
    unit_does g.D.Counts c.args.self.now c.begin_unit.new.self c.write_unit.new.self c.write_unit.result c.requires.core c.begin_unit.ensures.begun c.begin_unit.ensures.goes c.write_unit.ensures.does
