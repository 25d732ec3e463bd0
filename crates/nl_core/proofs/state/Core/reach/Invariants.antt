use Rattle.nl_core.specs.Units.{units_for}
use Rattle.nl_core.proofs.Reached.{Reaching}
use Rattle.nl_core.proofs.state.Core.reach.Given as goal

abbrev pub invariant-units : goal.invariant-units
invariant-units g l = Reaching g.D.Counts l.goal l.initial.self l.self

abbrev pub decreases-units : goal.decreases-units
decreases-units g l = units_for l.self l.goal
