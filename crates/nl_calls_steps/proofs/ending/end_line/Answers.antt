use Rattle.std.proofs.Common.{List, ap, sym, subst}
use Rattle.nl_flight.specs.Flight.{InFlight, begun, with_line}
use Rattle.nl_core.specs.Core.{IsCore}
use Rattle.nl_core.specs.declared.state.Core.{Core}
use Rattle.nl_calls_steps.specs.Steps.{Steps}
use Rattle.nl_calls_steps.proofs.LineEnds.{flight_step, line_ended}
use Rattle.nl_calls_steps.proofs.ending.end_line.Goals as goal

pub returns-clause-core : goal.returns-clause-core
returns-clause-core g c =
    let G = g.D.Counts in
    let v = c.args.core.now in
    subst (λ (w : Core g.row.D.Denot). IsCore G w) (sym c.end_line.ensures)
    (line_ended G v c.args.worker c.requires.core c.device_stands.ensures.volume c.device_stands.ensures.pages c.requires.lines c.requires.known)

pub returns-clause-steps : goal.returns-clause-steps
returns-clause-steps g c =
    let G = g.D.Counts in
    let v = c.args.core.now in
    subst (λ (w : Core g.row.D.Denot). Steps G v w) (sym c.end_line.ensures) (flight_step G v (with_line v.flight c.args.worker (begun 0)))

pub returns-clause-ended : goal.returns-clause-ended
returns-clause-ended g c = c.end_line.ensures
