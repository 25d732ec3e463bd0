use Rattle.nl_core.specs.Core.{names_of}
use Rattle.nl_core.proofs.Rounding.{HandlesOn}
use Rattle.nl_core.proofs.Unhandled.{left}
use Rattle.nl_core.proofs.state.Core.handle_all.Given as goal

abbrev pub invariant-each : goal.invariant-each
invariant-each g l = HandlesOn g.D.Counts l.initial.self l.self

abbrev pub decreases-each : goal.decreases-each
decreases-each g l =
    let G = g.D.Counts in
    left (names_of G l.initial.self) (names_of G l.self)
