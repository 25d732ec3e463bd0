use Rattle.std.proofs.Common.{◌-◌, length}
use Rattle.nl_workers.specs.Going.{IsUnderWay}
use Rattle.nl_workers.specs.Heard.{HeardSoFar}
use Rattle.nl_workers.proofs.rounds.run_epochs.Given as goal

abbrev pub invariant-loop-from : goal.invariant-loop-from
invariant-loop-from g l = IsUnderWay g.V.Served.tells l.turns.name l.notices l.lines l.initial.crew.seat l.from l.crew × HeardSoFar (g.G.Gate.heard l.gate) l.lines l.from l.crew

abbrev pub decreases-loop-from : goal.decreases-loop-from
decreases-loop-from g l = length l.lines - l.from
