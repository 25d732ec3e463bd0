use Rattle.std.proofs.Common.{◌∙◌, ◌≡◌, ◌<◌, List, length, Option, Some, refl, sym, ap, subst, arith}
use Rattle.nl_flight.specs.Flight.{InFlight, of_worker, with_line}
use Rattle.nl_core.specs.Lines.{with_goal}
use Rattle.nl_core.specs.Programming.{line_of}
use Rattle.nl_core.specs.Units.{goal_or}
use Rattle.nl_core.proofs.LineGoals.{goal_new, goal_old}
use Rattle.nl_core.proofs.units.keep_goal.Goals as goal
use Rattle.nl_core.proofs.units.keep_goal.Goals.{then-line-eq0, else-line-eq0}

pub returns-clause-kept : goal.returns-clause-kept
returns-clause-kept c =
    let f = c.args.flight.now in
    let eight = c.line.ensures.flight.eight in
    let low = c.requires.known in
    let known : c.args.worker < length f = omega (arith, eight, low) in
    let fixed = c.set_goal.ensures.fixed in
    let is = c.unwrap_or-goal.ensures in
    let was = c.goal.ensures.goal in
    elim c.if-line-eq0.branch [
      | then-line-eq0 w ↦ goal_new f c.if-line-eq0.flight c.set_goal.new.self c.args.worker c.args.line c.args.count c.goal.result c.unwrap_or-goal.result known
          (sym c.line.ensures.line ∙ w.if-line-eq0.true) (w.flight-is ∙ w.begin.ensures.begun) was is fixed
      | else-line-eq0 w ↦ goal_old f c.if-line-eq0.flight c.set_goal.new.self c.args.worker c.args.line c.args.count c.goal.result c.unwrap_or-goal.result
          (λ none. w.if-line-eq0.false (c.line.ensures.line ∙ none)) w.flight-is was is fixed
    ]
