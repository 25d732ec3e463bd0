use Rattle.std.proofs.Common.{◌∙◌, ◌<◌, List, length, sym, ap, arith}
use Rattle.nl_flight.specs.Flight.{InFlight, of_worker, with_line}
use Rattle.nl_core.proofs.LineFaults.{kept_new, kept_old}
use Rattle.nl_core.proofs.changes.keep_failure.Goals as goal
use Rattle.nl_core.proofs.changes.keep_failure.Goals.{then-line-eq0, else-line-eq0}

pub returns-clause-kept : goal.returns-clause-kept
returns-clause-kept c =
    let f = c.args.flight.now in
    let eight = c.line.ensures.flight.eight in
    let low = c.requires.known in
    let known : c.args.worker < length f = omega (arith, eight, low) in
    elim c.if-line-eq0.branch [
      | then-line-eq0 w ↦ w.flight-is
          ∙ (w.set_fault.ensures.kept
          ∙ (ap (λ (x : List InFlight). with_line x c.args.worker (record (of_worker x c.args.worker) { fault = c.args.sum })) w.begin.ensures.begun
          ∙ kept_new f c.args.worker c.args.line c.args.sum known (sym c.line.ensures.line ∙ w.if-line-eq0.true)))
      | else-line-eq0 w ↦ w.flight-is
          ∙ (w.set_fault-else-line-eq0.ensures.kept ∙ kept_old f c.args.worker c.args.line c.args.sum (λ none. w.if-line-eq0.false (c.line.ensures.line ∙ none)))
    ]
