use Rattle.std.proofs.Common.{◌<◌, ◌∙◌, ap, length, subst, sym}
use Rattle.nl_flight.specs.Flight.{IsFlight, of_worker, with_line}
use Rattle.nl_core.specs.Programming.{behind, line_of}
use Rattle.nl_core.proofs.Lines.{own_with, page_is_flight, with_twice}
use Rattle.nl_core.proofs.programming.put_page.Goals as goal

pub returns-clause-put : goal.returns-clause-put
returns-clause-put c =
    let flight = c.args.flight.now in
    let worker = c.args.worker in
    let line = line_of flight worker c.args.line in
    let known : worker < length flight = subst (λ n. worker < n) (sym c.start.ensures.lines.eight) c.requires.known in
    c.put.ensures.put
    ∙ ap (λ xs. with_line xs worker (behind (of_worker xs worker) c.args.tag c.args.at)) c.start.ensures.started
    ∙ ap (λ y. with_line (with_line flight worker line) worker (behind y c.args.tag c.args.at)) (own_with flight worker known line)
    ∙ with_twice flight worker known line (behind line c.args.tag c.args.at)

pub returns-clause-flight : goal.returns-clause-flight
returns-clause-flight c =
    subst IsFlight (sym (returns-clause-put c)) (page_is_flight c.args.flight.now c.args.worker c.start.ensures.lines c.requires.known c.args.line c.args.tag c.args.at c.requires.some c.requires.place)
