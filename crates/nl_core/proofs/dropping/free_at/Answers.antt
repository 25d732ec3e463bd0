use Rattle.std.proofs.Common.{inr, ◌∙◌, ap, option_map}
use Rattle.std.proofs.lemmas.Option.{slice_get-map}
use Rattle.nl_journal_commit.proofs.Frees.{frees_one}
use Rattle.nl_flight.specs.Flight.{of_worker}
use Rattle.nl_flight.specs.declared.page.FlightPage.{FlightPage}
use Rattle.nl_core.proofs.dropping.free_at.Goals as goal

pub returns-in-Some-clause-freed : goal.returns-in-Some-clause-freed
returns-in-Some-clause-freed g c =
    let G = g.D.Counts in
    let pages = (of_worker c.args.flight.now c.args.worker).pages in
    inr (
      c.in-Some.at,
      slice_get-map (λ (page : FlightPage). page.at) pages c.args.i ∙ ap (option_map (λ (page : FlightPage). page.at)) c.in-Some.ensures.some,
      frees_one G c.in-Some.at c.args.device.now c.free.new.self c.free.result c.free.ensures.answer c.free.ensures.freed c.free.ensures.refused,
    )
