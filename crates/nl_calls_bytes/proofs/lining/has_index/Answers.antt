use Rattle.std.proofs.Common.{◌==◌, arith, sym, eq-eqb, ne_eqb}
use Rattle.std.proofs.lemmas.Option.{slice_get_within}
use Rattle.nl_flight.specs.Flight.{of_worker}
use Rattle.nl_flight.specs.declared.page.FlightPage.{FlightPage}
use Rattle.nl_calls_bytes.proofs.lining.has_index.Goals as goal
use Rattle.nl_calls_files.proofs.LinePages.{few_pages}
use Rattle.nl_calls_bytes.proofs.Lists.{any-at, any-next}

pub overflow_add-place : goal.overflow_add-place
overflow_add-place c =
    let few = few_pages c.args.flight.now c.args.worker c.line-line.ensures.flight c.requires.known in
    let within = slice_get_within (of_worker c.args.flight.now c.args.worker).pages c.pages.place _ c.in-Some.ensures.some in
    omega (arith, few, within)

pub returns-then-at-index : goal.returns-then-at-index
returns-then-at-index c =
    sym (any-at (λ (page : FlightPage). page.index == c.args.index) (of_worker c.args.flight.now c.args.worker).pages c.pages.place _ c.in-Some.ensures.some (eq-eqb _ _ c.if-at-index.true))

pub pages-preserved : goal.pages-preserved
pages-preserved c =
    let within = slice_get_within (of_worker c.args.flight.now c.args.worker).pages c.pages.place _ c.in-Some.ensures.some in
    record {
      within = omega (arith, within);
      none = any-next (λ (page : FlightPage). page.index == c.args.index) (of_worker c.args.flight.now c.args.worker).pages c.pages.place _ c.pages.invariant.none c.in-Some.ensures.some (ne_eqb _ _ c.if-at-index.false);
    }
