use Rattle.std.proofs.Common.{arith}
use Rattle.std.proofs.lemmas.Option.{slice_get_within}
use Rattle.nl_flight.specs.Flight.{of_worker}
use Rattle.nl_calls_bytes.proofs.lining.all_of_file.Goals as goal
use Rattle.nl_calls_files.proofs.LinePages.{few_pages}
use Rattle.nl_calls_bytes.proofs.Lists.{no-page}

pub overflow_add-place : goal.overflow_add-place
overflow_add-place c =
    let few = few_pages c.args.flight.now c.args.worker c.line-line.ensures.flight c.requires.known in
    let within = slice_get_within (of_worker c.args.flight.now c.args.worker).pages c.pages.place _ c.in-Some.ensures.some in
    omega (arith, few, within)

pub returns : goal.returns
returns c = λ is k page at.
    let within = slice_get_within (of_worker c.args.flight.now c.args.worker).pages k page at in
    let end = c.get.ensures.none.0 (no-page c.get.result c.in_default.not-Some) in
    c.pages.invariant.below k page (omega (arith, within, end)) at
