use Rattle.std.proofs.Common.{ap, ◌∙◌, length}
use Rattle.nl_meta.specs.Pages.{Pages}
use Rattle.nl_test_device.proofs.Standing.{least-addresses, none-count}
use Rattle.nl_test_device.proofs.fetching.write_and_fetch.Goals as goal

pub fetch_one-first-requires-clause-count : goal.fetch_one-first-requires-clause-count
fetch_one-first-requires-clause-count c =
    ap (λ (p : Pages). length p.running) c.in_ok-meta-in-Some.ensures ∙ none-count c.in-Some.shape.vaddrs ∙ least-addresses c.in-Some.shape c.in-Some.ensures.numbers
