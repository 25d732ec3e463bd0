use Rattle.nl_test_core.specs.Rigs.{IsFormed}
use Rattle.nl_test_core.proofs.reading.wrong_pages.Given as goal

abbrev pub invariant-pages : goal.invariant-pages
invariant-pages l = IsFormed l.device
