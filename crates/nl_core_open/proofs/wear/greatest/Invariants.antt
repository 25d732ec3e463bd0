use Rattle.std.proofs.Common.{◌≡◌, drop}
use Rattle.std.specs.Prelude.{fold}
use Rattle.nl_core_open.specs.Figures.{greatest_seen}
use Rattle.nl_core_open.proofs.SeenWear.{higher}
use Rattle.nl_core_open.proofs.wear.greatest.Given as goal

abbrev pub invariant-pages : goal.invariant-pages
invariant-pages l = fold higher l.greatest (drop l.at l.fn.scan.seen) ≡ greatest_seen l.fn.scan.seen
