use Rattle.std.proofs.Common.{◌≡◌, drop}
use Rattle.std.specs.Prelude.{fold}
use Rattle.nl_core_open.specs.Figures.{least_seen}
use Rattle.nl_core_open.proofs.SeenWear.{lower}
use Rattle.nl_core_open.proofs.wear.least.Given as goal

abbrev pub invariant-pages : goal.invariant-pages
invariant-pages l = fold lower l.least (drop l.at l.fn.scan.seen) ≡ least_seen l.fn.scan.seen
