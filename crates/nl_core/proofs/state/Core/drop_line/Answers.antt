use Rattle.std.proofs.Common.{sym, subst, refl, List}
use Rattle.nl_flight.specs.Flight.{InFlight, of_worker}
use Rattle.nl_core.specs.Core.{IsCore}
use Rattle.nl_core.specs.Goes.{PreservesVolume}
use Rattle.nl_core.specs.Dropping.{DropsLine, FreesLine}
use Rattle.nl_core.proofs.Dropped.{dropped_core, dropped_goes}
use Rattle.nl_core.proofs.state.Core.drop_line.Goals as goal

pub returns : goal.returns
returns g c =
    let G = g.D.Counts in
    let v = c.args.self.now in
    let worker = c.args.worker in
    let d = c.free_line.new.device in
    let e = c.free_line.ensures in
    let first = c.device_stands.ensures in
    let pages = c.device_stands-2.ensures.pages in
    let frees : FreesLine G (of_worker v.flight worker) v.device d = record { freed = e.freed; kept = e.kept; read_faults = e.read_faults } in
    record {
      core = subst (λ (xs : List InFlight). IsCore G (record v { device = d; flight = xs })) (sym c.clear.ensures.cleared) (dropped_core G v d worker c.requires.known frees c.requires.core first.volume first.differ pages c.free_line.ensures.formed);
      goes = subst (λ (xs : List InFlight). PreservesVolume G 0 v (record v { device = d; flight = xs })) (sym c.clear.ensures.cleared) (dropped_goes G v d worker c.requires.known frees c.requires.core first.volume first.differ pages);
      dropped = subst (λ (xs : List InFlight). DropsLine G worker v (record v { device = d; flight = xs })) (sym c.clear.ensures.cleared) (record { frees = frees; flight = refl; others = refl });
    }
