use Rattle.std.proofs.Common.{rules, ◌≡◌, ◌+◌, false, true, sym, subst}
use Rattle.std.specs.Prelude.{take}
use Rattle.nl_workers.specs.Crew.{any_lost}
use Rattle.nl_workers.proofs.LostStations.{one_lost, none_more, none_at_end}
use Rattle.nl_workers.proofs.rounds.is_any_lost.Goals as goal

pub loop-station-preserved : goal.loop-station-preserved
loop-station-preserved c =
    let i = c.loop-station.station-index in
    let same : c.deref-station-items.result.now ≡ c.args.stations.now.items = search rules in
    subst (λ zs. any_lost (take (i + 1) zs) ≡ false) same
    (none_more c.deref-station-items.result.now i c.station-item.result c.loop-station-test.true c.station-item.is (subst (λ zs. any_lost (take i zs) ≡ false) (sym same) c.loop-station.invariant) c.if-station.false)

pub returns-then-station : goal.returns-then-station
returns-then-station c =
    let same : c.deref-station-items.result.now ≡ c.args.stations.now.items = search rules in
    subst (λ zs. true ≡ any_lost zs) same
    (one_lost c.deref-station-items.result.now c.loop-station.station-index c.station-item.result c.loop-station-test.true c.station-item.is c.if-station.true)

pub returns : goal.returns
returns c =
    let i = c.loop-station.station-index in
    let same : c.deref-station-items.result.now ≡ c.args.stations.now.items = search rules in
    subst (λ zs. false ≡ any_lost zs) same
    (none_at_end c.deref-station-items.result.now i c.loop-station-test.false (subst (λ zs. any_lost (take i zs) ≡ false) (sym same) c.loop-station.invariant))
