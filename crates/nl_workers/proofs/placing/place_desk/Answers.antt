use Rattle.std.proofs.Common.{rules, refl, ◌≡◌, length, subst, vec_len}
use Rattle.nl_workers.specs.Spots.{OrdinalsFit}
use Rattle.nl_workers.proofs.RowPlaces.{places_read, desk_placed}
use Rattle.nl_workers.proofs.placing.place_desk.Goals as goal

pub loop-at-preserved : goal.loop-at-preserved
loop-at-preserved c =
    let i = c.loop-at.invariant in
    let long : vec_len c.args.spots ≡ length c.loop-at.spots.items = search rules in (
      search rules,
      places_read c.args.stations.now.items c.loop-at.spots.items c.args.worker c.loop-at.at c.get.result.now.line c.get.result.now.answered c.station_at.result.now _
          (subst (OrdinalsFit c.args.stations.now.items) long c.requires.ordinals) i.1 c.station_at.ensures (search rules) refl refl c.get.ensures,
    )

pub returns-clause-spotted : goal.returns-clause-spotted
returns-clause-spotted c =
    desk_placed c.args.stations.now.items c.loop-at.spots.items c.args.worker c.loop-at.at c.station_at.result.now c.station_at.ensures (search rules) c.loop-at.invariant.1
