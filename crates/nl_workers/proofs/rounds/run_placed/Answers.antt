use Rattle.std.proofs.Common.{rules, ◌≡◌, sym, subst, vec_len, length, arith}
use Rattle.nl_workers.specs.Spots.{OrdinalsFit, AreSpotted}
use Rattle.nl_workers.proofs.Ordering.{ordinals_fit, rounds_ran, are_spots}
use Rattle.nl_workers.proofs.rounds.run_placed.Goals as goal

pub place_all-spots-requires-clause-ordinals : goal.place_all-spots-requires-clause-ordinals
place_all-spots-requires-clause-ordinals g c =
    let f = c.requires in
    subst (OrdinalsFit c.run_all-seat.result.1.stations.items) (sym f.places_are)
    (ordinals_fit g.V.Served.tells c.args.lines.now c.args.seat c.run_all-seat.result.0 c.run_all-seat.result.1.stations.items c.as_slice.ensures.each f.first.lines_are c.as_slice.ensures.small c.run_all-seat.ensures.ran)

pub returns-clause-ran : goal.returns-clause-ran
returns-clause-ran g c =
    let f = c.requires in
    let many : length c.place_all-spots.result.items ≡ length c.args.lines.now = search rules in
    let stations : vec_len c.run_all-seat.result.1.stations ≡ length c.run_all-seat.result.1.stations.items = search rules in
    rounds_ran g.V.Served.tells c.args.lines.now c.args.seat c.run_all-seat.result.0 c.run_all-seat.result.1.stations.items c.as_slice.ensures.each f.first.lines_are c.as_slice.ensures.small c.run_all-seat.ensures.ran
    c.place_all-spots.result.items many (subst (λ n. AreSpotted c.run_all-seat.result.1.stations.items n 0 c.place_all-spots.result.items) stations c.place_all-spots.ensures.spotted)

pub returns-clause-spots : goal.returns-clause-spots
returns-clause-spots g c =
    let f = c.requires in
    let many : length c.place_all-spots.result.items ≡ length c.args.lines.now = search rules in
    let stations : vec_len c.run_all-seat.result.1.stations ≡ length c.run_all-seat.result.1.stations.items = search rules in
    let small = c.as_slice.ensures.small in (
      are_spots g.V.Served.tells c.args.lines.now c.args.seat c.run_all-seat.result.0 c.run_all-seat.result.1.stations.items c.as_slice.ensures.each f.first.lines_are c.as_slice.ensures.small c.run_all-seat.ensures.ran
          c.place_all-spots.result.items many (subst (λ n. AreSpotted c.run_all-seat.result.1.stations.items n 0 c.place_all-spots.result.items) stations c.place_all-spots.ensures.spotted),
      omega arith,
    )
