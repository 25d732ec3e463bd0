use Rattle.std.proofs.Common.{◌≡◌, ◌+◌, false, refl, ap, ◌∙◌, arith}
use Rattle.nl_turns.specs.Seat.{SeatState}
use Rattle.nl_workers.proofs.Ending.{may_go, sets_out, arrives, finds}
use Rattle.nl_workers.proofs.Hearing.{heard_at_first, all_heard}
use Rattle.nl_workers.proofs.Losing.{none_lost_yet}
use Rattle.nl_workers.proofs.Serving.{none_either}
use Rattle.nl_workers.proofs.rounds.run_all.Goals as goal

pub give_seat-second-requires-clause-places : goal.give_seat-second-requires-clause-places
give_seat-second-requires-clause-places g c =
    let a = ap (λ (z : SeatState). z.places) c.give_seat-first.ensures.left in
    let b = c.requires.first.places in
    omega arith

pub run_epochs-crew-requires-clause-may : goal.run_epochs-crew-requires-clause-may
run_epochs-crew-requires-clause-may g c κs within =
    may_go g.V.Served.tells c.args.turns.now.name c.args.notices.now c.args.lines.now c.args.seat c.give_seat-first.new.seat c.give_seat-second.new.seat c.give_seat-first.result c.give_seat-second.result c.args.stations.items
    c.as_slice.ensures.each c.requires.lock c.requires.first c.requires.fresh c.give_seat-first.ensures.left c.give_seat-first.ensures.given c.give_seat-second.ensures.left c.give_seat-second.ensures.given

pub run_epochs-crew-requires-clause-going : goal.run_epochs-crew-requires-clause-going
run_epochs-crew-requires-clause-going g c κs within =
    let one = c.give_seat-first.ensures in
    let two = c.give_seat-second.ensures in
    let lock1 = ap (λ (z : SeatState). z.lock) one.given ∙ c.requires.lock in
    let rest1 = ap (λ (z : SeatState). z.has_turn) one.given ∙ c.requires.first.at_rest in
    let lock2 = ap (λ (z : SeatState). z.lock) two.given ∙ (ap (λ (z : SeatState). z.lock) one.left ∙ c.requires.lock) in
    let rest2 = ap (λ (z : SeatState). z.has_turn) two.given ∙ (ap (λ (z : SeatState). z.has_turn) one.left ∙ c.requires.first.at_rest) in
    sets_out g.V.Served.tells c.args.turns.now.name c.args.notices.now c.args.lines.now c.args.seat c.give_seat-first.new.seat c.give_seat-second.new.seat c.give_seat-first.result c.give_seat-second.result c.args.stations.items
    c.as_slice.ensures.each c.requires.lock c.requires.first c.requires.fresh one.left one.given two.left two.given
    _ refl refl refl refl (record { of_lock = lock1; at_rest = rest1; sends = c.requires.kit.0 }) (record { of_lock = lock2; at_rest = rest2; takes = c.requires.kit.1 }) refl refl

pub run_epochs-crew-requires-clause-heard : goal.run_epochs-crew-requires-clause-heard
run_epochs-crew-requires-clause-heard g c κs within =
    let s1 = c.give_seat-first.new.seat in
    let s2 = c.give_seat-second.new.seat in
    let one = c.give_seat-first.ensures in
    let two = c.give_seat-second.ensures in
    let none = c.requires.first.none_seen in
    let seen1 = ap (λ (z : SeatState). z.seen) one.left ∙ none in
    let given = c.requires.first.none_given in
    let next1 : s1.next ≡ c.args.seat.next + 1 = ap (λ (z : SeatState). z.next) one.left in
    let next2 : s2.next ≡ s1.next + 1 = ap (λ (z : SeatState). z.next) two.left in
    let next : s2.next ≡ 3 = omega arith in
    heard_at_first (g.G.Gate.heard c.args.gate.now) c.args.lines.now _ (ap (λ (z : SeatState). z.seen) two.left ∙ seen1) next (ap (λ (z : SeatState). z.seen) one.given ∙ none) (ap (λ (z : SeatState). z.seen) two.given ∙ seen1)

pub returns-clause-ran : goal.returns-clause-ran
returns-clause-ran g c =
    let one = c.give_seat-first.ensures in
    let two = c.give_seat-second.ensures in
    let lock1 = ap (λ (z : SeatState). z.lock) one.given ∙ c.requires.lock in
    let rest1 = ap (λ (z : SeatState). z.has_turn) one.given ∙ c.requires.first.at_rest in
    let lock2 = ap (λ (z : SeatState). z.lock) two.given ∙ (ap (λ (z : SeatState). z.lock) one.left ∙ c.requires.lock) in
    let rest2 = ap (λ (z : SeatState). z.has_turn) two.given ∙ (ap (λ (z : SeatState). z.has_turn) one.left ∙ c.requires.first.at_rest) in
    arrives g.V.Served.tells c.args.turns.now.name c.args.notices.now c.args.lines.now c.args.seat c.give_seat-first.new.seat c.give_seat-second.new.seat c.give_seat-first.result c.give_seat-second.result c.args.stations.items
    c.as_slice.ensures.each c.requires.lock c.requires.first c.requires.fresh one.left one.given two.left two.given
    (record {
      seat = c.give_seat-second.new.seat;
      stations = c.args.stations;
      cleaner = record { seat = c.give_seat-first.result; outbox = c.args.passes.outbox; lost = false };
      handler = record { seat = c.give_seat-second.result; pass = c.args.passes.taker; lost = false };
    })
    refl refl refl refl (record { of_lock = lock1; at_rest = rest1; sends = c.requires.kit.0 }) (record { of_lock = lock2; at_rest = rest2; takes = c.requires.kit.1 }) refl refl
    c.run_epochs-crew.result c.send_home.result.0 c.run_epochs-crew.ensures.going c.send_home.ensures.home c.send_home.result.1.stations.items c.send_home.ensures.stations

pub returns-clause-found : goal.returns-clause-found
returns-clause-found g c =
    let one = c.give_seat-first.ensures in
    let two = c.give_seat-second.ensures in
    let lock1 = ap (λ (z : SeatState). z.lock) one.given ∙ c.requires.lock in
    let rest1 = ap (λ (z : SeatState). z.has_turn) one.given ∙ c.requires.first.at_rest in
    let lock2 = ap (λ (z : SeatState). z.lock) two.given ∙ (ap (λ (z : SeatState). z.lock) one.left ∙ c.requires.lock) in
    let rest2 = ap (λ (z : SeatState). z.has_turn) two.given ∙ (ap (λ (z : SeatState). z.has_turn) one.left ∙ c.requires.first.at_rest) in
    finds g.V.Served.tells c.args.turns.now.name c.args.notices.now c.args.lines.now c.args.seat c.give_seat-first.new.seat c.give_seat-second.new.seat c.give_seat-first.result c.give_seat-second.result c.args.stations.items
    c.as_slice.ensures.each c.requires.lock c.requires.first c.requires.fresh one.left one.given two.left two.given
    (record {
      seat = c.give_seat-second.new.seat;
      stations = c.args.stations;
      cleaner = record { seat = c.give_seat-first.result; outbox = c.args.passes.outbox; lost = false };
      handler = record { seat = c.give_seat-second.result; pass = c.args.passes.taker; lost = false };
    })
    refl refl refl refl (record { of_lock = lock1; at_rest = rest1; sends = c.requires.kit.0 }) (record { of_lock = lock2; at_rest = rest2; takes = c.requires.kit.1 }) refl refl
    c.run_epochs-crew.result c.send_home.result.0 c.run_epochs-crew.ensures.going c.send_home.ensures.home c.send_home.result.1.lost c.send_home.ensures.lost

pub returns-clause-lost : goal.returns-clause-lost
returns-clause-lost g c =
    let w = c.run_epochs-crew.ensures.going in
    λ t. c.send_home.ensures.lost ∙ none_either c.run_epochs-crew.result.cleaner.lost _ (w.cleaner_lost t)
    (none_either c.run_epochs-crew.result.handler.lost _ (w.handler_lost t) (none_lost_yet c.run_epochs-crew.result.stations.items (λ k s e. (w.stations_are k s e).none_lost t)))

pub returns-clause-heard : goal.returns-clause-heard
returns-clause-heard g c =
    all_heard g.V.Served.tells c.args.turns.now.name c.args.notices.now (g.G.Gate.heard c.args.gate.now) c.args.lines.now c.give_seat-second.new.seat c.run_epochs-crew.result c.send_home.result.0
    c.run_epochs-crew.ensures.going c.send_home.ensures.home c.run_epochs-crew.ensures.heard
