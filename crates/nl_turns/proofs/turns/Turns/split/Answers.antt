use Rattle.std.proofs.Common.{rules, ◌≡◌, ◌<◌, List, [], ◌∷◌, false, sym, ap, ◌∙◌, arith}
use Rattle.nl_turns.specs.View.{View}
use Rattle.nl_turns.proofs.Begins.{lock_splits}
use Rattle.nl_turns.specs.Rule.{by_entries}
use Rattle.nl_turns.specs.Seat.{SeatState}
use Rattle.nl_turns.specs.Steps.{is_inside, view_of}
use Rattle.nl_turns.proofs.BetweenCalls.{at_rest}
use Rattle.nl_turns.proofs.turns.Turns.split.Goals as goal

pub split_seat-new-requires : goal.split_seat-new-requires
split_seat-new-requires g c =
    let stands = by_entries (g.V.Kept.stands c.self.inside.table.shared.key.value.value) in
    let vs : List View = c.seat.inside.badge.views in
    let v : View = c.into_seat-place.result.me.0 in
    let views : vs ≡ v ∷ [] = ap (λ b. b.views) (sym c.replace.ensures.value) ∙ c.into_seat-place.ensures.2 in
    let is = c.seat.view_is in
    let resting : is_inside (view_of vs).role ≡ false = ap (λ (k : SeatState). k.has_turn) is ∙ c.requires.idle in
    let rest = at_rest vs v c.seat.invariant.settled views resting in
    let it : view_of vs ≡ v = ap view_of views in
    let first = ap (λ (z : View). z.number) (sym it) ∙ (ap (λ (k : SeatState). k.number) is ∙ c.requires.first) in
    let same = c.seat.invariant.places_are ∙ ap (λ (z : View). z.places) it in
    let some_place : 0 < v.places = omega arith in
    (search rules, search rules, lock_splits stands _ _ _ _ rest first some_place)
