use Rattle.std.specs.Prelude.{Contains}
use Rattle.std.proofs.Common.{rules, ◌+◌, ◌≡◌, subst, List, [], ◌∷◌, false, sym, ap, ◌∙◌}
use Rattle.nl_turns.specs.View.{View}
use Rattle.nl_turns.proofs.Begins.{lock_joins}
use Rattle.nl_turns.specs.Rule.{by_entries}
use Rattle.nl_turns.specs.Seat.{SeatState, by_seat}
use Rattle.nl_turns.specs.Steps.{is_inside, view_of, state_of, IsSeat}
use Rattle.nl_turns.proofs.BetweenCalls.{at_rest, joined_stay, join_keeps_seat}
use Rattle.nl_turns.proofs.turns.Turns.join.Goals as goal

pub join_seat-requires : goal.join_seat-requires
join_seat-requires g c =
    let stands = by_entries (g.V.Kept.stands c.self.inside.table.shared.key.value.value) in
    let vs : List View = c.seat.inside.badge.views in
    let v : View = c.into_seat-place.result.me.0 in
    let views : vs ≡ v ∷ [] = ap (λ b. b.views) (sym c.replace.ensures.value) ∙ c.into_seat-place.ensures.2 in
    let is = c.seat.view_is in
    let resting : is_inside (view_of vs).role ≡ false = ap (λ (k : SeatState). k.has_turn) is ∙ c.requires.idle.0 in
    let rest = at_rest vs v c.seat.invariant.settled views resting in
    let first = ap (λ us. (view_of us).number) (sym views) ∙ (ap (λ (k : SeatState). k.number) is ∙ c.requires.first) in
    let ws : List View = c.other.inside.badge.views in
    let w : View = c.into_seat.result.me.0 in
    let resting' : is_inside (view_of ws).role ≡ false = ap (λ (k : SeatState). k.has_turn) c.other.view_is ∙ c.requires.idle.1 in
    let rest' = at_rest ws w c.other.invariant.settled c.into_seat.ensures.2 resting' in
    (search rules, search rules, c.into_seat.ensures.3, search rules, lock_joins stands _ _ _ _ _ _ rest first rest')

pub settle-requires-clause-hosts : goal.settle-requires-clause-hosts
settle-requires-clause-hosts g c = (_, _, _, ap (λ m. m.0.role) c.join_seat.ensures.2)

pub returns-clause-joined : goal.returns-clause-joined
returns-clause-joined g c n has =
    let vs : List View = c.seat.inside.badge.views in
    let v : View = c.into_seat-place.result.me.0 in
    let views : vs ≡ v ∷ [] = ap (λ b. b.views) (sym c.replace.ensures.value) ∙ c.into_seat-place.ensures.2 in
    let is : state_of c.seat.inside.badge.table_id v ≡ c.args.seat.now = ap (λ us. state_of c.seat.inside.badge.table_id (view_of us)) (sym views) ∙ c.seat.view_is in
    let has' : Contains v.joined n = subst (λ (k : SeatState). Contains k.joined n) (sym is) has in
    let stay = joined_stay v c.into_seat.result.me.0 c.join_seat.new.seat.me.0 (ap (λ m. m.0) c.join_seat.ensures.2) c.settle.ensures.host n has' in
    let now = ap (λ us. by_seat n (view_of us).seen) c.into_badge.ensures.2 ∙ ap (λ m. by_seat n m.0.seen) c.settle.ensures.place.2 in
    now ∙ (stay ∙ ap (λ (k : SeatState). by_seat n k.seen) is)

pub invariant_of-seat : goal.invariant_of-seat
invariant_of-seat g c =
    let places = c.seat.inside.places in
    let v : View = c.into_seat-place.result.me.0 in
    let views : c.seat.inside.badge.views ≡ v ∷ [] = ap (λ b. b.views) (sym c.replace.ensures.value) ∙ c.into_seat-place.ensures.2 in
    let seat = subst (λ us. IsSeat us places) views c.seat.invariant in
    let keeps = join_keeps_seat v c.into_seat.result.me.0 c.join_seat.new.seat.me.0 places (ap (λ m. m.0) c.join_seat.ensures.2) c.settle.ensures.host c.settle.ensures.told seat in
    let now = c.into_badge.ensures.2 ∙ ap (λ m. m.0 ∷ []) c.settle.ensures.place.2 in
    subst (λ us. IsSeat us (places + 1)) (sym now) keeps
