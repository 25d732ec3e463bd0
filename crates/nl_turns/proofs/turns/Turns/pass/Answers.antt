use Rattle.std.specs.Prelude.{Contains}
use Rattle.std.proofs.Common.{◌≡◌, ◌∷◌, ◌++◌, [], List, Some, true, sym, ap, ◌∙◌, subst}
use Rattle.atomic_table.specs.Table.{rest}
use Rattle.nl_turns.specs.View.{View}
use Rattle.nl_turns.specs.Seat.{entries}
use Rattle.nl_turns.specs.Seat.{SeatState, by_seat, passed_by}
use Rattle.nl_turns.specs.Steps.{is_inside, view_of, state_of, after_pass, IsSeat}
use Rattle.nl_turns.specs.declared.entry.Entry.{Entry}
use Rattle.nl_turns.proofs.Histories.{by_other}
use Rattle.nl_turns.proofs.BetweenCalls.{at_turn, pass_keeps_seat}
use Rattle.nl_turns.proofs.turns.Turns.pass.Goals as goal

pub add-requires-clause-turn : goal.add-requires-clause-turn
add-requires-clause-turn g c =
    let origin = c.self.inside.table.shared.key.value.value in
    let vs : List View = c.seat.inside.badge.views in
    let v : View = c.into_seat-place.result.me.0 in
    let views : vs ≡ v ∷ [] = ap (λ b. b.views) (sym c.replace.ensures.value) ∙ c.into_seat-place.ensures.2 in
    let is = c.seat.view_is in
    let turn : is_inside (view_of vs).role ≡ true = ap (λ (k : SeatState). k.has_turn) is ∙ c.requires.turn in
    let w = at_turn vs v views turn in
    let out = c.take_out.ensures.fetched w.0 w.1 in
    let now = c.exchange-found.ensures.3 in
    let told = subst (λ z. g.V.Kept.stands z c.args.seat.now.opening (entries c.args.seat.now.seen ++ c.args.entry ∷ []) c.args.turn.value) (ap (λ l. l.origin) (sym c.self.view_is)) c.requires.stands in
    let stood = subst (λ (k : SeatState). g.V.Kept.stands origin k.opening (entries k.seen ++ c.args.entry ∷ []) c.args.turn.value) (sym is) told in
    let here = subst (λ (us : List View). g.V.Kept.stands origin (view_of us).opening (entries (view_of us).seen ++ c.args.entry ∷ []) c.args.turn.value) views stood in (
      w.0,
      c.args.turn.value,
      ap (λ m. m.0.role) now ∙ ap (λ m. m.0.role) out,
      ap (λ m. m.1) now ∙ ap (λ m. (0, Some c.args.turn.value) ∷ rest m.1) out,
      rw (now, out) here,
    )

pub invariant_of-seat : goal.invariant_of-seat
invariant_of-seat g c =
    let places = c.seat.inside.places in
    let e : Entry = c.args.entry in
    let v : View = c.into_seat-place.result.me.0 in
    let views : c.seat.inside.badge.views ≡ v ∷ [] = ap (λ b. b.views) (sym c.replace.ensures.value) ∙ c.into_seat-place.ensures.2 in
    let w = at_turn c.seat.inside.badge.views v views (ap (λ (k : SeatState). k.has_turn) c.seat.view_is ∙ c.requires.turn) in
    let out = c.exchange-found.ensures.3 ∙ ap (λ m. (m.0, (0, Some c.args.turn.value) ∷ rest m.1)) (c.take_out.ensures.fetched w.0 w.1) in
    let now = c.into_badge.ensures.2 ∙ (ap (λ m. m.0 ∷ []) c.add.ensures.added ∙ ap (λ m. after_pass m.0 e ∷ []) out) in
    subst (λ us. IsSeat us places) (sym now) (pass_keeps_seat v e places (subst (λ us. IsSeat us places) views c.seat.invariant))

pub returns-clause-joined : goal.returns-clause-joined
returns-clause-joined g c n has =
    let e : Entry = c.args.entry in
    let vs : List View = c.seat.inside.badge.views in
    let v : View = c.into_seat-place.result.me.0 in
    let views : vs ≡ v ∷ [] = ap (λ b. b.views) (sym c.replace.ensures.value) ∙ c.into_seat-place.ensures.2 in
    let is : state_of c.seat.inside.badge.table_id v ≡ c.args.seat.now = ap (λ us. state_of c.seat.inside.badge.table_id (view_of us)) (sym views) ∙ c.seat.view_is in
    let w = at_turn vs v views (ap (λ (k : SeatState). k.has_turn) c.seat.view_is ∙ c.requires.turn) in
    let out = c.exchange-found.ensures.3 ∙ ap (λ m. (m.0, (0, Some c.args.turn.value) ∷ rest m.1)) (c.take_out.ensures.fetched w.0 w.1) in
    let now = c.into_badge.ensures.2 ∙ (ap (λ m. m.0 ∷ []) c.add.ensures.added ∙ ap (λ m. after_pass m.0 e ∷ []) out) in
    let seat = subst (λ us. IsSeat us c.seat.inside.places) views c.seat.invariant in
    let has' : Contains v.joined n = subst (λ (k : SeatState). Contains k.joined n) (sym is) has in
    ap (λ us. by_seat n (view_of us).seen) now ∙ (by_other n v.seen (passed_by v.number e) (λ same. seat.apart n has' (sym same)) ∙ ap (λ (k : SeatState). by_seat n k.seen) is)
