-- The first seat takes two seats back.
use Rattle.std.proofs.Common.{◌≡◌, ℕ, suc, ◌+◌, List, ◌∷◌, refl, sym, ap, ◌∙◌, subst, arith}
use Rattle.std.specs.Prelude.{Contains}
use mathlib.Core.List.{IsPrefix}
use Rattle.nl_turns.specs.Seat.{SeatState, by_seat, longer, NoNumberBeyond}
use Rattle.nl_turns.proofs.Histories.{prefix_trans}
use Rattle.nl_workers.specs.Going.{TookSeatsBack}

contains_cons : (n m : ℕ) (ms : List ℕ) → Contains ms n → Contains (m ∷ ms) n
contains_cons n m ms h = (suc h.0, let below = h.1 in omega arith, h.2)

contains_here : (m : ℕ) (ms : List ℕ) → Contains (m ∷ ms) m
contains_here m ms = (0, omega arith, refl)

pub both_home : (seat first second s1 after : SeatState)
    → s1 ≡ record seat { seen = longer seat.seen first.seen; places = seat.places + 1; joined = first.number ∷ seat.joined } → IsPrefix seat.seen s1.seen × IsPrefix first.seen s1.seen
    → by_seat 0 s1.seen ≡ by_seat 0 seat.seen → by_seat first.number s1.seen ≡ by_seat first.number first.seen → ((n : ℕ) → Contains seat.joined n → by_seat n s1.seen ≡ by_seat n seat.seen)
    → after ≡ record s1 { seen = longer s1.seen second.seen; places = s1.places + 1; joined = second.number ∷ s1.joined } → IsPrefix s1.seen after.seen × IsPrefix second.seen after.seen
    → by_seat 0 after.seen ≡ by_seat 0 s1.seen → by_seat second.number after.seen ≡ by_seat second.number second.seen → ((n : ℕ) → Contains s1.joined n → by_seat n after.seen ≡ by_seat n s1.seen)
    → NoNumberBeyond after.next after.seen → TookSeatsBack seat first second after
both_home seat first second s1 after seat1 grows1 own1 theirs1 joined1 seat2 grows2 own2 theirs2 joined2 numbers2 =
    let joins : s1.joined ≡ first.number ∷ seat.joined = ap (λ (z : SeatState). z.joined) seat1 in
    let a : after.lock ≡ seat.lock = ap (λ (z : SeatState). z.lock) seat2 ∙ ap (λ (z : SeatState). z.lock) seat1 in
    let b : after.number ≡ seat.number = ap (λ (z : SeatState). z.number) seat2 ∙ ap (λ (z : SeatState). z.number) seat1 in
    let c : after.opening ≡ seat.opening = ap (λ (z : SeatState). z.opening) seat2 ∙ ap (λ (z : SeatState). z.opening) seat1 in
    let d : after.has_turn ≡ seat.has_turn = ap (λ (z : SeatState). z.has_turn) seat2 ∙ ap (λ (z : SeatState). z.has_turn) seat1 in
    let e : after.next ≡ seat.next = ap (λ (z : SeatState). z.next) seat2 ∙ ap (λ (z : SeatState). z.next) seat1 in
    let f : after.places ≡ s1.places + 1 = ap (λ (z : SeatState). z.places) seat2 in
    let g : s1.places ≡ seat.places + 1 = ap (λ (z : SeatState). z.places) seat1 in
    let p : after.places ≡ seat.places + 2 = omega arith in
    record {
      same = λ i. record { lock = a i; number = b i; opening = c i; seen = after.seen; has_turn = d i; places = p i; next = e i; joined = after.joined };
      grows = prefix_trans seat.seen s1.seen after.seen grows1.0 grows2.0;
      grows_first = prefix_trans first.seen s1.seen after.seen grows1.1 grows2.0;
      grows_second = grows2.1;
      own = own2 ∙ own1;
      first_is = joined2 first.number (subst (λ (js : List ℕ). Contains js first.number) (sym joins) (contains_here first.number seat.joined)) ∙ theirs1;
      second_is = theirs2;
      joined = λ n h. joined2 n (subst (λ (js : List ℕ). Contains js n) (sym joins) (contains_cons n first.number seat.joined h)) ∙ joined1 n h;
      numbers = numbers2;
    }
