-- The seat between calls.
use Rattle.std.proofs.Common.{◌≢◌, ⊎_elim, ◌≡◌, ℕ, ◌+◌, ◌<◌, true, false, List, [], ◌∷◌, refl, sym, ap, ◌∙◌, subst, true≢false, arith}
use Rattle.std.specs.Prelude.{Contains}
use Rattle.nl_turns.specs.Seat.{by_seat, passed_by}
use Rattle.nl_turns.specs.View.{Role, blank, idle, waits, enters, inside, leaves, hosts, spent, View}
use Rattle.nl_turns.specs.Rule.{HostFits}
use Rattle.nl_turns.specs.Steps.{after_pass, after_join, NumbersAreGiven, is_inside, IsBetweenCalls, OneViewAtRest, view_of, IsSeat}
use Rattle.nl_turns.specs.declared.entry.Entry.{Entry}
use Rattle.nl_turns.proofs.Histories.{by_other}
use Rattle.nl_turns.proofs.Views.{contains_more}

between_calls : (vs : List View) → OneViewAtRest vs → IsBetweenCalls (view_of vs).role
between_calls [] h = absurd h
between_calls (v ∷ []) h = h
between_calls (v ∷ w ∷ vs) h = absurd h

inside_of : (x : Role) → is_inside x ≡ true → (t : ℕ) × (x ≡ inside t)
inside_of (inside t) e = (t, refl)
inside_of blank e = absurd (true≢false (sym e))
inside_of idle e = absurd (true≢false (sym e))
inside_of (waits t) e = absurd (true≢false (sym e))
inside_of (enters t) e = absurd (true≢false (sym e))
inside_of (leaves t) e = absurd (true≢false (sym e))
inside_of (hosts n xs ys) e = absurd (true≢false (sym e))
inside_of spent e = absurd (true≢false (sym e))

idle_of : (x : Role) → is_inside x ≡ false → IsBetweenCalls x → x ≡ idle
idle_of (inside t) e h = absurd (true≢false e)
idle_of blank e h = absurd h
idle_of idle e h = refl
idle_of (waits t) e h = absurd h
idle_of (enters t) e h = absurd h
idle_of (leaves t) e h = absurd h
idle_of (hosts n xs ys) e h = absurd h
idle_of spent e h = absurd h

-- the view of a seat that was made of such a badge
pub at_turn : (vs : List View) (v : View) → vs ≡ v ∷ [] → is_inside (view_of vs).role ≡ true → (t : ℕ) × (v.role ≡ inside t)
at_turn vs v e w = let t = inside_of (view_of vs).role w in (t.0, ap (λ us. (view_of us).role) (sym e) ∙ t.1)

pub at_rest : (vs : List View) (v : View) → OneViewAtRest vs → vs ≡ v ∷ [] → is_inside (view_of vs).role ≡ false → v.role ≡ idle
at_rest vs v h e w = ap (λ us. (view_of us).role) (sym e) ∙ idle_of (view_of vs).role w (between_calls vs h)

-- after a join the entries of seats that were taken back before are as they were
pub joined_stay : (v w u : View) → u ≡ after_join v w → HostFits u u.role → (n : ℕ) → Contains v.joined n → by_seat n u.seen ≡ by_seat n v.seen
joined_stay v w u is host n has =
    let fits : HostFits (after_join v w) (after_join v w).role = subst (λ (x : View). HostFits x x.role) is host in
    ap (λ (x : View). by_seat n x.seen) is ∙ fits.4 n has

-- after a pass: the first seat's own entry has a number that was given
pub pass_keeps_seat : (v : View) (e : Entry) (places : ℕ) → IsSeat (v ∷ []) places → IsSeat (after_pass v e ∷ []) places
pass_keeps_seat v e places seat = record {
  settled = tt;
  places_are = seat.places_are;
  numbers = λ first.
      let k = seat.numbers first in
      (k.0, λ n le. by_other n v.seen (passed_by v.number e) (λ same. omega (arith, same, first, k.0, le)) ∙ k.1 n le);
  apart = seat.apart;
}

-- after a join: the other number differs from the seat's own, and the read of a word told the rest
pub join_keeps_seat : (v w u : View) (places : ℕ) → u ≡ after_join v w → HostFits u u.role → NumbersAreGiven u u.seen → IsSeat (v ∷ []) places → IsSeat (record u { role = idle } ∷ []) (places + 1)
join_keeps_seat v w u places is host told seat = record {
  settled = tt;
  places_are = ap (λ (n : ℕ). n + 1) seat.places_are ∙ sym (ap (λ (x : View). x.places) is);
  numbers = λ first.
      let k = seat.numbers (sym number ∙ first) in
      let next : u.next ≡ v.next = ap (λ (x : View). x.next) is in
      (subst (λ n. 0 < n) (sym next) k.0, told first);
  apart = λ n has.
      let has' : Contains (w.number ∷ v.joined) n = subst (λ (x : View). Contains x.joined n) is has in
      let ne : n ≢ v.number = ⊎_elim (λ (e : w.number ≡ n). λ same. fits.5 (e ∙ same)) (λ h. seat.apart n h) (contains_more n w.number v.joined has') in
      λ same. ne (same ∙ number);
}
  where
    fits : HostFits (after_join v w) (after_join v w).role
    fits = subst (λ (x : View). HostFits x x.role) is host

    number : u.number ≡ v.number
    number = ap (λ (x : View). x.number) is
