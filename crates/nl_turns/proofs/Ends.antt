-- The rule as the lock is made, and what it tells as the lock is closed.
use Rattle.std.proofs.Common.{◌≡◌, ◌==◌, ℕ, zero, suc, ◌+◌, ◌-◌, ◌<◌, ◌≤◌, Bool, true, false, List, [], ◌∷◌, refl, sym, ap, ◌∙◌, subst, arith, Option, Some, None, true≢false, ne_eqb}
use mathlib.Core.Logic.{dite}
use mathlib.Core.Option.{none, some, some-ne-none, some-injective}
use mathlib.Core.Option as maybe
use native.Mathlib.Decide.{ℕ_discrete}
use lib.ListN.{get_elem?}
use Rattle.atomic_table.specs.Table.{State, opening, Final, Seen}
use Rattle.nl_turns.specs.History.{Opening}
use Rattle.nl_turns.specs.Seat.{Passed}
use Rattle.nl_turns.specs.View.{idle}
use Rattle.nl_turns.specs.View.{View}
use Rattle.nl_turns.specs.Seat.{by_seat}
use Rattle.nl_turns.specs.Rule.{is_living, first_view, IsTurn, SlotFits, Truth, ViewFits, At, IsTicketLock}
use Rattle.nl_turns.proofs.Views.{two_there}
use Rattle.nl_turns.proofs.Histories.{prefix_self, whole_by}
use Rattle.nl_turns.proofs.Moves.{turn_lives}

module _ {V : Type 0} (stands : Opening → List Passed → V → Type 0) (o : Opening) (seats : ℕ) where
  abbrev St : Type 0
  St = State (Option V) View

  abbrev Rule : St → Type 0
  Rule = IsTicketLock stands o seats

  pub start_keeps : (y : V) → 0 < seats → seats ≤ 10 → stands o [] y → Rule (opening (0 ∷ 0 ∷ []) (Some y ∷ []) (first_view o seats))
  start_keeps y some_seat few stood = record {
    truth = k;
    home = some (Some y);
    words = refl;
    slot = refl;
    few = few;
    counted = refl;
    seated = omega arith;
    whole = refl;
    each = λ j v at living. go j v at;
    out = λ e. absurd (omega arith);
    spot = (refl, stood);
    fresh = λ n le. (ne_eqb n 0 (λ e. omega arith), refl);
    held = λ n so. (first_view o seats, refl, refl, sym (is_zero n so));
  }
    where
      k : Truth
      k = record { drawn = 0; passed = 0; all = []; spot = 0; owner = λ _. 0; holder = λ _. 0; in_use = λ n. n == 0; places = seats - 1; next = 1 }

      is_zero : (n : ℕ) → (n == 0) ≡ true → n ≡ 0
      is_zero zero e = refl
      is_zero (suc n) e = absurd (true≢false (sym e ∙ ne_eqb (suc n) 0 (λ h. omega arith)))

      ok : ViewFits o k 0 (first_view o seats)
      ok = record {
        opening_is = refl;
        number = (refl, refl);
        seen = prefix_self [];
        own = refl;
        ticket = λ t h. absurd h;
        turn = λ t h. absurd h;
        host = tt;
        joined = λ n h. let below = h.1 in absurd (omega arith);
        first = λ _. (refl, refl, λ n _. refl);
      }

      go : (j : ℕ) (v : View) → At (first_view o seats ∷ []) j v → ViewFits o k j v
      go zero v e = subst (ViewFits o k 0) (some-injective _ _ e) ok
      go (suc j) v e = absurd (some-ne-none v (sym e))

  -- with all places back, the first seat has seen the whole list, and the value is at home
  pub end_tells : (id : ℕ) (v : View) (ws : List ℕ) (xs : List (Option V)) → v.role ≡ idle → v.number ≡ 0 → v.places + 1 ≡ seats → Final (Seen Rule id v) ws xs
      → (y : V) × (get_elem? xs 0 ≡ some (Some y)) × stands v.opening v.seen y
  end_tells id v ws xs at_rest first places final =
      let h = at_home r.home refl in
      (h.0, final.4 0 (Some h.0) (ap (λ hs. get_elem? hs 0) r.slot ∙ ap some h.1), subst (λ (z : Opening × List Passed). stands z.0 z.1 h.0) (λ i. (sym ok.opening_is i, sym whole i)) h.2)
    where
      s : St
      s = final.0

      r : Rule s
      r = final.1.0

      at : At s.views id v
      at = final.1.1

      k : Truth
      k = r.truth

      living : is_living v.role ≡ true
      living = ap is_living at_rest

      ok : ViewFits o k id v
      ok = r.each id v at living

      alone_is : (n : ℕ) → k.in_use n ≡ true → (k.holder n ≡ id) × (n ≡ 0)
      alone_is n so =
          let h = r.held n so in
          dite (ℕ_discrete (k.holder n) id)
          (λ same. let is : h.0 ≡ v = some-injective _ _ (sym h.1 ∙ (ap (λ i. get_elem? s.views i) same ∙ at)) in (same, sym h.3 ∙ (ap (λ (z : View). z.number) is ∙ first)))
          (λ other.
          let two = two_there (λ (x : View). is_living x.role) s.views (k.holder n) id h.0 v other h.1 at h.2 living in
          let sum = r.seated in
          let f = (ok.first first).0 in
          absurd (omega arith))

      each_of : (n : ℕ) (b : Bool) → k.in_use n ≡ b → by_seat n v.seen ≡ by_seat n k.all
      each_of n true e = ap (λ (m : ℕ). by_seat m v.seen) ((alone_is n e).1 ∙ sym first) ∙ (ok.own ∙ ap (λ (m : ℕ). by_seat m k.all) (first ∙ sym (alone_is n e).1))
      each_of n false e = (ok.first first).2 n e

      whole : v.seen ≡ k.all
      whole = whole_by v.seen k.all ok.seen (λ n. each_of n (k.in_use n) refl)

      -- nobody has the turn
      nobody : 0 < k.spot → ⊥
      nobody busy =
          let h = r.out busy in
          let u = r.each (k.owner k.passed) h.0 h.1 (turn_lives h.0.role k.passed h.2) in
          let here : k.owner k.passed ≡ id = sym u.number.0 ∙ (alone_is h.0.number u.number.1).0 in
          let is : h.0 ≡ v = some-injective _ _ (sym h.1 ∙ (ap (λ i. get_elem? s.views i) here ∙ at)) in
          subst (λ x. IsTurn x k.passed) (ap (λ (z : View). z.role) is ∙ at_rest) h.2

      at_home : (h : maybe.Option (Option V)) → r.home ≡ h → (y : V) × (r.home ≡ some (Some y)) × stands o k.all y
      at_home none e = let q : k.spot ≡ 1 = subst (SlotFits (stands o k.all) k.spot) e r.spot in absurd (nobody (omega arith))
      at_home (some None) e = let q : k.spot ≡ 2 = subst (SlotFits (stands o k.all) k.spot) e r.spot in absurd (nobody (omega arith))
      at_home (some (Some y)) e = let q = subst (SlotFits (stands o k.all) k.spot) e r.spot in (y, e, q.1)
