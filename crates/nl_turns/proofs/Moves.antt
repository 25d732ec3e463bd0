-- A step of one seat keeps the rule, where what changes fits it.
use Rattle.std.proofs.Common.{◌≡◌, ◌≢◌, ℕ, ◌+◌, ◌%◌, ◌^◌, ◌<◌, ◌≤◌, Bool, true, false, cond, List, [], ◌∷◌, length, set, refl, sym, ap, ◌∙◌, subst, ⊎_elim, arith, Option, true≢false}
use mathlib.Core.Logic.{dite}
use mathlib.Core.Option.{none, some, some-ne-none, some-injective}
use mathlib.Core.Option as maybe
use native.Mathlib.Decide.{ℕ_discrete}
use lib.ListN.{get_elem?}
use Rattle.atomic_table.specs.Table.{State, Step, step}
use Rattle.atomic_table.proofs.Lists.{at_set, set_here, set_else}
use Rattle.nl_turns.specs.History.{Opening}
use Rattle.nl_turns.specs.Seat.{Passed}
use Rattle.nl_turns.specs.View.{Role}
use Rattle.nl_turns.specs.View.{blank, idle, waits, enters, inside, leaves, hosts, spent}
use Rattle.nl_turns.specs.View.{View}
use Rattle.nl_turns.specs.Seat.{by_seat}
use Rattle.nl_turns.specs.Rule.{HasTicket, has_any_ticket, is_living, IsTurn, spot_of, SlotFits, Truth, ViewFits, At, IsTicketLock}
use Rattle.std.proofs.lemmas.List.Sums.{sum_by-le-sum_by}
use Rattle.nl_turns.proofs.Views.{at_get, count_set}

abbrev pub moved : Truth → ℕ → ℕ → List Passed → ℕ → (ℕ → ℕ) → Truth
moved w drawn passed all spot owner = record w { drawn = drawn; passed = passed; all = all; spot = spot; owner = owner }

pub turn_lives : (x : Role) (t : ℕ) → IsTurn x t → is_living x ≡ true
turn_lives (enters u) t h = refl
turn_lives (inside u) t h = refl
turn_lives (leaves u) t h = refl
turn_lives blank t h = absurd h
turn_lives idle t h = absurd h
turn_lives (waits u) t h = absurd h
turn_lives (hosts n xs ys) t h = absurd h
turn_lives spent t h = absurd h

pub turn_has : (x : Role) (t : ℕ) → IsTurn x t → HasTicket x t
turn_has (enters u) t h = h
turn_has (inside u) t h = h
turn_has (leaves u) t h = h
turn_has blank t h = absurd h
turn_has idle t h = absurd h
turn_has (waits u) t h = absurd h
turn_has (hosts n xs ys) t h = absurd h
turn_has spent t h = absurd h

pub turn_spot : (x : Role) (t : ℕ) → IsTurn x t → 0 < spot_of x
turn_spot (enters u) t h = omega arith
turn_spot (inside u) t h = omega arith
turn_spot (leaves u) t h = omega arith
turn_spot blank t h = absurd h
turn_spot idle t h = absurd h
turn_spot (waits u) t h = absurd h
turn_spot (hosts n xs ys) t h = absurd h
turn_spot spent t h = absurd h

pub one_if : (b : Bool) → b ≡ true → cond {A = ℕ} b 1 0 ≡ 1
one_if true e = refl
one_if false e = absurd (true≢false (sym e))

pub zero_if : (b : Bool) → b ≡ false → cond {A = ℕ} b 1 0 ≡ 0
zero_if true e = absurd (true≢false e)
zero_if false e = refl

-- no step of this lock reads its operands
abbrev pub any : {V : Type 0} → Step (Option V)
any = step 0 0 0 0 none

module _ {V : Type 0} (stands : Opening → List Passed → V → Type 0) (o : Opening) (seats : ℕ) where
  abbrev St : Type 0
  St = State (Option V) View

  abbrev Rule : St → Type 0
  Rule = IsTicketLock stands o seats

  -- a step of one seat, which changes neither its number nor its places
  pub moves : (s : St) (r : Rule s) (id : ℕ) (v w : View) (drawn passed : ℕ) (all : List Passed) (spot : ℕ) (owner : ℕ → ℕ) (words : List ℕ) (homes : List (maybe.Option (Option V))) (home : maybe.Option (Option V))
      → At s.views id v → is_living v.role ≡ true → is_living w.role ≡ true → w.number ≡ v.number
      → words ≡ drawn % 2 ^ 64 ∷ passed % 2 ^ 64 ∷ [] → homes ≡ home ∷ []
      → passed + r.truth.drawn + cond (has_any_ticket w.role) 1 0 ≡ drawn + r.truth.passed + cond (has_any_ticket v.role) 1 0
      → length all ≡ passed
      → ViewFits o (moved r.truth drawn passed all spot owner) id w
      → ((j : ℕ) (u : View) → j ≢ id → At s.views j u → ViewFits o r.truth j u → ViewFits o (moved r.truth drawn passed all spot owner) j u)
      → (0 < spot → (u : View) × At (set s.views id w) (owner passed) u × IsTurn u.role passed)
      → SlotFits (stands o all) spot home
      → ((n : ℕ) → r.truth.in_use n ≡ false → by_seat n r.truth.all ≡ [] → by_seat n all ≡ [])
      → Rule record { words = words; homes = homes; views = set s.views id w }
  moves s r id v w drawn passed all spot owner words homes home at living living' number words_are homes_are counts whole mine others out spot_ok fresh = record {
    truth = moved r.truth drawn passed all spot owner;
    home = home;
    words = words_are;
    slot = homes_are;
    few = r.few;
    counted = (
        let c = count_set (λ (x : View). has_any_ticket x.role) s.views id v w at in
        let k = r.counted in
        omega arith);
    seated = (
        let c = count_set (λ (x : View). is_living x.role) s.views id v w at in
        let a : cond {A = ℕ} (is_living v.role) 1 0 ≡ 1 = one_if _ living in
        let b : cond {A = ℕ} (is_living w.role) 1 0 ≡ 1 = one_if _ living' in
        let k = r.seated in
        omega arith);
    whole = whole;
    each = λ j u e l. ⊎_elim
        (λ (t : (j ≡ id) × (w ≡ u)). subst (λ (z : ℕ × View). ViewFits o (moved r.truth drawn passed all spot owner) z.0 z.1) (λ i. (sym t.0 i, t.1 i)) mine)
        (λ (t : (j ≢ id) × At s.views j u). others j u t.0 t.1 (r.each j u t.1 l))
        (at_set s.views id j w u e);
    out = out;
    spot = spot_ok;
    fresh = λ n le. let f = r.fresh n le in (f.0, fresh n f.0 f.1);
    held = λ n l. let h = r.held n l in
        dite (ℕ_discrete (r.truth.holder n) id)
        (λ e. let same : h.0 ≡ v = some-injective _ _ (sym h.1 ∙ (ap (λ k. get_elem? s.views k) e ∙ at)) in
        (w, ap (λ k. get_elem? (set s.views id w) k) e ∙ set_here s.views id w (at_get s.views id v v at).0, living', number ∙ (ap (λ (z : View). z.number) (sym same) ∙ h.3)))
        (λ other. (h.0, set_else s.views id (r.truth.holder n) w other ∙ h.1, h.2, h.3));
  }

  -- fewer than 2^64 turns lie between the two counts
  pub near : (s : St) (r : Rule s) → (r.truth.passed ≤ r.truth.drawn) × (r.truth.drawn ≤ r.truth.passed + 10)
  near s r =
      let le = sum_by-le-sum_by (λ (x : View). cond {A = ℕ} (has_any_ticket x.role) 1 0) (λ (x : View). cond {A = ℕ} (is_living x.role) 1 0) s.views (λ x. fewer x.role) in
      let c = r.counted in
      let d = r.seated in
      let e = r.few in
      (omega arith, omega arith)
    where
      fewer : (x : Role) → cond {A = ℕ} (has_any_ticket x) 1 0 ≤ cond {A = ℕ} (is_living x) 1 0
      fewer blank = omega arith
      fewer idle = omega arith
      fewer (waits u) = omega arith
      fewer (enters u) = omega arith
      fewer (inside u) = omega arith
      fewer (leaves u) = omega arith
      fewer (hosts n xs ys) = omega arith
      fewer spent = omega arith
