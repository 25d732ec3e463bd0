-- The page that an address takes is its first one outside the spare block, else its first.
use Rattle.std.proofs.Common.{◌≡◌, ◌⊎◌, inl, inr, ℕ, ◌==◌, ◌∙◌, Bool, true, false, ◌&&◌, cond, List, [], ◌∷◌, Option, Some, None, refl, sym, ap}
use Rattle.std.specs.Prelude.{find, fold}
use Rattle.std.proofs.lemmas.Bool.{and_from, and_parts, cases_Bool, cond-true, cond-false, eqb-true}
use Rattle.std.proofs.lemmas.Option.{none-some, same_Some}
use Rattle.nl_field.specs.Space.{is_outside}
use Rattle.nl_vseg.proofs.Members.{In, find_in}
use Rattle.nl_device.specs.Opening.{with_offers, first_outside, or_else, pick_of, with_pick}
use Rattle.nl_device.specs.declared.opening.own.Own.{Own}

or_none : {X : Type 0} (o : Option X) → or_else o None ≡ o
or_none None = refl
or_none (Some x) = refl

same_both : {X : Type 0} (b : Bool) (x : X) → cond b x x ≡ x
same_both true x = refl
same_both false x = refl

module _ (size : ℕ) (spare : Option ℕ) (v : ℕ) where
  abbrev step : Option Own → Own → Option Own
  step y o = cond (o.vaddr == v) (with_pick size spare y o) y

  abbrev test : Own → Bool
  test o = o.vaddr == v && is_outside size spare o.page

  fold_some : (os : List Own) (x : Own) → fold step (Some x) os ≡ Some x
  fold_some [] x = refl
  fold_some (o ∷ os) x = ap (λ y. fold step y os) (same_both (o.vaddr == v) (Some x)) ∙ fold_some os x

  step_taken : (o : Own) → test o ≡ true → step None o ≡ Some o
  step_taken o is =
      let parts = and_parts (o.vaddr == v) (is_outside size spare o.page) is in
      cond-true (o.vaddr == v) (with_pick size spare None o) None parts.0 ∙ cond-true (is_outside size spare o.page) (Some o) None parts.1

  step_left : (o : Own) → test o ≡ false → step None o ≡ None
  step_left o fails = elim (cases_Bool (o.vaddr == v)) [
    | inr other ↦ cond-false (o.vaddr == v) (with_pick size spare None o) None other
    | inl here ↦ elim (cases_Bool (is_outside size spare o.page)) [
      | inl outside ↦ cond-true (o.vaddr == v) (with_pick size spare None o) None here ∙ (cond-true (is_outside size spare o.page) (Some o) None outside
          ∙ absurd (differ (sym fails ∙ and_from (o.vaddr == v) (is_outside size spare o.page) here outside)))
      | inr inside ↦ cond-true (o.vaddr == v) (with_pick size spare None o) None here ∙ cond-false (is_outside size spare o.page) (Some o) None inside
    ]
  ]
    where
      differ : false ≡ true → ⊥
      differ e = cc

  fold_none : (os : List Own) → fold step None os ≡ find test os
  fold_none [] = refl
  fold_none (o ∷ os) = elim (cases_Bool (test o)) [
    | inl takes ↦ ap (λ y. fold step y os) (step_taken o takes) ∙ (fold_some os o ∙ sym (cond-true (test o) (Some o) (find test os) takes))
    | inr leaves ↦ ap (λ y. fold step y os) (step_left o leaves) ∙ (fold_none os ∙ sym (cond-false (test o) (Some o) (find test os) leaves))
  ]

  fold_is : (os : List Own) (pick : Option Own) → fold step pick os ≡ or_else pick (find test os)
  fold_is os None = fold_none os
  fold_is os (Some x) = fold_some os x

pub filled_is : (size : ℕ) (spare : Option ℕ) (needed : List Own) (pick : Option Own) (v : ℕ) → with_offers size spare needed pick v ≡ or_else pick (first_outside size spare needed v)
unfolding with_offers
filled_is size spare needed pick v = fold_is size spare v needed pick

-- two fillings, outside the block first
pub picked : (size : ℕ) (spare : Option ℕ) (needed : List Own) (v : ℕ) → with_offers size None needed (with_offers size spare needed None v) v ≡ pick_of size spare needed v
unfolding pick_of
picked size spare needed v = filled_is size None needed (with_offers size spare needed None v) v ∙ ap (λ o. or_else o (first_outside size None needed v)) (filled_is size spare needed None v)

pub find_passes : {X : Type 0} (p : X → Bool) (xs : List X) (x : X) → find p xs ≡ Some x → p x ≡ true
find_passes p [] x is = absurd (none-some x is)
find_passes p (y ∷ ys) x is = elim (cases_Bool (p y)) [
  | inl holds ↦ ap p (sym (same_Some y x (sym (cond-true (p y) (Some y) (find p ys) holds) ∙ is))) ∙ holds
  | inr fails ↦ find_passes p ys x (sym (cond-false (p y) (Some y) (find p ys) fails) ∙ is)
]

pub first_in : (size : ℕ) (spare : Option ℕ) (needed : List Own) (v : ℕ) (o : Own) → first_outside size spare needed v ≡ Some o → In o needed × (o.vaddr ≡ v) × (is_outside size spare o.page ≡ true)
first_in size spare needed v o is =
    let passes = and_parts (o.vaddr == v) (is_outside size spare o.page) (find_passes (λ (o : Own). o.vaddr == v && is_outside size spare o.page) needed o is) in
    (find_in (λ (o : Own). o.vaddr == v && is_outside size spare o.page) o needed is, eqb-true o.vaddr v passes.0, passes.1)

-- the page of an address is one of the needed ones, and inside the block only where no page outside it is needed
pub pick_in : (size : ℕ) (spare : Option ℕ) (needed : List Own) (v : ℕ) (o : Own) → pick_of size spare needed v ≡ Some o
    → In o needed × (o.vaddr ≡ v) × ((is_outside size spare o.page ≡ true) ⊎ (first_outside size spare needed v ≡ None))
unfolding pick_of
pick_in size spare needed v o is = by_first (first_outside size spare needed v) refl is
  where
    by_first : (first : Option Own) → first_outside size spare needed v ≡ first → or_else first (first_outside size None needed v) ≡ Some o
        → In o needed × (o.vaddr ≡ v) × ((is_outside size spare o.page ≡ true) ⊎ (first_outside size spare needed v ≡ None))
    by_first None e is = let f = first_in size None needed v o is in (f.0, f.1, inr e)
    by_first (Some x) e is = let f = first_in size spare needed v o (e ∙ is) in (f.0, f.1, inl f.2)
