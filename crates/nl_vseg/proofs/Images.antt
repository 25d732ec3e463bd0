-- What a program and an erase, whole or cut short, make of what an image shows.
use Rattle.std.proofs.Common.{◌≡◌, ◌⊎◌, inl, inr, ⊎_elim, ℕ, ◌+◌, ◌*◌, ◌<◌, ◌≤◌, Option, Some, None, List, refl, sym, ◌∙◌, ap, subst, arith}
use Rattle.std.proofs.lemmas.Bool.{cases_eq}
use Rattle.std.proofs.lemmas.Option.{none-some, same_Some}
use Rattle.nl_field.specs.Page.{Page, erased, uncorrectable, Image, page_at}
use Rattle.nl_nand.specs.Nand.{Cut}
use Rattle.nl_nand.proofs.Crashes.{outside}
use Rattle.nl_vseg.specs.Pages.{Fact, fact_of, main_of, PageShows, IsBeside}
use Rattle.nl_vseg.specs.Places.{place_of, value_at, map_of, PlacesShow, AreBelow, IsUnmapped}
use Rattle.nl_vseg.specs.Copying.{IsCopy, ChangedIn}
use Rattle.nl_vseg.specs.Effects.{ImageKeepsMap, GainsValue}
use Rattle.nl_vseg.specs.declared.place.Place.{Place}

-- a page that shows something is not erased
pub shows_nothing : (page : Page) (f : Fact) → page ≡ erased → fact_of page ≡ Some f → ⊥
shows_nothing page f is shows = none-some f (sym (ap fact_of is) ∙ shows)

-- what a page shows after an operation, it showed before, or it is the value
pub cut_fact : {low high : ℕ} {value : Page} {old c : Image} → Cut low high value old c → (p : ℕ) (f : Fact) → fact_of (page_at c p) ≡ Some f
    → (fact_of (page_at old p) ≡ Some f) ⊎ ((low ≤ p) × (p < high) × (fact_of value ≡ Some f))
cut_fact {low} {high} {value} {old} {c} cut p f shows = elim (cut.each p) [
  | inl same ↦ inl (sym (ap fact_of same) ∙ shows)
  | inr within ↦ elim within.2 [
    | inl new ↦ inr (within.0, within.1, sym (ap fact_of new) ∙ shows)
    | inr lost ↦ absurd (none-some f (sym (ap fact_of lost) ∙ shows))
  ]
]

module _ (pages bound : ℕ) (places : List (Option Place)) (old : Image) (holds : PlacesShow old places) (below : AreBelow bound places) where
  -- what the map has is at a place
  pub at_place : (v s : ℕ) (main : List ℕ) (x : Option Place) → place_of places v ≡ x → value_at old x ≡ Some (s, main)
      → (place : Place) × (place_of places v ≡ Some place) × (fact_of (page_at old place.page) ≡ Some (v, s, main))
  at_place v s main None named is = absurd (none-some (s, main) is)
  at_place v s main (Some place) named is =
      let P : ℕ × List ℕ → Type 0 = λ x. fact_of (page_at old place.page) ≡ Some (v, x.0, x.1) in
      (place, named, subst P (same_Some (place.stamp, main_of (page_at old place.page)) (s, main) is) (holds v place named))

  -- where the pages of the map stay, and nothing new is shown
  pub keeps_beside : (block : ℕ) → block * pages + pages ≤ bound → IsUnmapped pages places block → (c : Image)
      → ((v : ℕ) (place : Place) → place_of places v ≡ Some place → page_at c place.page ≡ page_at old place.page)
      → ((v t : ℕ) (n : List ℕ) → PageShows bound c v t n → PageShows bound old v t n)
      → ((p : ℕ) → bound ≤ p → page_at c p ≡ page_at old p)
      → ImageKeepsMap pages bound (map_of places old) old c
  keeps_beside block within unmapped c same no_more beyond = record {
    spare = block;
    within = within;
    there = λ v s main is.
        let e = at_place v s main (place_of places v) refl is in
        (e.0.page, below v e.0 e.1, unmapped v e.0 e.1, ap fact_of (same v e.0 e.1) ∙ e.2);
    no_more = no_more;
    beyond = beyond;
  }

  -- nothing changed
  pub keeps_same : (block : ℕ) → block * pages + pages ≤ bound → IsUnmapped pages places block → ImageKeepsMap pages bound (map_of places old) old old
  keeps_same block within unmapped = keeps_beside block within unmapped old (λ v place named. refl) (λ v t n shows. shows) (λ p above. refl)

  -- an erase of a block without a page of the map
  pub keeps_erase : (block : ℕ) → block * pages + pages ≤ bound → IsUnmapped pages places block → (c : Image)
      → Cut (block * pages) (block * pages + pages) erased old c → ImageKeepsMap pages bound (map_of places old) old c
  keeps_erase block within unmapped c cut = keeps_beside block within unmapped c
      (λ v place named. outside cut place.page (unmapped v place named))
      (λ v t n shows. ⊎_elim
      (λ was. (shows.0, shows.1, was))
      (λ new. absurd (none-some (v, t, n) new.2))
      (cut_fact cut shows.0 (v, t, n) shows.2))
      (λ p above. outside cut p (inr (omega (arith, above, within))))

  -- changes in a block without a page of the map
  pub keeps_changed : (block : ℕ) → block * pages + pages ≤ bound → IsUnmapped pages places block → (c : Image) → ChangedIn pages block places old c
      → ImageKeepsMap pages bound (map_of places old) old c
  keeps_changed block within unmapped c changed = keeps_beside block within unmapped c
      (λ v place named. changed.same place.page (unmapped v place named))
      (λ v t n shows. shown v t n shows.0 shows.1 shows.2 (changed.each shows.0))
      (λ p above. changed.same p (inr (omega (arith, above, within))))
    where
      shown : (v t : ℕ) (n : List ℕ) (p : ℕ) → p < bound → fact_of (page_at c p) ≡ Some (v, t, n)
          → (page_at c p ≡ page_at old p) ⊎ ((fact_of (page_at c p) ≡ None) ⊎ IsCopy places old (page_at c p)) → PageShows bound old v t n
      shown v t n p p_below is (inl same) = (p, p_below, sym (ap fact_of same) ∙ is)
      shown v t n p p_below is (inr (inl nothing)) = absurd (none-some (v, t, n) (sym nothing ∙ is))
      shown v t n p p_below is (inr (inr copy)) = (copy.1.0.page, below copy.0 copy.1.0 copy.1.1.0, sym copy.1.1.1 ∙ is)

  -- no page of the map is erased
  pub apart_from_erased : (at : ℕ) → page_at old at ≡ erased → (v : ℕ) (place : Place) → place_of places v ≡ Some place → place.page ≡ at → ⊥
  apart_from_erased at blank v place named is = shows_nothing (page_at old place.page) (v, place.stamp, main_of (page_at old place.page)) (ap (page_at old) is ∙ blank) (holds v place named)

  module _ (at spare v s : ℕ) (main : List ℕ) (value : Page) (blank : page_at old at ≡ erased) (at_below : at < bound) (beside : IsBeside pages spare at)
      (within : spare * pages + pages ≤ bound) (unmapped : IsUnmapped pages places spare) (shows : fact_of value ≡ Some (v, s, main)) (c : Image) (cut : Cut at (at + 1) value old c) where
    other : (p : ℕ) → (p ≡ at → ⊥) → page_at c p ≡ page_at old p
    other p ne = ⊎_elim (λ same. same) (λ in_range. absurd (ne (omega (arith, in_range.0, in_range.1)))) (cut.each p)

    pub place_stays : (u : ℕ) (place : Place) → place_of places u ≡ Some place → page_at c place.page ≡ page_at old place.page
    place_stays u place named = other place.page (apart_from_erased at blank u place named)

    beyond : (p : ℕ) → bound ≤ p → page_at c p ≡ page_at old p
    beyond p above = other p (λ is. absurd (omega (arith, is, above, at_below)))

    -- the page is there
    pub takes_new : page_at c at ≡ value → GainsValue pages bound (map_of places old) v s main old c
    takes_new new = record {
      spare = spare;
      within = within;
      new = (at, at_below, beside, ap fact_of new ∙ shows);
      there = λ u t n is.
          let e = at_place u t n (place_of places u) refl is in
          (e.0.page, below u e.0 e.1, unmapped u e.0 e.1, ap fact_of (place_stays u e.0 e.1) ∙ e.2);
      no_more = λ u t n shown. ⊎_elim
          (λ was. inl (shown.0, shown.1, was))
          (λ now. inr (parts u t n (sym shows ∙ now.2)))
          (cut_fact cut shown.0 (u, t, n) shown.2);
      beyond = beyond;
    }
      where
        parts : (u t : ℕ) (n : List ℕ) → ◌≡◌ {A = Option Fact} (Some (v, s, main)) (Some (u, t, n)) → (u ≡ v) × (t ≡ s) × (n ≡ main)
        parts u t n same =
            let e = same_Some (v, s, main) (u, t, n) same in
            (sym (ap (λ (x : Fact). x.0) e), sym (ap (λ (x : Fact). x.1) e), sym (ap (λ (x : Fact). x.2) e))

    -- the page shows nothing
    pub keeps_none : ((f : Fact) → fact_of (page_at c at) ≡ Some f → ⊥) → ImageKeepsMap pages bound (map_of places old) old c
    keeps_none none = keeps_beside spare within unmapped c place_stays
        (λ u t n shown. elim (cases_eq shown.0 at) [
          | inl is ↦ absurd (none (u, t, n) (subst (λ p. fact_of (page_at c p) ≡ Some (u, t, n)) is shown.2))
          | inr ne ↦ (shown.0, shown.1, sym (ap fact_of (other shown.0 ne)) ∙ shown.2)
        ])
        beyond

    -- what a program leaves, whole or cut short
    pub keeps_or_takes : ImageKeepsMap pages bound (map_of places old) old c ⊎ GainsValue pages bound (map_of places old) v s main old c
    keeps_or_takes = elim (cut.each at) [
      | inl same ↦ inl (keeps_none (λ f is. shows_nothing (page_at c at) f (same ∙ blank) is))
      | inr in_range ↦ elim in_range.2 [
        | inl new ↦ inr (takes_new new)
        | inr lost ↦ inl (keeps_none (λ f is. none-some f (sym (ap fact_of lost) ∙ is)))
      ]
    ]

-- one copy more
pub changed_more : {pages block : ℕ} {places : List (Option Place)} {image old c : Image} (to v : ℕ) (place : Place) (value : Page) → ChangedIn pages block places image old
    → place_of places v ≡ Some place → IsBeside pages block place.page → fact_of value ≡ fact_of (page_at old place.page)
    → block * pages ≤ to → to < block * pages + pages → Cut to (to + 1) value old c → ChangedIn pages block places image c
changed_more {pages} {block} {places} {image} {old} {c} to v place value changed named beside copied from below cut = record {
  same = λ p away. outside cut p (away_from p away) ∙ changed.same p away;
  each = λ p. each p (cut.each p) (changed.each p);
}
  where
    away_from : (p : ℕ) → IsBeside pages block p → (p < to) ⊎ (to + 1 ≤ p)
    away_from p (inl lt) = inl (omega (arith, lt, from))
    away_from p (inr ge) = inr (omega (arith, ge, below))

    each : (p : ℕ) → (page_at c p ≡ page_at old p) ⊎ ((to ≤ p) × (p < to + 1) × ((page_at c p ≡ value) ⊎ (page_at c p ≡ uncorrectable)))
        → (page_at old p ≡ page_at image p) ⊎ ((fact_of (page_at old p) ≡ None) ⊎ IsCopy places image (page_at old p))
        → (page_at c p ≡ page_at image p) ⊎ ((fact_of (page_at c p) ≡ None) ⊎ IsCopy places image (page_at c p))
    each p (inl same) (inl was) = inl (same ∙ was)
    each p (inl same) (inr (inl nothing)) = inr (inl (ap fact_of same ∙ nothing))
    each p (inl same) (inr (inr copy)) = inr (inr (copy.0, (copy.1.0, (copy.1.1.0, ap fact_of same ∙ copy.1.1.1))))
    each p (inr within) was = elim within.2 [
      | inl new ↦ inr (inr (v, (place, (named, ap fact_of new ∙ (copied ∙ ap fact_of (changed.same place.page beside))))))
      | inr lost ↦ inr (inl (ap fact_of lost))
    ]

-- no change
pub changed_none : (pages block : ℕ) (places : List (Option Place)) (image : Image) → ChangedIn pages block places image image
changed_none pages block places image = record { same = λ p away. refl; each = λ p. inl refl }
