-- The pages of a block, and a map of which one address got another page.
use Rattle.std.proofs.Common.{◌≡◌, ◌⊎◌, inl, inr, ⊎_elim, ℕ, zero, suc, ◌+◌, ◌-◌, ◌*◌, ◌/◌, ◌%◌, ◌<◌, ◌≤◌, Option, Some, None, List, length, set, get_or, replicate, refl, sym, ◌∙◌, ap, subst, arith, IsTrue}
use Rattle.std.proofs.lemmas.Bool.{cases_eq, cases_lt}
use Rattle.std.proofs.lemmas.Nat.{div-add-mod', div-mul-add}
use Rattle.std.proofs.lemmas.List.{get_or-set_same, get_or-set_other, get_or_read, get_or_past}
use Rattle.std.proofs.lemmas.Option.{none-some, same_Some}
use Rattle.nl_field.specs.Spelling.{is_stamp}
use Rattle.nl_vseg.specs.Pages.{IsBeside}
use Rattle.nl_vseg.specs.Places.{place_of}
use Rattle.nl_vseg.specs.Layout.{IsPlace, ArePlaces}
use Rattle.nl_vseg.specs.declared.place.Place.{Place}

-- a page of the block with this number
pub in_block : (p pages block : ℕ) → 0 < pages → p / pages ≡ block → (block * pages ≤ p) × (p < block * pages + pages)
in_block p pages block some is =
    let whole : block * pages + p % pages ≡ p = subst (λ b. b * pages + p % pages ≡ p) is (div-add-mod' p pages) in
    let less : p % pages < pages = omega (arith, some) in
    (omega arith, omega arith)

pub block_of : (p pages block : ℕ) → block * pages ≤ p → p < block * pages + pages → p / pages ≡ block
block_of p pages block from below =
    let rest : p - block * pages < pages = omega arith in
    let is : block * pages + (p - block * pages) ≡ p = omega arith in
    ap (λ n. n / pages) (sym is) ∙ div-mul-add block pages (p - block * pages) rest

-- a page is told by its block and its offset in it
pub same_page : (a b pages : ℕ) → a / pages ≡ b / pages → a % pages ≡ b % pages → a ≡ b
same_page a b pages block offset = sym (div-add-mod' a pages) ∙ ((λ i. block i * pages + offset i) ∙ div-add-mod' b pages)

pub not_beside : (p pages block : ℕ) → 0 < pages → IsBeside pages block p → p / pages ≡ block → ⊥
not_beside p pages block some (inl lt) is = let at = in_block p pages block some is in omega (arith, at.0, lt)
not_beside p pages block some (inr ge) is = let at = in_block p pages block some is in omega (arith, at.1, ge)

pub beside_of : (p pages block : ℕ) → (p / pages ≡ block → ⊥) → IsBeside pages block p
beside_of p pages block ne = elim (cases_lt p (block * pages)) [
  | inl lt ↦ inl lt
  | inr from ↦ elim (cases_lt p (block * pages + pages)) [
    | inl below ↦ absurd (ne (block_of p pages block from below))
    | inr above ↦ inr above
  ]
]

-- blocks of less number have less pages behind them
pub block_below : (block count pages : ℕ) → block < count → block * pages + pages ≤ count * pages
block_below block (suc count) pages less = elim (cases_eq block count) [
  | inl is ↦ subst (λ b. b * pages + pages ≤ suc count * pages) (sym is) (omega arith)
  | inr ne ↦ let rest : block * pages + pages ≤ count * pages = block_below block count pages (omega (arith, less, ne)) in omega arith
]
block_below block zero pages less = absurd (omega (arith, less))

-- two blocks are apart
pub other_block : (a b pages p : ℕ) → (a ≡ b → ⊥) → a * pages ≤ p → p < a * pages + pages → IsBeside pages b p
other_block a b pages p ne from below = beside_of p pages b (λ is. ne (sym (block_of p pages a from below) ∙ is))

-- what was read of a map
pub named_by : (places : List (Option Place)) (v : ℕ) (x : Option Place) (place : Place) → v < length places → x ≡ get_or places v x → x ≡ Some place → place_of places v ≡ Some place
named_by places v x place within read is = sym (get_or_read places v x within read None) ∙ is

pub none_by : (places : List (Option Place)) (v : ℕ) (x : Option Place) → v < length places → x ≡ get_or places v x → x ≡ None → place_of places v ≡ None
none_by places v x within read is = sym (get_or_read places v x within read None) ∙ is

pub named_within : (places : List (Option Place)) (v : ℕ) (place : Place) → place_of places v ≡ Some place → v < length places
named_within places v place named = elim (cases_lt v (length places)) [
  | inl within ↦ within
  | inr past ↦ absurd (none-some place (sym (get_or_past places v None past) ∙ named))
]

pub place_here : (places : List (Option Place)) (v u : ℕ) (x : Option Place) → v < length places → u ≡ v → place_of (set places v x) u ≡ x
place_here places v u x within is = ap (place_of (set places v x)) is ∙ get_or-set_same places v x None within

pub place_other : (places : List (Option Place)) (v u : ℕ) (x : Option Place) → (u ≡ v → ⊥) → place_of (set places v x) u ≡ place_of places u
place_other places v u x ne = get_or-set_other places v u x None ne

-- a place of the map with one address changed is the new one, or one of before
pub set_place : (places : List (Option Place)) (v : ℕ) (new : Place) → v < length places → (u : ℕ) (place : Place) → place_of (set places v (Some new)) u ≡ Some place
    → ((u ≡ v) × (new ≡ place)) ⊎ ((u ≡ v → ⊥) × (place_of places u ≡ Some place))
set_place places v new within u place named = elim (cases_eq u v) [
  | inl same ↦ inl (same, same_Some new place (sym (place_here places v u (Some new) within same) ∙ named))
  | inr ne ↦ inr (ne, sym (place_other places v u (Some new) ne) ∙ named)
]

pub all_none : (n v : ℕ) → place_of (replicate n None) v ≡ None
all_none zero v = refl
all_none (suc n) zero = refl
all_none (suc n) (suc v) = all_none n v

module _ {pages bound active used : ℕ} {places : List (Option Place)} where
  -- more pages are used
  pub used_more : (more : ℕ) → used ≤ more → ArePlaces pages bound active used places → ArePlaces pages bound active more places
  used_more more le are = record {
    each = λ v place named.
        let is = are.each v place named in
        record { within = is.within; behind = ⊎_elim (λ lt. inl (omega (arith, lt, le))) (λ ge. inr ge) is.behind; spelled = is.spelled };
  }

  -- an address gets one of the used pages
  pub used_placed : (v : ℕ) (new : Place) → v < length places → active * pages ≤ new.page → new.page < active * pages + used → new.page < bound → IsTrue (is_stamp new.stamp)
      → ArePlaces pages bound active used places → ArePlaces pages bound active used (set places v (Some new))
  used_placed v new within from is below spelled are = record { each = λ u place named. each u place (set_place places v new within u place named) }
    where
      fits_new : IsPlace pages bound active used new
      fits_new = record { within = below; behind = inl (omega (arith, is)); spelled = spelled }

      each : (u : ℕ) (place : Place) → ((u ≡ v) × (new ≡ place)) ⊎ ((u ≡ v → ⊥) × (place_of places u ≡ Some place)) → IsPlace pages bound active used place
      each u place (inl here) = subst (IsPlace pages bound active used) here.1 fits_new
      each u place (inr there) = are.each u place there.1

  -- an address gets the next page
  pub next_placed : (v : ℕ) (new : Place) → v < length places → used < pages → new.page ≡ active * pages + used → new.page < bound → IsTrue (is_stamp new.stamp)
      → ArePlaces pages bound active used places → ArePlaces pages bound active (used + 1) (set places v (Some new))
  next_placed v new within room is below spelled are = record { each = λ u place named. each u place (set_place places v new within u place named) }
    where
      fits_new : IsPlace pages bound active (used + 1) new
      fits_new = record { within = below; behind = inl (omega (arith, is)); spelled = spelled }

      each : (u : ℕ) (place : Place) → ((u ≡ v) × (new ≡ place)) ⊎ ((u ≡ v → ⊥) × (place_of places u ≡ Some place)) → IsPlace pages bound active (used + 1) place
      each u place (inl here) = subst (IsPlace pages bound active (used + 1)) here.1 fits_new
      each u place (inr there) =
          let was = are.each u place there.1 in
          record { within = was.within; behind = ⊎_elim (λ lt. inl (omega (arith, lt))) (λ ge. inr ge) was.behind; spelled = was.spelled }

-- an address gets another page
pub placed : (pages bound active used : ℕ) (places : List (Option Place)) (v : ℕ) (new : Place) → v < length places → IsPlace pages bound active used new
    → ArePlaces pages bound active used places → ArePlaces pages bound active used (set places v (Some new))
placed pages bound active used places v new within is are = record { each = λ u place named. each u place (set_place places v new within u place named) }
  where
    each : (u : ℕ) (place : Place) → ((u ≡ v) × (new ≡ place)) ⊎ ((u ≡ v → ⊥) × (place_of places u ≡ Some place)) → IsPlace pages bound active used place
    each u place (inl here) = subst (IsPlace pages bound active used) here.1 is
    each u place (inr there) = are.each u place there.1

-- a page of a block in use is not one of the next pages, where that block is not written to
pub behind_of : (pages active used p block : ℕ) → used ≤ pages → p / pages ≡ block → (used < pages → block ≡ active → ⊥) → (p < active * pages + used) ⊎ (active * pages + pages ≤ p)
behind_of pages active used p block fits is idle = elim (cases_lt used pages) [
  | inl room ↦ ⊎_elim (λ lt. inl (omega (arith, lt))) (λ ge. inr ge) (beside_of p pages active (λ at. idle room (sym is ∙ at)))
  | inr full ↦ elim (cases_lt p (active * pages + pages)) [
    | inl lt ↦ inl (omega (arith, lt, full))
    | inr ge ↦ inr ge
  ]
]
