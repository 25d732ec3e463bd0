-- The pages of a line leave the flight one after the other.
use Rattle.std.proofs.Common.{◌≡◌, ◌≢◌, ◌⊎◌, inl, inr, ℕ, zero, suc, ◌+◌, ◌<◌, List, [], ◌∷◌, ◌++◌, length, map, take, drop, None, refl, sym, ap, subst, ◌∙◌, arith}
use Rattle.std.specs.List.{flat_map, slice_get, sum_by}
use Rattle.std.proofs.lemmas.List.{get_or-set_other, get_or-set_same, length-drop, length-set, set-get_or, set_split}
use Rattle.std.proofs.lemmas.Bool.{cases_eq}
use Rattle.std.proofs.lemmas.List.Concat.{flat_map-append, flat_map-cons}
use Rattle.std.proofs.lemmas.List.Sums.{sum_by-set}
use Rattle.std.proofs.lemmas.Option.{get_or_from_slice_get, slice_get_within}
use Rattle.std.proofs.Math.Seq.{drop-cons}
use Rattle.std.specs.Prelude.{Some}
use Rattle.nl_field.specs.declared.pointer.Pointer.{Pointer}
use Rattle.nl_field.specs.declared.pointer.Tag.{Tag}
use Rattle.nl_flight.specs.Flight.{InFlight, IsFlight, begun, carried, extra, of_worker, with_line}
use Rattle.nl_flight.specs.declared.page.FlightPage.{FlightPage}
use Rattle.nl_iface.specs.Holders.{tagged}
use Rattle.nl_spec_holders.specs.Lists.{ListLoses}
use Rattle.nl_spec_holders.proofs.Lists.{loses_within}
use Rattle.nl_calls_files.specs.Landing.{Landing, PagesLand, flying, landed, without_first}

abbrev of_line : InFlight → List (Tag × Pointer)
of_line now = map flying now.pages

loses_first : (x : Tag × Pointer) (xs : List (Tag × Pointer)) → ListLoses tagged x (x ∷ xs) xs
loses_first x xs = record { had = inl refl; only = λ y h. inr h; count = λ s. omega arith; size = omega arith }

none_more : {X : Type 0} (xs : List X) (k : ℕ) → length xs ≡ k → drop k xs ≡ []
none_more [] zero e = refl
none_more [] (suc k) e = refl
none_more (x ∷ xs) zero e = absurd (omega (arith, e))
none_more (x ∷ xs) (suc k) e = none_more xs k (omega (arith, e))

none_dropped : {X : Type 0} (xs : List X) (k : ℕ) → xs ≡ [] → drop k xs ≡ []
none_dropped [] zero e = refl
none_dropped [] (suc k) e = refl
none_dropped (x ∷ xs) k e = absurd (let no : ⊥ = cc in no)

module _ (flight : List InFlight) (worker : ℕ) (is : IsFlight flight) (known : worker < 8) where
  inside : worker < length flight
  inside = let eight = is.eight in omega (arith, eight, known)

  abbrev own : InFlight
  own = of_worker flight worker

  -- the pages of the worker stand between those of the others
  abbrev before : List (Tag × Pointer)
  before = flat_map of_line (take worker flight)

  abbrev after : List (Tag × Pointer)
  after = flat_map of_line (drop (suc worker) flight)

  carried_with : (y : InFlight) → carried (with_line flight worker y) ≡ before ++ (of_line y ++ after)
  unfolding carried
  carried_with y =
      ap (λ (xs : List InFlight). flat_map of_line xs) (set_split flight worker y inside)
      ∙ flat_map-append of_line (take worker flight) (y ∷ drop (suc worker) flight)
      ∙ ap (λ (xs : List (Tag × Pointer)). before ++ xs) (flat_map-cons of_line y (drop (suc worker) flight))

  next : (k : ℕ) (page : FlightPage) → slice_get own.pages k ≡ Some page → ListLoses tagged (flying page) (carried (landed flight worker k)) (carried (landed flight worker (k + 1)))
  next k page at =
      let below = slice_get_within own.pages k page at in
      let here : drop k own.pages ≡ page ∷ drop (suc k) own.pages =
      drop-cons own.pages k page below ∙ ap (λ (p : FlightPage). p ∷ drop (suc k) own.pages) (get_or_from_slice_get own.pages k page page at) in
      let more : suc k ≡ k + 1 = omega arith in
      let rest : List FlightPage = drop (k + 1) own.pages in
      let lines : of_line (without_first k own) ≡ flying page ∷ of_line (without_first (k + 1) own) =
      ap (λ (pages : List FlightPage). map flying pages) here ∙ ap (λ (j : ℕ). flying page ∷ map flying (drop j own.pages)) more in
      subst (λ (xs : List (Tag × Pointer)). ListLoses tagged (flying page) xs (carried (landed flight worker (k + 1)))) (sym (carried_with (without_first k own)))
      (subst (λ (xs : List (Tag × Pointer)). ListLoses tagged (flying page) (before ++ (of_line (without_first k own) ++ after)) xs) (sym (carried_with (without_first (k + 1) own)))
      (loses_within tagged before after (flying page) (of_line (without_first k own)) (of_line (without_first (k + 1) own))
      (subst (λ (xs : List (Tag × Pointer)). ListLoses tagged (flying page) xs (of_line (without_first (k + 1) own))) (sym lines) (loses_first (flying page) (of_line (without_first (k + 1) own))))))

  last : carried (landed flight worker (length own.pages)) ≡ carried (with_line flight worker (begun 0))
  last =
      carried_with (without_first (length own.pages) own)
      ∙ ap (λ (pages : List FlightPage). before ++ (map flying pages ++ after)) (none_more own.pages (length own.pages) refl)
      ∙ sym (carried_with (begun 0))

  sum_with : (z : InFlight) → sum_by extra (with_line flight worker z) + extra own ≡ sum_by extra flight + extra z
  sum_with z = sum_by-set extra flight worker z (begun 0) inside

  idle : (k u : ℕ) → (u ≡ worker) ⊎ (u ≢ worker) → (of_worker (landed flight worker k) u).line ≡ 0
      → ((of_worker (landed flight worker k) u).pages ≡ []) × ((of_worker (landed flight worker k) u).goal ≡ None)
  idle k u (inl here) none =
      let z = without_first k own in
      let same : of_worker (landed flight worker k) u ≡ z = ap (λ n. of_worker (landed flight worker k) n) here ∙ get_or-set_same flight worker z (begun 0) inside in
      let was = is.idle worker (sym (ap (λ (x : InFlight). x.line) same) ∙ none) in
      subst (λ (x : InFlight). (x.pages ≡ []) × (x.goal ≡ None)) (sym same) (none_dropped own.pages k was.0, was.1)
  idle k u (inr far) none =
      let z = without_first k own in
      let same : of_worker (landed flight worker k) u ≡ of_worker flight u = get_or-set_other flight worker u z (begun 0) far in
      subst (λ (x : InFlight). (x.pages ≡ []) × (x.goal ≡ None)) (sym same) (is.idle u (sym (ap (λ (x : InFlight). x.line) same) ∙ none))

  lines : (k : ℕ) → IsFlight (landed flight worker k)
  lines k = record {
    eight = length-set flight worker (without_first k own) ∙ is.eight;
    places = let sum = sum_with (without_first k own) in let most = is.places in let fewer = length-drop k own.pages in omega (arith, sum, most, fewer);
    idle = λ u none. idle k u (cases_eq u worker) none;
  }

  pub landing : Landing flight worker
  landing = record { lines = lines; first = ap carried (set-get_or flight worker (begun 0)); next = next; last = last }

pub pages_land : PagesLand
pages_land flight worker is known = landing flight worker is known
