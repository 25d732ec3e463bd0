-- The pages in flight, where one worker's line changes.
use Rattle.std.proofs.Common.{◌≡◌, ◌≢◌, ◌⊎◌, inl, inr, ⊎_elim, ℕ, suc, ◌+◌, ◌<◌, ◌≤◌, ◌==◌, List, [], ◌∷◌, ◌++◌, length, map, take, drop, None, refl, sym, ap, subst, ◌∙◌, arith}
use Rattle.std.specs.List.{flat_map, sum_by}
use Rattle.std.proofs.lemmas.List.{get_or-set_other, get_or-set_same, length-append, length-set, map-append, set-get_or, set-set, set_split}
use Rattle.std.proofs.lemmas.Bool.{cases_eq, cond-false, cond-true, eq-eqb, ne_eqb}
use Rattle.std.proofs.lemmas.List.Sums.{sum_by-set}
use Rattle.std.proofs.lemmas.List.Concat.{flat_map-append, flat_map-cons}
use Rattle.nl_field.specs.declared.pointer.Pointer.{Pointer}
use Rattle.nl_field.specs.declared.pointer.Tag.{Tag}
use Rattle.nl_flight.specs.Flight.{HasFlightRoom, InFlight, IsFlight, begun, carried, extra, of_worker, with_line}
use Rattle.nl_flight.specs.declared.page.FlightPage.{FlightPage}
use Rattle.nl_iface.specs.Holders.{tagged}
use Rattle.nl_iface.specs.Names.{Has}
use Rattle.nl_spec_holders.specs.Lists.{ListGains, ListLoses}
use Rattle.nl_core.specs.Programming.{behind, line_of, with_page}
use Rattle.nl_spec_holders.proofs.Lists.{gains_within, has_push, loses_within, times_push}

abbrev pub held : FlightPage → Tag × Pointer
held page = (page.tag, page.at)

abbrev pub of_line : InFlight → List (Tag × Pointer)
of_line now = map held now.pages

-- ---- one more at the end, and one less in front

has_pushed : {X : Type 0} (xs : List X) (x : X) → Has (xs ++ x ∷ []) x
has_pushed [] x = inl refl
has_pushed (y ∷ xs) x = inr (has_pushed xs x)

gains_push : (x : Tag × Pointer) (xs : List (Tag × Pointer)) → ListGains tagged x xs (xs ++ x ∷ [])
gains_push x xs = record {
  has = has_pushed xs x;
  only = λ y h. ⊎_elim (λ old. inr old) (λ e. inl (sym e)) (has_push xs x y h);
  count = λ s. times_push tagged s xs x;
  size = length-append xs (x ∷ []);
}

has_behind : {X : Type 0} (xs ys : List X) (x : X) → Has ys x → Has (xs ++ ys) x
has_behind [] ys x has = has
has_behind (z ∷ xs) ys x has = inr (has_behind xs ys x has)

has_between : {X : Type 0} (front xs back : List X) (x : X) → Has (front ++ back) x → Has (front ++ (xs ++ back)) x
has_between [] xs back x has = has_behind xs back x has
has_between (z ∷ front) xs back x (inl e) = inl e
has_between (z ∷ front) xs back x (inr has) = inr (has_between front xs back x has)

loses_first : (x : Tag × Pointer) (xs : List (Tag × Pointer)) → ListLoses tagged x (x ∷ xs) xs
loses_first x xs = record {
  had = inl refl;
  only = λ y h. inr h;
  count = λ s. omega arith;
  size = omega arith;
}

-- ---- the pages of a worker between those of the others

module _ (flight : List InFlight) (worker : ℕ) (known : worker < length flight) where
  abbrev pub before : List (Tag × Pointer)
  before = flat_map of_line (take worker flight)

  abbrev pub after : List (Tag × Pointer)
  after = flat_map of_line (drop (suc worker) flight)

  pub carried_with : (y : InFlight) → carried (with_line flight worker y) ≡ before ++ (of_line y ++ after)
  unfolding carried
  carried_with y =
      ap (λ (xs : List InFlight). flat_map of_line xs) (set_split flight worker y known)
      ∙ flat_map-append of_line (take worker flight) (y ∷ drop (suc worker) flight)
      ∙ ap (λ (xs : List (Tag × Pointer)). before ++ xs) (flat_map-cons of_line y (drop (suc worker) flight))

  pub carried_own : carried flight ≡ before ++ (of_line (of_worker flight worker) ++ after)
  carried_own = ap carried (sym (set-get_or flight worker (begun 0))) ∙ carried_with (of_worker flight worker)

  -- without a line, no other page is in flight
  pub kept_without : (x : Tag × Pointer) → Has (carried (with_line flight worker (begun 0))) x → Has (carried flight) x
  kept_without x has =
      subst (λ (xs : List (Tag × Pointer)). Has xs x) (sym carried_own) (has_between before (of_line (of_worker flight worker)) after x (subst (λ (xs : List (Tag × Pointer)). Has xs x) (carried_with (begun 0)) has))

  -- only the pages count
  pub carried_alike : (y z : InFlight) → y.pages ≡ z.pages → carried (with_line flight worker y) ≡ carried (with_line flight worker z)
  carried_alike y z same = carried_with y ∙ ap (λ (pages : List FlightPage). before ++ (map held pages ++ after)) same ∙ sym (carried_with z)

  pub gains_page : (y z : InFlight) (page : FlightPage) → z.pages ≡ y.pages ++ page ∷ [] → ListGains tagged (held page) (carried (with_line flight worker y)) (carried (with_line flight worker z))
  gains_page y z page is =
      let lines : of_line z ≡ of_line y ++ held page ∷ [] = ap (λ (pages : List FlightPage). map held pages) is ∙ map-append held y.pages (page ∷ []) in
      subst (λ (xs : List (Tag × Pointer)). ListGains tagged (held page) xs (carried (with_line flight worker z))) (sym (carried_with y))
      (subst (λ (xs : List (Tag × Pointer)). ListGains tagged (held page) (before ++ (of_line y ++ after)) xs) (sym (carried_with z))
      (gains_within tagged before after (held page) (of_line y) (of_line z) (subst (λ (xs : List (Tag × Pointer)). ListGains tagged (held page) (of_line y) xs) (sym lines) (gains_push (held page) (of_line y)))))

  pub loses_page : (y z : InFlight) (page : FlightPage) → y.pages ≡ page ∷ z.pages → ListLoses tagged (held page) (carried (with_line flight worker y)) (carried (with_line flight worker z))
  loses_page y z page is =
      let lines : of_line y ≡ held page ∷ of_line z = ap (λ (pages : List FlightPage). map held pages) is in
      subst (λ (xs : List (Tag × Pointer)). ListLoses tagged (held page) xs (carried (with_line flight worker z))) (sym (carried_with y))
      (subst (λ (xs : List (Tag × Pointer)). ListLoses tagged (held page) (before ++ (of_line y ++ after)) xs) (sym (carried_with z))
      (loses_within tagged before after (held page) (of_line y) (of_line z) (subst (λ (xs : List (Tag × Pointer)). ListLoses tagged (held page) xs (of_line z)) (sym lines) (loses_first (held page) (of_line z)))))

  pub own_with : (y : InFlight) → of_worker (with_line flight worker y) worker ≡ y
  own_with y = get_or-set_same flight worker y (begun 0) known

  pub with_twice : (y z : InFlight) → with_line (with_line flight worker y) worker z ≡ with_line flight worker z
  with_twice y z = set-set flight worker y z

-- ---- lines stay in order

module _ (flight : List InFlight) (worker : ℕ) (is : IsFlight flight) (worker_known : worker < 8) where
  pub in_flight : worker < length flight
  in_flight = let eight = is.eight in omega (arith, eight, worker_known)

  idle_with : (z : InFlight) → (z.line ≡ 0 → (z.pages ≡ []) × (z.goal ≡ None)) → (u : ℕ) → (of_worker (with_line flight worker z) u).line ≡ 0
      → ((of_worker (with_line flight worker z) u).pages ≡ []) × ((of_worker (with_line flight worker z) u).goal ≡ None)
  idle_with z own u = by (cases_eq u worker)
    where
      by : (u ≡ worker) ⊎ (u ≢ worker) → (of_worker (with_line flight worker z) u).line ≡ 0 → ((of_worker (with_line flight worker z) u).pages ≡ []) × ((of_worker (with_line flight worker z) u).goal ≡ None)
      by (inl here) none =
          let same : of_worker (with_line flight worker z) u ≡ z = ap (λ n. of_worker (with_line flight worker z) n) here ∙ own_with flight worker in_flight z in
          subst (λ (x : InFlight). (x.pages ≡ []) × (x.goal ≡ None)) (sym same) (own (sym (ap (λ (x : InFlight). x.line) same) ∙ none))
      by (inr far) none =
          let same : of_worker (with_line flight worker z) u ≡ of_worker flight u = get_or-set_other flight worker u z (begun 0) far in
          subst (λ (x : InFlight). (x.pages ≡ []) × (x.goal ≡ None)) (sym same) (is.idle u (sym (ap (λ (x : InFlight). x.line) same) ∙ none))

  sum_with : (z : InFlight) → sum_by extra (with_line flight worker z) + extra (of_worker flight worker) ≡ sum_by extra flight + extra z
  sum_with z = sum_by-set extra flight worker z (begun 0) in_flight

  -- a line with a page more, where it has a place
  pub more_is_flight : (z : InFlight) → 0 < z.line → length z.pages ≤ length (of_worker flight worker).pages + 1 → HasFlightRoom flight worker → IsFlight (with_line flight worker z)
  more_is_flight z some more place = record {
    eight = length-set flight worker z ∙ is.eight;
    places = ⊎_elim (λ few. let sum = sum_with z in let most = is.places in omega (arith, few, sum, most, more)) (λ less. let sum = sum_with z in omega (arith, less, sum, more)) place;
    idle = idle_with z (λ none. absurd (let off : ⊥ = omega (arith, some, none) in off));
  }

  -- a line that has ended
  pub none_is_flight : IsFlight (with_line flight worker (begun 0))
  none_is_flight = record {
    eight = length-set flight worker (begun 0) ∙ is.eight;
    places = let sum = sum_with (begun 0) in let most = is.places in omega (arith, sum, most);
    idle = idle_with (begun 0) (λ none. (refl, refl));
  }

  pub page_is_flight : (line : ℕ) (tag : Tag) (at : Pointer) → 0 < line → HasFlightRoom flight worker → IsFlight (with_page flight worker line tag at)
  page_is_flight line tag at some place = by (cases_eq (of_worker flight worker).line 0)
    where
      page : FlightPage
      page = record { index = tag.index; at = at; tag = tag }

      by : ((of_worker flight worker).line ≡ 0) ⊎ ((of_worker flight worker).line ≢ 0) → IsFlight (with_page flight worker line tag at)
      by (inl none) =
          let is_new : line_of flight worker line ≡ begun line = cond-true ((of_worker flight worker).line == 0) (begun line) (of_worker flight worker) (eq-eqb (of_worker flight worker).line 0 none) in
          subst (λ (y : InFlight). IsFlight (with_line flight worker (behind y tag at))) (sym is_new) (more_is_flight (behind (begun line) tag at) some (omega arith) place)
      by (inr has) =
          let is_old : line_of flight worker line ≡ of_worker flight worker = cond-false ((of_worker flight worker).line == 0) (begun line) (of_worker flight worker) (ne_eqb (of_worker flight worker).line 0 has) in
          let size = length-append (of_worker flight worker).pages (page ∷ []) in
          subst (λ (y : InFlight). IsFlight (with_line flight worker (behind y tag at))) (sym is_old)
          (more_is_flight (behind (of_worker flight worker) tag at) (omega (arith, has)) (omega (arith, size)) place)

-- ---- a page that is put behind the others, and a goal

same_pages : (flight : List InFlight) (worker line : ℕ) → IsFlight flight → (line_of flight worker line).pages ≡ (of_worker flight worker).pages
same_pages flight worker line is = by (cases_eq (of_worker flight worker).line 0)
  where
    by : ((of_worker flight worker).line ≡ 0) ⊎ ((of_worker flight worker).line ≢ 0) → (line_of flight worker line).pages ≡ (of_worker flight worker).pages
    by (inl none) =
        ap (λ (y : InFlight). y.pages) (cond-true ((of_worker flight worker).line == 0) (begun line) (of_worker flight worker) (eq-eqb (of_worker flight worker).line 0 none)) ∙ sym (is.idle worker none).0
    by (inr has) = ap (λ (y : InFlight). y.pages) (cond-false ((of_worker flight worker).line == 0) (begun line) (of_worker flight worker) (ne_eqb (of_worker flight worker).line 0 has))

-- a line whose pages stay carries what it carried
pub carried_line : (flight : List InFlight) (worker line : ℕ) (z : InFlight) → IsFlight flight → worker < 8 → z.pages ≡ (line_of flight worker line).pages → carried (with_line flight worker z) ≡ carried flight
carried_line flight worker line z is worker_known same =
    carried_alike flight worker (in_flight flight worker is worker_known) z (of_worker flight worker) (same ∙ same_pages flight worker line is) ∙ ap carried (set-get_or flight worker (begun 0))

module _ (flight : List InFlight) (worker line : ℕ) (tag : Tag) (at : Pointer) (is : IsFlight flight) (worker_known : worker < 8) where
  pub gains_put : ListGains tagged (tag, at) (carried flight) (carried (with_page flight worker line tag at))
  gains_put =
      let known : worker < length flight = in_flight flight worker is worker_known in
      subst (λ (xs : List (Tag × Pointer)). ListGains tagged (tag, at) xs (carried (with_page flight worker line tag at))) (carried_line flight worker line (line_of flight worker line) is worker_known refl)
      (gains_page flight worker known (line_of flight worker line) (behind (line_of flight worker line) tag at) (record { index = tag.index; at = at; tag = tag }) refl)
