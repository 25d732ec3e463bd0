-- What an image stores at the addresses, where its pages show a map.
use Rattle.std.proofs.Common.{◌≡◌, ◌⊎◌, inl, inr, ⊎_elim, ℕ, ◌<◌, ◌≤◌, ◌==◌, nat_lt, Bool, true, not, ◌&&◌, Option, Some, None, List, [], ◌∷◌, filter, find, option_map, bytes_eq, refl, sym, ◌∙◌, ap, subst, arith, eq-eqb, eqb-true}
use Rattle.std.specs.List.{list_any}
use Rattle.std.proofs.lemmas.Bool.{cases_lt, cases_eq, cases_Bool, and_parts, and_from, lt-ltb, ltb-true, not-true, false≢true}
use Rattle.std.proofs.lemmas.Option.{none-some, same_Some}
use Rattle.std.proofs.lemmas.Slice.Eq.{bytes_eq-Decides}
use Rattle.nl_field.specs.Page.{Image}
use Rattle.nl_field.specs.Medium.{Readable, virtual_pages, shape_of_image, first_physical, address_on, stamp_on}
use Rattle.nl_field.specs.Space.{has_greatest_stamp, virtual_spare, is_outside}
use Rattle.nl_field.specs.Virtual.{or_first_in, newest}
use Rattle.nl_iface.specs.Stored.{Value, ShowsMap as StoresMap, stored_in, value_on}
use Rattle.nl_vseg.specs.Maps.{Dominated}
use Rattle.nl_vseg.specs.Pages.{PageShows}
use Rattle.nl_vseg.proofs.Members.{In, filter_to, filter_from, any_from, any_to, find_in}
use Rattle.nl_vseg.proofs.Newest.{from_pages, to_pages}

-- whether a value is the map's or older
pub dominated_or : (o : Option Value) (t : ℕ) (n : List ℕ) → Dominated o t n ⊎ (Dominated o t n → ⊥)
dominated_or None t n = inr (λ d. d)
dominated_or (Some x) t n = elim (cases_lt t x.0) [
  | inl lt ↦ inl (inl lt)
  | inr le ↦ elim (cases_eq t x.0) [
    | inr ne ↦ inr (λ d. ⊎_elim (λ less. omega (arith, le, less)) (λ same. ne same.0) d)
    | inl is ↦ elim (cases_Bool (bytes_eq n x.1)) [
      | inl same ↦ inl (inr (is, (bytes_eq-Decides n x.1).0 same))
      | inr differ ↦ inr (λ d. ⊎_elim (λ less. omega (arith, le, less)) (λ same. false≢true (sym differ ∙ (bytes_eq-Decides n x.1).1 same.1)) d)
    ]
  ]
]

-- one of the pages of an address has the greatest stamp
record IsGreatest (v : ℕ) (pages : List Readable) (r : Readable) : Type 0 where
  there : In r pages
  at : address_on r ≡ v
  most : (q : Readable) → In q pages → address_on q ≡ v → stamp_on q ≤ stamp_on r

some_greatest : (v : ℕ) (pages : List Readable) → ((q : Readable) → In q pages → address_on q ≡ v → ⊥) ⊎ ((r : Readable) × IsGreatest v pages r)
some_greatest v [] = inl (λ q is at. is)
some_greatest v (x ∷ xs) = by (cases_eq (address_on x) v) (some_greatest v xs)
  where
    by : (address_on x ≡ v) ⊎ (address_on x ≡ v → ⊥) → ((q : Readable) → In q xs → address_on q ≡ v → ⊥) ⊎ ((r : Readable) × IsGreatest v xs r)
        → ((q : Readable) → In q (x ∷ xs) → address_on q ≡ v → ⊥) ⊎ ((r : Readable) × IsGreatest v (x ∷ xs) r)
    by (inr ne) (inl none) = inl (λ q is at. ⊎_elim (λ same. ne (ap address_on same ∙ at)) (λ rest. none q rest at) is)
    by (inr ne) (inr r) = inr (
      r.0,
      record {
        there = inr r.1.there;
        at = r.1.at;
        most = λ q is at. ⊎_elim (λ same. absurd (ne (ap address_on same ∙ at))) (λ rest. r.1.most q rest at) is;
      },
    )
    by (inl is) (inl none) = inr (
      x,
      record {
        there = inl refl;
        at = is;
        most = λ q there at. ⊎_elim (λ same. let e = ap stamp_on same in omega (arith, e)) (λ rest. absurd (none q rest at)) there;
      },
    )
    by (inl is) (inr r) = elim (cases_lt (stamp_on r.0) (stamp_on x)) [
      | inl lt ↦ inr (
        x,
        record {
          there = inl refl;
          at = is;
          most = λ q there at. ⊎_elim (λ same. let e = ap stamp_on same in omega (arith, e)) (λ rest. let le = r.1.most q rest at in omega (arith, lt, le)) there;
        },
      )
      | inr le ↦ inr (
        r.0,
        record {
          there = inr r.1.there;
          at = r.1.at;
          most = λ q there at. ⊎_elim (λ same. let e = ap stamp_on same in omega (arith, e, le)) (λ rest. r.1.most q rest at) there;
        },
      )
    ]

first_none : (xs : List Readable) (o : Option Readable) → or_first_in xs o ≡ None → (r : Readable) → In r xs → ⊥
first_none [] o none r is = is
first_none (x ∷ xs) None none r is = none-some x (sym none)
first_none (x ∷ xs) (Some y) none r is = none-some y (sym none)

first_some : (xs : List Readable) (o : Option Readable) (r : Readable) → (o ≡ Some r → In r xs) → or_first_in xs o ≡ Some r → In r xs
first_some xs (Some y) r rest is = rest is
first_some [] None r rest is = absurd (none-some r is)
first_some (x ∷ xs) None r rest is = inl (same_Some x r is)

module _ (image : Image) (v : ℕ) where
  abbrev test : Readable → Bool
  test r = address_on r == v && has_greatest_stamp (virtual_pages image) r

  greatest_test : (r : Readable) → IsGreatest v (virtual_pages image) r → test r ≡ true
  greatest_test r is = and_from (address_on r == v) (has_greatest_stamp (virtual_pages image) r) (eq-eqb (address_on r) v is.at) (elim (cases_Bool (list_any (λ q. address_on q == address_on r && nat_lt (stamp_on r) (stamp_on q)) (virtual_pages image))) [
    | inr fails ↦ ap not fails
    | inl holds ↦
        let q = any_to (λ q. address_on q == address_on r && nat_lt (stamp_on r) (stamp_on q)) (virtual_pages image) holds in
        let parts = and_parts (address_on q.0 == address_on r) (nat_lt (stamp_on r) (stamp_on q.0)) q.2 in
        let less = ltb-true (stamp_on r) (stamp_on q.0) parts.1 in
        let most = is.most q.0 q.1 (eqb-true (address_on q.0) (address_on r) parts.0 ∙ is.at) in
        absurd (omega (arith, less, most))
  ])

  test_greatest : (r : Readable) → In r (virtual_pages image) → test r ≡ true → IsGreatest v (virtual_pages image) r
  test_greatest r there passes =
      let parts = and_parts (address_on r == v) (has_greatest_stamp (virtual_pages image) r) passes in
      let at = eqb-true (address_on r) v parts.0 in
      record {
        there = there;
        at = at;
        most = λ q is same. elim (cases_lt (stamp_on r) (stamp_on q)) [
          | inr le ↦ le
          | inl lt ↦ absurd (false≢true (sym (not-true (list_any (λ q. address_on q == address_on r && nat_lt (stamp_on r) (stamp_on q)) (virtual_pages image)) parts.1)
              ∙ any_from (λ q. address_on q == address_on r && nat_lt (stamp_on r) (stamp_on q)) q (virtual_pages image) is (and_from (address_on q == address_on r) (nat_lt (stamp_on r) (stamp_on q)) (eq-eqb (address_on q) (address_on r) (same ∙ sym at)) (lt-ltb (stamp_on r) (stamp_on q) lt))))
        ];
      }

  newest_some : (r : Readable) → newest image v ≡ Some r → IsGreatest v (virtual_pages image) r
  unfolding newest
  newest_some r is =
      let greatest = filter test (virtual_pages image) in
      let outside : Readable → Bool = λ q. is_outside image.pages (virtual_spare image) q.page in
      let f = filter_to test r (virtual_pages image) (first_some greatest (find outside greatest) r (λ found. find_in outside r greatest found) is) in
      test_greatest r f.0 f.1

  newest_none : newest image v ≡ None → (r : Readable) → IsGreatest v (virtual_pages image) r → ⊥
  unfolding newest
  newest_none none r is =
      let greatest = filter test (virtual_pages image) in
      first_none greatest (find (λ q. is_outside image.pages (virtual_spare image) q.page) greatest) none r (filter_from test r (virtual_pages image) is.there (greatest_test r is))

-- Where the image shows each value of the map, and what else it shows is older or one of those that failed, it stores the map's
-- values, or those.
module _ (image : Image) (map : ℕ → Option Value) (failed : ℕ → Value → Type 0)
    (there : (v s : ℕ) (main : List ℕ) → map v ≡ Some (s, main) → PageShows (first_physical (shape_of_image image)) image v s main)
    (each : (v t : ℕ) (n : List ℕ) → PageShows (first_physical (shape_of_image image)) image v t n → Dominated (map v) t n ⊎ failed v (t, n)) where
  at_value : (v : ℕ) → v < (shape_of_image image).vaddrs → (o : Option Readable) → newest image v ≡ o → (x : Option Value) → map v ≡ x → (option_map value_on o ≡ x) ⊎ ((y : Value) × (option_map value_on o ≡ Some y) × failed v y)
  at_value v below None picked None value = inl refl
  at_value v below None picked (Some x) value =
      let r = to_pages image v x.0 x.1 below (there v x.0 x.1 value) in
      ⊎_elim (λ none. absurd (none r.0 r.1 r.2)) (λ most. absurd (newest_none image v picked most.0 most.1)) (some_greatest v (virtual_pages image))
  at_value v below (Some r) picked None value =
      let g = newest_some image v r picked in
      let f = from_pages image r g.there in
      let shown = subst (λ u. PageShows (first_physical (shape_of_image image)) image u (stamp_on r) r.main) g.at f.1 in
      ⊎_elim (λ d. absurd (subst (λ o. Dominated o (stamp_on r) r.main) value d)) (λ fails. inr (value_on r, refl, fails)) (each v (stamp_on r) r.main shown)
  at_value v below (Some r) picked (Some x) value =
      let g = newest_some image v r picked in
      let f = from_pages image r g.there in
      let shown = subst (λ u. PageShows (first_physical (shape_of_image image)) image u (stamp_on r) r.main) g.at f.1 in
      let q = to_pages image v x.0 x.1 below (there v x.0 x.1 value) in
      let most = g.most q.0 q.1 q.2 in
      let stamp = q.3 in
      ⊎_elim
      (λ d. ⊎_elim
      (λ older. absurd (omega (arith, older, most, stamp)))
      (λ same. inl (λ i. Some (same.0 i, same.1 i)))
      (subst (λ o. Dominated o (stamp_on r) r.main) value d))
      (λ fails. inr (value_on r, refl, fails))
      (each v (stamp_on r) r.main shown)

  pub stores : StoresMap (shape_of_image image).vaddrs map failed (stored_in image)
  unfolding stored_in
  stores v below = at_value v below (newest image v) refl (map v) refl
