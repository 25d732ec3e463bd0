-- An image that keeps a map has a block that can be erased next.
use Rattle.std.proofs.Common.{◌≡◌, inl, inr, ⊎_elim, ℕ, zero, suc, ◌+◌, ◌*◌, ◌/◌, ◌<◌, ◌≤◌, ◌==◌, nat_lt, Bool, true, false, cond, not, ◌&&◌, ◌||◌, Option, Some, None, List, [], ◌∷◌, find, refl, sym, ◌∙◌, ap, subst, arith, eq-eqb, ne_eqb, mul-le-mul_right}
use Rattle.std.specs.List.{list_any, list_all, range_with_len}
use Rattle.std.proofs.lemmas.Bool.{cases_lt, cases_eq, cases_Bool, and_parts, and_from, lt-ltb, not-true, false≢true, true≢false}
use Rattle.std.proofs.lemmas.Option.{none-some, same_Some}
use Rattle.nl_field.specs.Numbers.{shape_for}
use Rattle.nl_field.specs.Page.{Image}
use Rattle.nl_field.specs.Medium.{Readable, virtual_pages, shape_of_image, first_physical, address_on, stamp_on}
use Rattle.nl_field.specs.Space.{has_greatest_stamp, spare_block, virtual_spare}
use Rattle.nl_vseg.specs.Effects.{ImageKeepsMap, GainsValue}
use Rattle.nl_vseg.specs.Maps.{RepresentsMap, Dominated, with_at}
use Rattle.nl_vseg.specs.Pages.{ShowsBeside}
use Rattle.nl_vseg.proofs.Members.{In, any_from}
use Rattle.nl_vseg.proofs.Newest.{from_pages, to_pages}
use Rattle.nl_vseg.proofs.Places.{not_beside}
use Rattle.nl_vseg.proofs.Standing.{with_here, with_other}

find_none_step : {A : Type 0} (p : A → Bool) (x y : A) (ys : List A) (o : Option A) (b : Bool) → p y ≡ b → (o ≡ None → In x ys → p x ≡ false) → cond b (Some y) o ≡ None → In x (y ∷ ys) → p x ≡ false
find_none_step p x y ys o true e rest none is = absurd (none-some y (sym none))
find_none_step p x y ys o false e rest none (inl same) = ap p (sym same) ∙ e
find_none_step p x y ys o false e rest none (inr there) = rest none there

find_none : {A : Type 0} (p : A → Bool) (x : A) (xs : List A) → find p xs ≡ None → In x xs → p x ≡ false
find_none p x [] none is = absurd is
find_none p x (y ∷ ys) none is = find_none_step p x y ys (find p ys) (p y) refl (find_none p x ys) none is

in_range : (a n k : ℕ) → a ≤ k → k < a + n → In k (range_with_len a n)
in_range a zero k from below = absurd (omega (arith, from, below))
in_range a (suc n) k from below = elim (cases_eq k a) [
  | inl is ↦ inl (sym is)
  | inr ne ↦ inr (in_range (a + 1) n k (omega (arith, from, ne)) (omega (arith, below)))
]

all_from : {A : Type 0} (p : A → Bool) (xs : List A) → ((x : A) → In x xs → p x ≡ true) → list_all p xs ≡ true
all_from p [] each = refl
all_from p (y ∷ ys) each = and_from (p y) (list_all p ys) (each y (inl refl)) (all_from p ys (λ x is. each x (inr is)))

or_left : (a b : Bool) → a ≡ true → (a || b) ≡ true
or_left a b is = ap (λ x. x || b) is

or_right : (a b : Bool) → b ≡ true → (a || b) ≡ true
or_right true b is = refl
or_right false b is = is

module _ (image : Image) (map : ℕ → Option (ℕ × List ℕ)) (stands : RepresentsMap (first_physical (shape_of_image image)) (shape_of_image image).vaddrs image map) (spare : ℕ) (some : 0 < image.pages)
    (there : (v s : ℕ) (main : List ℕ) → map v ≡ Some (s, main) → ShowsBeside image.pages spare (first_physical (shape_of_image image)) image v s main) where
  copied_at : (r : Readable) → In r (virtual_pages image) → has_greatest_stamp (virtual_pages image) r ≡ true → (x : Option (ℕ × List ℕ)) → map (address_on r) ≡ x → Dominated x (stamp_on r) r.main
      → (q : Readable) × In q (virtual_pages image) × (address_on q ≡ address_on r) × (stamp_on q ≡ stamp_on r) × (q.page / image.pages ≡ spare → ⊥)
  copied_at r is greatest None value d = absurd d
  copied_at r is greatest (Some x) value d =
      let f = from_pages image r is in
      let b = there (address_on r) x.0 x.1 value in
      let q = to_pages image (address_on r) x.0 x.1 f.0 (b.0, b.1, b.3) in
      let apart : q.0.page / image.pages ≡ spare → ⊥ = λ at. not_beside b.0 image.pages spare some b.2 (ap (λ n. n / image.pages) (sym q.5) ∙ at) in
      ⊎_elim
      (λ older. absurd (false≢true (sym (not-true (list_any (λ q. address_on q == address_on r && nat_lt (stamp_on r) (stamp_on q)) (virtual_pages image)) greatest)
      ∙ any_from (λ q. address_on q == address_on r && nat_lt (stamp_on r) (stamp_on q)) q.0 (virtual_pages image) q.1
      (and_from (address_on q.0 == address_on r) (nat_lt (stamp_on r) (stamp_on q.0)) (eq-eqb (address_on q.0) (address_on r) q.2) (lt-ltb (stamp_on r) (stamp_on q.0) (omega (arith, older, q.3)))))))
      (λ same. (q.0, q.1, q.2, q.3 ∙ sym same.0, apart))
      d

  passes : (r : Readable) → In r (virtual_pages image)
      → (not (r.page / image.pages == spare && has_greatest_stamp (virtual_pages image) r)
      || list_any (λ q. not (q.page / image.pages == spare) && (address_on q == address_on r && stamp_on q == stamp_on r)) (virtual_pages image)) ≡ true
  passes r is = elim (cases_Bool (r.page / image.pages == spare && has_greatest_stamp (virtual_pages image) r)) [
    | inr fails ↦ or_left (not (r.page / image.pages == spare && has_greatest_stamp (virtual_pages image) r)) _ (ap not fails)
    | inl holds ↦
        let f = from_pages image r is in
        let parts = and_parts (r.page / image.pages == spare) (has_greatest_stamp (virtual_pages image) r) holds in
        let d = stands.each (address_on r) (stamp_on r) r.main f.0 f.1 in
        let q = copied_at r is parts.1 (map (address_on r)) refl d in
        or_right (not (r.page / image.pages == spare && has_greatest_stamp (virtual_pages image) r)) _
        (any_from (λ q. not (q.page / image.pages == spare) && (address_on q == address_on r && stamp_on q == stamp_on r)) q.0 (virtual_pages image) q.1
        (and_from (not (q.0.page / image.pages == spare)) (address_on q.0 == address_on r && stamp_on q.0 == stamp_on r) (ap not (ne_eqb (q.0.page / image.pages) spare q.4))
        (and_from (address_on q.0 == address_on r) (stamp_on q.0 == stamp_on r) (eq-eqb (address_on q.0) (address_on r) q.2) (eq-eqb (stamp_on q.0) (stamp_on r) q.3))))
  ]

  pub spare_there : spare * image.pages + image.pages ≤ first_physical (shape_of_image image) → virtual_spare image ≡ None → ⊥
  unfolding virtual_spare spare_block shape_for
  spare_there within none =
      let shape = shape_of_image image in
      let least : spare < shape.vblocks = elim (cases_lt spare shape.vblocks) [
        | inl lt ↦ lt
        | inr ge ↦ let le : shape.vblocks * image.pages ≤ spare * image.pages = mul-le-mul_right image.pages ge in absurd (omega (arith, le, within, some))
      ] in
      true≢false (sym (all_from _ (virtual_pages image) passes) ∙ find_none _ spare (range_with_len 0 shape.vblocks) none (in_range 0 shape.vblocks spare (omega arith) (omega (arith, least))))

pub keeps_spare : (map : ℕ → Option (ℕ × List ℕ)) (old c : Image) → 0 < c.pages → RepresentsMap (first_physical (shape_of_image c)) (shape_of_image c).vaddrs c map
    → ImageKeepsMap c.pages (first_physical (shape_of_image c)) map old c → virtual_spare c ≡ None → ⊥
keeps_spare map old c some stands k = spare_there c map stands k.spare some k.there k.within

pub takes_spare : (v s : ℕ) (main : List ℕ) (map : ℕ → Option (ℕ × List ℕ)) (old c : Image) → 0 < c.pages → RepresentsMap (first_physical (shape_of_image c)) (shape_of_image c).vaddrs c (with_at map v (s, main))
    → GainsValue c.pages (first_physical (shape_of_image c)) map v s main old c → virtual_spare c ≡ None → ⊥
takes_spare v s main map old c some stands k = spare_there c (with_at map v (s, main)) stands k.spare some there k.within
  where
    there : (u t : ℕ) (n : List ℕ) → with_at map v (s, main) u ≡ Some (t, n) → ShowsBeside c.pages k.spare (first_physical (shape_of_image c)) c u t n
    there u t n is = elim (cases_eq u v) [
      | inl same ↦
          let e = same_Some (s, main) (t, n) (sym (with_here map v (s, main) u same) ∙ is) in
          let P : ℕ × List ℕ → Type 0 = λ x. ShowsBeside c.pages k.spare (first_physical (shape_of_image c)) c u x.0 x.1 in
          subst P e (subst (λ w. ShowsBeside c.pages k.spare (first_physical (shape_of_image c)) c w s main) (sym same) k.new)
      | inr ne ↦ k.there u t n (sym (with_other map v (s, main) u ne) ∙ is)
    ]
