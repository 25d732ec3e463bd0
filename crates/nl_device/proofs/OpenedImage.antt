-- The needed pages that an opening takes from a scan are those of the image, and the page of an address is its newest one.
use Rattle.std.proofs.Common.{◌≡◌, ◌⊎◌, inl, inr, ⊎_elim, ℕ, ◌≤◌, ◌==◌, ◌∙◌, nat_lt, Bool, true, false, ◌&&◌, cond, max, List, [], ◌∷◌, map, filter, find, fold, option_map, Option, Some, None, refl, sym, ap, subst, arith, eq-eqb, ne_eqb, eqb-true}
use Rattle.std.specs.List.{cons_option, list_any}
use Rattle.std.proofs.lemmas.Bool.{and_from, and_parts, cases_Bool, cases_lt, cond-true, cond-false, false≢true, lt-ltb, ltb-true, not_from_false, not_from_true}
use Rattle.nl_field.specs.Page.{Image}
use Rattle.nl_field.specs.Numbers.{shape_for}
use Rattle.nl_field.specs.Medium.{Readable, address_on, first_physical, is_virtual_rec, readable_pages, shape_of_image, stamp_on, virtual_pages}
use Rattle.nl_field.specs.Space.{has_greatest_stamp, is_outside, virtual_spare}
use Rattle.nl_field.specs.Virtual.{first_in, newest, or_first_in}
use Rattle.nl_field.specs.declared.shape.Shape.{Shape}
use Rattle.nl_field.specs.declared.spare.SpareRec.{SpareRec}
use Rattle.nl_field.specs.declared.spare.SpareRec.TheVariants.{Virtual, Physical}
use Rattle.nl_scan.specs.Tables.{IsTableOf, ScanTable}
use Rattle.nl_field.specs.ScanList.{seen_of}
use Rattle.nl_field.proofs.ScanLists.{each as listed}
use Rattle.nl_vseg.proofs.Members.{In, any_from, any_to}
use Rattle.nl_device.specs.Opening.{greatest_of, needed_of, newest_of, or_else, own_in, owns_of, pick_of}
use Rattle.nl_device.specs.declared.opening.own.Own.{Own}

-- a readable page, as the page of a virtual address
abbrev pub own_on : Readable → Own
own_on r = record { page = r.page; vaddr = address_on r; stamp = stamp_on r }

kept_own : (c : Bool) (r : Readable) (ys : List Own) (zs : List Readable) → ys ≡ map own_on zs → cons_option (cond c (Some (own_on r)) None) ys ≡ map own_on (cond c (r ∷ zs) zs)
kept_own true r ys zs same = ap (λ os. own_on r ∷ os) same
kept_own false r ys zs same = same

pub one_own : (b : Bool) (shape : Shape) (page : ℕ) (rec : SpareRec) (main : List ℕ) (ys : List Own) (zs : List Readable) → ys ≡ map own_on zs
    → cons_option (cond b (own_in shape page rec) None) ys ≡ map own_on (cond (b && is_virtual_rec shape rec) (record { page = page; rec = rec; main = main } ∷ zs) zs)
one_own false shape page rec main ys zs same = same
one_own true shape page (Physical tag s w) main ys zs same = same
one_own true shape page (Virtual v s w) main ys zs same = kept_own (nat_lt v shape.vaddrs) (record { page = page; rec = Virtual v s w; main = main }) ys zs same

-- the pages that are taken from what was seen of these pages
owns_are : (image : Image) (shape : Shape) (rs : List Readable)
    → owns_of shape (map (seen_of image) rs) ≡ map own_on (filter (λ r. nat_lt r.page (first_physical shape) && is_virtual_rec shape r.rec) rs)
owns_are image shape [] = refl
owns_are image shape (r ∷ rs) =
    one_own (nat_lt r.page (first_physical shape)) shape r.page r.rec r.main (owns_of shape (map (seen_of image) rs)) (filter (λ r. nat_lt r.page (first_physical shape) && is_virtual_rec shape r.rec) rs)
    (owns_are image shape rs)

-- a running number that never falls
module _ {X : Type 0} (step : ℕ → X → ℕ) (grows : (n : ℕ) (x : X) → n ≤ step n x) where
  pub fold_grows : (xs : List X) (a : ℕ) → a ≤ fold step a xs
  fold_grows [] a = omega arith
  fold_grows (x ∷ xs) a = let now = grows a x in let later = fold_grows xs (step a x) in omega (arith, now, later)

  pub fold_has : (x : X) (least : ℕ) → ((n : ℕ) → least ≤ step n x) → (xs : List X) (a : ℕ) → In x xs → least ≤ fold step a xs
  fold_has x least reaches [] a is = absurd is
  fold_has x least reaches (y ∷ ys) a (inl same) =
      let now = subst (λ z. least ≤ step a z) (sym same) (reaches a) in let later = fold_grows ys (step a y) in omega (arith, now, later)
  fold_has x least reaches (y ∷ ys) a (inr rest) = fold_has x least reaches ys (step a y) rest

pub in_map : {A B : Type 0} (f : A → B) (x : A) (xs : List A) → In x xs → In (f x) (map f xs)
in_map f x [] is = is
in_map f x (y ∷ ys) (inl same) = inl (ap f same)
in_map f x (y ∷ ys) (inr rest) = inr (in_map f x ys rest)

pub in_map_to : {A B : Type 0} (f : A → B) (z : B) (xs : List A) → In z (map f xs) → (x : A) × In x xs × (f x ≡ z)
in_map_to f z [] is = absurd is
in_map_to f z (y ∷ ys) (inl same) = (y, inl refl, same)
in_map_to f z (y ∷ ys) (inr rest) = let r = in_map_to f z ys rest in (r.0, inr r.1, r.2)

module _ (v : ℕ) where
  abbrev raise : ℕ → Own → ℕ
  raise best o = cond (o.vaddr == v) (max best o.stamp) best

  raise_at : (best : ℕ) (o : Own) → o.vaddr ≡ v → raise best o ≡ max best o.stamp
  raise_at best o is = cond-true (o.vaddr == v) (max best o.stamp) best (eq-eqb o.vaddr v is)

  raise_off : (best : ℕ) (o : Own) → (o.vaddr ≡ v → ⊥) → raise best o ≡ best
  raise_off best o ne = cond-false (o.vaddr == v) (max best o.stamp) best (ne_eqb o.vaddr v ne)

  raise_grows : (best : ℕ) (o : Own) → best ≤ raise best o
  raise_grows best o = by (o.vaddr == v)
    where
      by : (b : Bool) → best ≤ cond b (max best o.stamp) best
      by true = omega arith
      by false = omega arith

  raise_one : (best : ℕ) (o : Own) → (raise best o ≡ best) ⊎ ((o.vaddr ≡ v) × (raise best o ≡ o.stamp))
  raise_one best o = elim (cases_Bool (o.vaddr == v)) [
    | inr other ↦ inl (cond-false (o.vaddr == v) (max best o.stamp) best other)
    | inl here ↦
        let e = cond-true (o.vaddr == v) (max best o.stamp) best here in
        elim (cases_lt best o.stamp) [
          | inl less ↦ let m : max best o.stamp ≡ o.stamp = omega (arith, less) in inr (eqb-true o.vaddr v here, e ∙ m)
          | inr most ↦ let m : max best o.stamp ≡ best = omega (arith, most) in inl (e ∙ m)
        ]
  ]

  raised_by : (os : List Own) (a : ℕ) → (fold raise a os ≡ a) ⊎ ((o : Own) × In o os × (o.vaddr ≡ v) × (fold raise a os ≡ o.stamp))
  raised_by [] a = inl refl
  raised_by (o ∷ os) a = ⊎_elim
      (λ same. ⊎_elim (λ stays. inl (same ∙ stays)) (λ takes. inr (o, inl refl, takes.0, same ∙ takes.1)) (raise_one a o))
      (λ later. inr (later.0, inr later.1, later.2, later.3))
      (raised_by os (raise a o))

  -- no page of the address has a greater stamp than that
  pub most : (os : List Own) (o : Own) → In o os → o.vaddr ≡ v → o.stamp ≤ greatest_of os v
  unfolding greatest_of
  most os o is at = fold_has raise raise_grows o o.stamp (λ n. let e = raise_at n o at in omega (arith, e)) os 0 is

  -- one page of the address has the greatest stamp, or that is 0
  pub reached : (os : List Own) → (greatest_of os v ≡ 0) ⊎ ((o : Own) × In o os × (o.vaddr ≡ v) × (greatest_of os v ≡ o.stamp))
  unfolding greatest_of
  reached os = raised_by os 0

module _ (pages : List Readable) where
  abbrev newer : Readable → Readable → Bool
  newer r q = address_on q == address_on r && nat_lt (stamp_on r) (stamp_on q)

  greatest_test : (r : Readable) → In r pages → (stamp_on r == greatest_of (map own_on pages) (address_on r)) ≡ has_greatest_stamp pages r
  greatest_test r is =
      let v = address_on r in
      let os = map own_on pages in
      let own = most v os (own_on r) (in_map own_on r pages is) refl in
      elim (cases_Bool (list_any (newer r) pages)) [
        | inl some ↦
            let q = any_to (newer r) pages some in
            let parts = and_parts (address_on q.0 == address_on r) (nat_lt (stamp_on r) (stamp_on q.0)) q.2 in
            let less = ltb-true (stamp_on r) (stamp_on q.0) parts.1 in
            let high = most v os (own_on q.0) (in_map own_on q.0 pages q.1) (eqb-true (address_on q.0) (address_on r) parts.0) in
            ne_eqb (stamp_on r) (greatest_of os v) (λ same. omega (arith, same, less, high)) ∙ sym (not_from_true (list_any (newer r) pages) some)
        | inr none ↦
            let le : greatest_of os v ≤ stamp_on r = ⊎_elim (λ low. omega (arith, low)) (λ o. bounded o.0 o.1 o.2 o.3 none) (reached v os) in
            eq-eqb (stamp_on r) (greatest_of os v) (omega (arith, own, le)) ∙ sym (not_from_false (list_any (newer r) pages) none)
      ]
    where
      bounded : (o : Own) → In o (map own_on pages) → o.vaddr ≡ address_on r → greatest_of (map own_on pages) (address_on r) ≡ o.stamp → list_any (newer r) pages ≡ false
          → greatest_of (map own_on pages) (address_on r) ≤ stamp_on r
      bounded o there at is_it none =
          let q = in_map_to own_on o pages there in
          let stamp : stamp_on q.0 ≡ o.stamp = ap (λ (x : Own). x.stamp) q.2 in
          let here : address_on q.0 ≡ address_on r = ap (λ (x : Own). x.vaddr) q.2 ∙ at in
          elim (cases_lt (stamp_on r) (stamp_on q.0)) [
            | inr le ↦ omega (arith, le, stamp, is_it)
            | inl less ↦ absurd (false≢true (sym none ∙ any_from (newer r) q.0 pages q.1
                (and_from (address_on q.0 == address_on r) (nat_lt (stamp_on r) (stamp_on q.0)) (eq-eqb (address_on q.0) (address_on r) here) (lt-ltb (stamp_on r) (stamp_on q.0) less))))
          ]

pub filter_on : {A B : Type 0} (f : A → B) (p : B → Bool) (q : A → Bool) (xs : List A) → ((x : A) → In x xs → p (f x) ≡ q x) → filter p (map f xs) ≡ map f (filter q xs)
filter_on f p q [] same = refl
filter_on {A} {B} f p q (x ∷ xs) same =
    let rest = filter_on f p q xs (λ y is. same y (inr is)) in
    (λ i. cond (same x (inl refl) i) (f x ∷ rest i) (rest i)) ∙ by (q x) (filter q xs)
  where
    by : (b : Bool) (ys : List A) → cond b (f x ∷ map f ys) (map f ys) ≡ map f (cond b (x ∷ ys) ys)
    by true ys = refl
    by false ys = refl

pub newest_are : (pages : List Readable) → newest_of (map own_on pages) ≡ map own_on (filter (has_greatest_stamp pages) pages)
unfolding newest_of
newest_are pages = filter_on own_on (λ o. o.stamp == greatest_of (map own_on pages) o.vaddr) (has_greatest_stamp pages) pages (greatest_test pages)

-- the needed pages are the readable virtual pages with the greatest stamp of their address
pub needed_are : (image : Image) (t : ScanTable) → IsTableOf image t → needed_of (shape_of_image image) t.seen ≡ map own_on (filter (has_greatest_stamp (virtual_pages image)) (virtual_pages image))
unfolding virtual_pages
needed_are image t is =
    let shape = shape_of_image image in
    ap (λ seen. newest_of (owns_of shape seen)) (is.each_page ∙ listed image)
    ∙ (ap newest_of (owns_are image shape (readable_pages image))
    ∙ newest_are (filter (λ r. nat_lt r.page (first_physical shape) && is_virtual_rec shape r.rec) (readable_pages image)))

find_on : {A B : Type 0} (f : A → B) (p : B → Bool) (xs : List A) → find p (map f xs) ≡ option_map f (find (λ x. p (f x)) xs)
find_on f p [] = refl
find_on {A} {B} f p (x ∷ xs) = (λ i. cond (p (f x)) (Some (f x)) (find_on f p xs i)) ∙ by (p (f x)) (find (λ x. p (f x)) xs)
  where
    by : (b : Bool) (o : Option A) → cond b (Some (f x)) (option_map f o) ≡ option_map f (cond b (Some x) o)
    by true o = refl
    by false o = refl

-- the first page of an address among those that pass, or the first that passes among those of the address
swapped : {A : Type 0} (at kept out : A → Bool) (xs : List A) → find (λ x. at x && out x) (filter kept xs) ≡ find out (filter (λ x. at x && kept x) xs)
swapped at kept out [] = refl
swapped {A} at kept out (x ∷ xs) = by (at x) (kept x) (filter kept xs) (filter (λ x. at x && kept x) xs) (swapped at kept out xs) refl
  where
    by : (a k : Bool) (ys zs : List A) → find (λ x. at x && out x) ys ≡ find out zs → at x ≡ a → find (λ x. at x && out x) (cond k (x ∷ ys) ys) ≡ find out (cond (a && k) (x ∷ zs) zs)
    by true true ys zs same is = λ i. cond (is i && out x) (Some x) (same i)
    by true false ys zs same is = same
    by false true ys zs same is = (λ i. cond (is i && out x) (Some x) (find (λ x. at x && out x) ys)) ∙ same
    by false false ys zs same is = same

first_is : (xs : List Readable) → find (λ r. true) xs ≡ first_in xs
first_is [] = refl
first_is (x ∷ xs) = refl

either : (xs : List Readable) (o : Option Readable) → or_else (option_map own_on o) (option_map own_on (first_in xs)) ≡ option_map own_on (or_first_in xs o)
either xs None = refl
either xs (Some r) = refl

pub pages_is : (image : Image) → (shape_of_image image).pages ≡ image.pages
unfolding shape_for
pages_is image = refl

-- the page of an address is its newest one
pub pick_is : (image : Image) (t : ScanTable) (v : ℕ) → IsTableOf image t → pick_of (shape_of_image image).pages (virtual_spare image) (needed_of (shape_of_image image) t.seen) v ≡ option_map own_on (newest image v)
unfolding pick_of newest
pick_is image t v is =
    let pages = virtual_pages image in
    let kept = has_greatest_stamp pages in
    let at : Readable → Bool = λ r. address_on r == v in
    let out : Option ℕ → Readable → Bool = λ spare r. is_outside image.pages spare r.page in
    let mine = filter (λ r. at r && kept r) pages in
    let first : (spare : Option ℕ) → find (λ (o : Own). o.vaddr == v && is_outside image.pages spare o.page) (map own_on (filter kept pages)) ≡ option_map own_on (find (out spare) mine) =
    λ spare. find_on own_on (λ o. o.vaddr == v && is_outside image.pages spare o.page) (filter kept pages) ∙ ap (option_map own_on) (swapped at kept (out spare) pages) in
    (λ i. pick_of (pages_is image i) (virtual_spare image) (needed_are image t is i) v)
    ∙ ((λ i. or_else (first (virtual_spare image) i) (first None i))
    ∙ (ap (λ o. or_else (option_map own_on (find (out (virtual_spare image)) mine)) (option_map own_on o)) (first_is mine)
    ∙ either mine (find (out (virtual_spare image)) mine)))
