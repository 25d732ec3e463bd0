-- A write by a virtual address leaves the virtual segment firm: its pages of one stamp are the same, and it has a spare block.
use Rattle.std.proofs.Common.{◌≡◌, ◌⊎◌, inl, inr, ⊎_elim, ℕ, zero, suc, ◌+◌, ◌*◌, ◌/◌, ◌<◌, ◌≤◌, ◌==◌, ◌∙◌, nat_lt, Bool, true, false, not, ◌&&◌, ◌||◌, List, [], ◌∷◌, find, Option, Some, None, is_some, bytes_eq, refl, sym, ap, subst, arith, eq-eqb, ne_eqb}
use Rattle.std.specs.List.{list_all, list_any, range_with_len}
use Rattle.std.proofs.lemmas.Bool.{and_from, and_parts, cases_Bool, cases_eq, cond-true, cond-false, eqb-false, false≢true, lt-ltb, not-true, not_from_false, not_from_true, or_cases, or_left, or_right}
use Rattle.std.proofs.lemmas.Option.{none-some}
use Rattle.std.proofs.lemmas.Slice.Eq.{bytes_eq-Decides}
use Rattle.nl_field.specs.Medium.{Readable, address_of, address_on, first_physical, is_virtual_rec, shape_of_image, stamp_on, virtual_pages, readable_pages}
use Rattle.nl_field.specs.Numbers.{shape_for}
use Rattle.nl_field.specs.Page.{Image}
use Rattle.nl_field.specs.Scan.{agree, without_wear}
use Rattle.nl_field.specs.Space.{has_greatest_stamp, spare_block, virtual_spare}
use Rattle.nl_field.specs.SpareRecord.{spare_bytes, stamp_of}
use Rattle.nl_field.specs.declared.shape.Shape.{Shape}
use Rattle.nl_field.specs.declared.spare.SpareRec.{SpareRec}
use Rattle.nl_field.specs.declared.spare.SpareRec.TheVariants.{Virtual, Physical}
use Rattle.nl_iface.specs.Stored.{Value, is_firm}
use Rattle.nl_vseg.specs.Effects.{ImageKeepsMap, GainsValue}
use Rattle.nl_vseg.specs.Maps.{Dominated}
use Rattle.nl_vseg.specs.Pages.{PageShows, ShowsBeside}
use Rattle.nl_vseg.proofs.Members.{In, any_from, filter_to}
use Rattle.nl_vseg.proofs.Newest.{from_pages, to_pages}
use Rattle.nl_vseg.proofs.Places.{not_beside}
use Rattle.nl_vseg.proofs.Views.{block_within}
use Rattle.nl_device.proofs.Spreads.{all_at, all_from, from_in, to_in}

-- ---- pages of one stamp

-- whether two virtual pages are the same, from what they show
abbrev same_value : ℕ → ℕ → List ℕ → ℕ → ℕ → List ℕ → Bool
same_value v s n u t m = bytes_eq n m && bytes_eq (spare_bytes (Virtual v s 0)) (spare_bytes (Virtual u t 0))

without : (shape : Shape) (rec : SpareRec) → is_virtual_rec shape rec ≡ true → without_wear rec ≡ Virtual (address_of rec) (stamp_of rec) 0
without shape (Virtual v s w) is = refl
without shape (Physical tag s w) is = absurd (false≢true is)

record_of : (image : Image) (r : Readable) → In r (virtual_pages image) → without_wear r.rec ≡ Virtual (address_on r) (stamp_on r) 0
unfolding virtual_pages
record_of image r is =
    let shape = shape_of_image image in
    let f = filter_to (λ (q : Readable). nat_lt q.page (first_physical shape) && is_virtual_rec shape q.rec) r (readable_pages image) is in
    without shape r.rec (and_parts (nat_lt r.page (first_physical shape)) (is_virtual_rec shape r.rec) f.1).1

agree_is : (image : Image) (r q : Readable) → In r (virtual_pages image) → In q (virtual_pages image) → agree r q ≡ same_value (address_on r) (stamp_on r) r.main (address_on q) (stamp_on q) q.main
agree_is image r q m n = λ i. bytes_eq r.main q.main && bytes_eq (spare_bytes (record_of image r m i)) (spare_bytes (record_of image q n i))

same_itself : (v s : ℕ) (n : List ℕ) → same_value v s n v s n ≡ true
same_itself v s n = and_from (bytes_eq n n) (bytes_eq (spare_bytes (Virtual v s 0)) (spare_bytes (Virtual v s 0))) ((bytes_eq-Decides n n).1 refl) ((bytes_eq-Decides (spare_bytes (Virtual v s 0)) (spare_bytes (Virtual v s 0))).1 refl)

-- what is shown under one stamp is one value
abbrev pub FactsAgree : Shape → Image → Type 0
FactsAgree shape image =
    (v u s t : ℕ) (n m : List ℕ) → v < shape.vaddrs → u < shape.vaddrs → s ≡ t → PageShows (shape.vblocks * shape.pages) image v s n → PageShows (shape.vblocks * shape.pages) image u t m → same_value v s n u t m ≡ true

abbrev agreed : List Readable → Bool
agreed pages = list_all (λ r. list_all (λ q. not (stamp_on r == stamp_on q) || agree r q) pages) pages

facts_of : (image : Image) → agreed (virtual_pages image) ≡ true → FactsAgree (shape_of_image image) image
facts_of image all v u s t n m v_in u_in same x y =
    let r = to_pages image v s n v_in x in
    let q = to_pages image u t m u_in y in
    let pages = virtual_pages image in
    let one = all_at (λ q. not (stamp_on r.0 == stamp_on q) || agree r.0 q) q.0 pages (from_in q.0 pages q.1) (all_at (λ r. list_all (λ q. not (stamp_on r == stamp_on q) || agree r q) pages) r.0 pages (from_in r.0 pages r.1) all) in
    let is : agree r.0 q.0 ≡ true = ⊎_elim
    (λ off. absurd (eqb-false (stamp_on r.0) (stamp_on q.0) (not-true (stamp_on r.0 == stamp_on q.0) off) (r.3 ∙ same ∙ sym q.3)))
    (λ yes_agree. yes_agree)
    (or_cases (not (stamp_on r.0 == stamp_on q.0)) (agree r.0 q.0) one) in
    (λ i. same_value (sym r.2 i) (sym r.3 i) (sym r.4 i) (sym q.2 i) (sym q.3 i) (sym q.4 i)) ∙ sym (agree_is image r.0 q.0 r.1 q.1) ∙ is

of_facts : (image : Image) → FactsAgree (shape_of_image image) image → agreed (virtual_pages image) ≡ true
of_facts image facts =
    let pages = virtual_pages image in
    all_from (λ r. list_all (λ q. not (stamp_on r == stamp_on q) || agree r q) pages) pages (λ r m.
    all_from (λ q. not (stamp_on r == stamp_on q) || agree r q) pages (λ q n. ⊎_elim
    (λ same.
    let a = from_pages image r (to_in r pages m) in
    let b = from_pages image q (to_in q pages n) in
    or_right (not (stamp_on r == stamp_on q)) (agree r q) (agree_is image r q (to_in r pages m) (to_in q pages n) ∙ facts (address_on r) (address_on q) (stamp_on r) (stamp_on q) r.main q.main a.0 b.0 same a.1 b.1))
    (λ far. or_left (not (stamp_on r == stamp_on q)) (agree r q) (not_from_false (stamp_on r == stamp_on q) (ne_eqb (stamp_on r) (stamp_on q) far)))
    (cases_eq (stamp_on r) (stamp_on q))))

-- ---- a block that can be done without

-- Each value that the image shows of an address below the count is not the newest of its address, or shown outside the block too.
abbrev Beside : Shape → Image → ℕ → Type 0
Beside shape c spare =
    (v t : ℕ) (n : List ℕ) → v < shape.vaddrs → PageShows (shape.vblocks * shape.pages) c v t n
    → (s : ℕ) × (m : List ℕ) × (t ≤ s) × ShowsBeside shape.pages spare (shape.vblocks * shape.pages) c v s m

pages_are : (image : Image) → (shape_of_image image).pages ≡ image.pages
unfolding shape_for
pages_are image = refl

in_range : (n first count : ℕ) → first ≤ n → n < first + count → In n (range_with_len first count)
in_range n first zero from below = absurd (omega (arith, from, below))
in_range n first (suc k) from below = ⊎_elim (λ same. inl (sym same)) (λ ne. inr (in_range n (first + 1) k (omega (arith, from, ne)) (omega (arith, below)))) (cases_eq n first)

pub none_found : {X : Type 0} (p : X → Bool) (xs : List X) (x : X) → find p xs ≡ None → In x xs → p x ≡ true → ⊥
none_found p [] x none is passes = is
none_found p (y ∷ ys) x none is passes = elim (cases_Bool (p y)) [
  | inl holds ↦ none-some y (sym none ∙ cond-true (p y) (Some y) (find p ys) holds)
  | inr fails ↦ ⊎_elim
      (λ same. false≢true (sym fails ∙ (ap p same ∙ passes)))
      (λ rest. none_found p ys x (sym (cond-false (p y) (Some y) (find p ys) fails) ∙ none) rest passes)
      is
]

found_some : (p : ℕ → Bool) (xs : List ℕ) (x : ℕ) → In x xs → p x ≡ true → is_some (find p xs) ≡ true
found_some p xs x there passes = by (find p xs) refl
  where
    by : (o : Option ℕ) → find p xs ≡ o → is_some o ≡ true
    by None none = absurd (none_found p xs x none there passes)
    by (Some y) found = refl

false_and : (a b : Bool) → b ≡ false → (a && b) ≡ false
false_and true b e = e
false_and false b e = refl

module _ (c : Image) (spare : ℕ) (some : 0 < c.pages) (below : spare < (shape_of_image c).vblocks) (beside : Beside (shape_of_image c) c spare) where
  abbrev pages : List Readable
  pages = virtual_pages c

  abbrev is_copy : Readable → Readable → Bool
  is_copy r q = not (q.page / c.pages == spare) && (address_on q == address_on r && stamp_on q == stamp_on r)

  abbrev is_newer : Readable → Readable → Bool
  is_newer r q = address_on q == address_on r && nat_lt (stamp_on r) (stamp_on q)

  goes : (r : Readable) → In r pages → (not (r.page / c.pages == spare && has_greatest_stamp pages r) || list_any (is_copy r) pages) ≡ true
  goes r is =
      let f = from_pages c r is in
      let b = beside (address_on r) (stamp_on r) r.main f.0 f.1 in
      let q = to_pages c (address_on r) b.0 b.1 f.0 (b.3.0, b.3.1, b.3.3) in
      let outside : q.0.page / c.pages ≡ spare → ⊥ = λ e. not_beside b.3.0 (shape_of_image c).pages spare (subst (λ n. 0 < n) (sym (pages_are c)) some) b.3.2 ((λ i. sym q.5 i / pages_are c i) ∙ e) in
      ⊎_elim
      (λ same. or_right (not (r.page / c.pages == spare && has_greatest_stamp pages r)) (list_any (is_copy r) pages)
      (any_from (is_copy r) q.0 pages q.1 (and_from (not (q.0.page / c.pages == spare)) (address_on q.0 == address_on r && stamp_on q.0 == stamp_on r) (not_from_false (q.0.page / c.pages == spare) (ne_eqb (q.0.page / c.pages) spare outside))
      (and_from (address_on q.0 == address_on r) (stamp_on q.0 == stamp_on r) (eq-eqb (address_on q.0) (address_on r) q.2) (eq-eqb (stamp_on q.0) (stamp_on r) (q.3 ∙ same))))))
      (λ far.
      let le = b.2 in
      let newer : stamp_on r < stamp_on q.0 = let e = q.3 in omega (arith, far, le, e) in
      let any : list_any (is_newer r) pages ≡ true = any_from (is_newer r) q.0 pages q.1 (and_from (address_on q.0 == address_on r) (nat_lt (stamp_on r) (stamp_on q.0)) (eq-eqb (address_on q.0) (address_on r) q.2) (lt-ltb (stamp_on r) (stamp_on q.0) newer)) in
      or_left (not (r.page / c.pages == spare && has_greatest_stamp pages r)) (list_any (is_copy r) pages)
      (not_from_false (r.page / c.pages == spare && has_greatest_stamp pages r) (false_and (r.page / c.pages == spare) (has_greatest_stamp pages r) (not_from_true (list_any (is_newer r) pages) any))))
      (cases_eq b.0 (stamp_on r))

  spare_there : is_some (virtual_spare c) ≡ true
  unfolding virtual_spare spare_block
  spare_there =
      found_some (λ block. list_all (λ r. not (r.page / c.pages == block && has_greatest_stamp pages r) || list_any (λ q. not (q.page / c.pages == block) && (address_on q == address_on r && stamp_on q == stamp_on r)) pages) pages)
      (range_with_len 0 (shape_of_image c).vblocks) spare (in_range spare 0 (shape_of_image c).vblocks (omega arith) (omega (arith, below)))
      (all_from (λ r. not (r.page / c.pages == spare && has_greatest_stamp pages r) || list_any (is_copy r) pages) pages (λ r m. goes r (to_in r pages m)))

-- ---- what a write of the segment leaves

dominating : (o : Option Value) (t : ℕ) (n : List ℕ) → Dominated o t n → (x : Value) × (o ≡ Some x) × (t ≤ x.0)
dominating None t n d = absurd d
dominating (Some x) t n d = (x, refl, ⊎_elim (λ less. omega (arith, less)) (λ same. let e = same.0 in omega (arith, e)) d)

-- what the image shows is the map's value, or older
abbrev AllDominated : Shape → (ℕ → Option Value) → Image → Type 0
AllDominated shape map image = (v t : ℕ) (n : List ℕ) → v < shape.vaddrs → PageShows (shape.vblocks * shape.pages) image v t n → Dominated (map v) t n

module _ (shape : Shape) (map : ℕ → Option Value) (old c : Image) (old_is : shape_of_image old ≡ shape) (c_is : shape_of_image c ≡ shape) (some : 0 < shape.pages) (firm : is_firm old ≡ true) (none : AllDominated shape map old) where
  c_pages : 0 < c.pages
  c_pages = subst (λ n. 0 < n) (pages_are c) (subst (λ (s : Shape). 0 < s.pages) (sym c_is) some)

  old_agree : FactsAgree shape old
  unfolding is_firm
  old_agree = subst (λ (s : Shape). FactsAgree s old) old_is (facts_of old (and_parts (agreed (virtual_pages old)) (is_some (virtual_spare old)) firm).0)

  made : FactsAgree shape c → (spare : ℕ) → spare * shape.pages + shape.pages ≤ shape.vblocks * shape.pages → Beside shape c spare → is_firm c ≡ true
  unfolding is_firm
  made facts spare within beside = and_from (agreed (virtual_pages c)) (is_some (virtual_spare c))
      (of_facts c (subst (λ (s : Shape). FactsAgree s c) (sym c_is) facts))
      (spare_there c spare c_pages (subst (λ (s : Shape). spare < s.vblocks) (sym c_is) (block_within spare shape.vblocks shape.pages some within)) (subst (λ (s : Shape). Beside s c spare) (sym c_is) beside))

  pub keeps_firm : ImageKeepsMap shape.pages (shape.vblocks * shape.pages) map old c → is_firm c ≡ true
  keeps_firm k = made (λ v u s t n m v_in u_in same x y. old_agree v u s t n m v_in u_in same (k.no_more v s n x) (k.no_more u t m y)) k.spare k.within
      (λ v t n v_in shows.
      let d = dominating (map v) t n (none v t n v_in (k.no_more v t n shows)) in
      (d.0.0, d.0.1, d.2, k.there v d.0.0 d.0.1 d.1))

  pub takes_firm : (v next : ℕ) (main : List ℕ) → ((u t : ℕ) (n : List ℕ) → PageShows (shape.vblocks * shape.pages) old u t n → t < next) → GainsValue shape.pages (shape.vblocks * shape.pages) map v next main old c → is_firm c ≡ true
  takes_firm v next main above k = made agree_all k.spare k.within beside
    where
      agree_all : FactsAgree shape c
      agree_all a b s t n m a_in b_in same x y = by (k.no_more a s n x) (k.no_more b t m y)
        where
          by : PageShows (shape.vblocks * shape.pages) old a s n ⊎ ((a ≡ v) × (s ≡ next) × (n ≡ main)) → PageShows (shape.vblocks * shape.pages) old b t m ⊎ ((b ≡ v) × (t ≡ next) × (m ≡ main)) → same_value a s n b t m ≡ true
          by (inl x) (inl y) = old_agree a b s t n m a_in b_in same x y
          by (inl x) (inr y) = let lt = above a s n x in let e = y.1 in absurd (omega (arith, lt, e, same))
          by (inr x) (inl y) = let lt = above b t m y in let e = x.1 in absurd (omega (arith, lt, e, same))
          by (inr x) (inr y) = (λ i. same_value (x.0 i) (x.1 i) (x.2 i) (y.0 i) (y.1 i) (y.2 i)) ∙ same_itself v next main

      beside : Beside shape c k.spare
      beside u t n u_in shows = by (k.no_more u t n shows)
        where
          by : PageShows (shape.vblocks * shape.pages) old u t n ⊎ ((u ≡ v) × (t ≡ next) × (n ≡ main)) → (s : ℕ) × (m : List ℕ) × (t ≤ s) × ShowsBeside shape.pages k.spare (shape.vblocks * shape.pages) c u s m
          by (inl x) = let d = dominating (map u) t n (none u t n u_in x) in (d.0.0, d.0.1, d.2, k.there u d.0.0 d.0.1 d.1)
          by (inr x) = let e = x.1 in (next, main, omega (arith, e), subst (λ w. ShowsBeside shape.pages k.spare (shape.vblocks * shape.pages) c w next main) (sym x.0) k.new)
