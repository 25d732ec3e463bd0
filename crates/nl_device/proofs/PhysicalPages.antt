-- What an image stores in the physical segment, page by page.
use Rattle.std.proofs.Common.{◌≡◌, ◌⊎◌, inl, inr, ⊎_elim, ℕ, zero, suc, ◌+◌, ◌<◌, ◌≤◌, ◌==◌, nat_le, Bool, true, false, cond, ◌&&◌, Option, Some, None, List, [], ◌∷◌, get_or, filter, filter_map, find, option_map, refl, sym, ◌∙◌, ap, arith, eq-eqb, ne_eqb}
use Rattle.std.specs.List.{enumerate_from, cons_option}
use Rattle.std.proofs.lemmas.Bool.{cases_eq, le-leb, lt-leb}
use Rattle.std.proofs.lemmas.Option.{none-some, same_Some}
use Rattle.nl_field.specs.Page.{Page, erased, uncorrectable, written, Image, page_at}
use Rattle.nl_field.specs.SpareRecord.{spare_rec_of}
use Rattle.nl_field.specs.Medium.{Readable, readable, readable_pages, physical_pages, physical_page_at, first_physical, shape_of_image, is_physical_rec}
use Rattle.nl_field.specs.declared.spare.SpareRec.{SpareRec}
use Rattle.nl_field.specs.declared.spare.SpareRec.TheVariants.{Virtual, Physical}
use Rattle.nl_iface.specs.Stored.{NamedPage, named_in, stored_in}
use Rattle.nl_pseg.specs.Pages.{Shown, shown_with, shown_by}

-- what a page of the segment holds
abbrev pub named_of : Option Shown → Option NamedPage
named_of None = None
named_of (Some s) = Some (record { tag = s.0; stamp = s.1; bytes = s.2 })

spelled_page : (p : ℕ) (main : List ℕ) (o : Option SpareRec) (r : Readable) → option_map (λ rec. record { page = p; rec = rec; main = main }) o ≡ Some r → r.page ≡ p
spelled_page p main None r is = absurd (none-some r is)
spelled_page p main (Some rec) r is = sym (ap (λ (q : Readable). q.page) (same_Some (record { page = p; rec = rec; main = main }) r is))

pub page_is : (a : ℕ) (x : Page) (r : Readable) → readable (a, x) ≡ Some r → r.page ≡ a
page_is a erased r is = absurd (none-some r is)
page_is a uncorrectable r is = absurd (none-some r is)
page_is a (written bytes) r is = spelled_page a bytes.main (spare_rec_of bytes.spare) r is

module _ (first p : ℕ) where
  abbrev is_kept : Readable → Bool
  is_kept r = nat_le first r.page && is_physical_rec r.rec

  abbrev is_here : Readable → Bool
  is_here r = r.page == p

  abbrev found_in : ℕ → List Page → Option Readable
  found_in a xs = find is_here (filter is_kept (filter_map readable (enumerate_from a xs)))

  filtered : (b : Bool) (r : Readable) (ys : List Readable) → find is_here (cond b (r ∷ ys) ys) ≡ cond b (cond (is_here r) (Some r) (find is_here ys)) (find is_here ys)
  filtered true r ys = refl
  filtered false r ys = refl

  same_cond : (b : Bool) (z : Option Readable) → cond b z z ≡ z
  same_cond true z = refl
  same_cond false z = refl

  skip : (o : Option Readable) (ys : List Readable) → ((r : Readable) → o ≡ Some r → (is_kept r ≡ false) ⊎ (is_here r ≡ false)) → find is_here (filter is_kept (cons_option o ys)) ≡ find is_here (filter is_kept ys)
  skip None ys unlike = refl
  skip (Some r) ys unlike =
      let z = find is_here (filter is_kept ys) in
      filtered (is_kept r) r (filter is_kept ys) ∙ ⊎_elim
      (λ kept. ap (λ b. cond b (cond (is_here r) (Some r) z) z) kept)
      (λ here. ap (λ c. cond (is_kept r) (cond c (Some r) z) z) here ∙ same_cond (is_kept r) z)
      (unlike r refl)

  before : (a : ℕ) (xs : List Page) → p < a → found_in a xs ≡ None
  before a [] past = refl
  before a (x ∷ xs) past =
      skip (readable (a, x)) (filter_map readable (enumerate_from (a + 1) xs)) (λ r is. let e = page_is a x r is in inr (ne_eqb r.page p (λ same. omega (arith, past, e, same))))
      ∙ before (a + 1) xs (omega (arith, past))

  spelled : (o : Option SpareRec) (main : List ℕ) (ys : List Readable) → first ≤ p → find is_here (filter is_kept ys) ≡ None
      → named_in (find is_here (filter is_kept (cons_option (option_map (λ rec. record { page = p; rec = rec; main = main }) o) ys))) ≡ named_of (shown_with o main)
  spelled None main ys from none = ap named_in none
  spelled (Some (Virtual v s w)) main ys from none =
      ap named_in (skip (Some (record { page = p; rec = Virtual v s w; main = main })) ys (λ r is. inl (ap is_kept (sym (same_Some (record { page = p; rec = Virtual v s w; main = main }) r is)) ∙ ap (λ b. b && false) (le-leb first p from))) ∙ none)
  spelled (Some (Physical t s w)) main ys from none =
      let z = find is_here (filter is_kept ys) in
      let r : Readable = record { page = p; rec = Physical t s w; main = main } in
      ap named_in (filtered (is_kept r) r (filter is_kept ys) ∙ (ap (λ b. cond (b && true) (cond (is_here r) (Some r) z) z) (le-leb first p from) ∙ ap (λ c. cond c (Some r) z) (eq-eqb p p refl)))

  here : (x : Page) (xs : List Page) → first ≤ p → named_in (found_in p (x ∷ xs)) ≡ named_of (shown_by x)
  here erased xs from = ap named_in (before (p + 1) xs (omega arith))
  here uncorrectable xs from = ap named_in (before (p + 1) xs (omega arith))
  here (written bytes) xs from = spelled (spare_rec_of bytes.spare) bytes.main (filter_map readable (enumerate_from (p + 1) xs)) from (before (p + 1) xs (omega arith))

  at : (k a : ℕ) (xs : List Page) → first ≤ p → p ≡ a + k → named_in (found_in a xs) ≡ named_of (shown_by (get_or xs k erased))
  at zero a [] from is = refl
  at zero a (x ∷ xs) from is = let e : a ≡ p = omega (arith, is) in ap (λ n. named_in (found_in n (x ∷ xs))) e ∙ here x xs from
  at (suc k) a [] from is = refl
  at (suc k) a (x ∷ xs) from is =
      ap named_in (skip (readable (a, x)) (filter_map readable (enumerate_from (a + 1) xs)) (λ r e. let q = page_is a x r e in inr (ne_eqb r.page p (λ same. omega (arith, is, q, same)))))
      ∙ at k (a + 1) xs from (omega (arith, is))

  low : (a : ℕ) (xs : List Page) → p < first → found_in a xs ≡ None
  low a [] below = refl
  low a (x ∷ xs) below =
      skip (readable (a, x)) (filter_map readable (enumerate_from (a + 1) xs)) (λ r is. ⊎_elim
      (λ same. inl (ap (λ b. b && is_physical_rec r.rec) (lt-leb first r.page (omega (arith, below, same)))))
      (λ ne. inr (ne_eqb r.page p ne))
      (cases_eq r.page p))
      ∙ low (a + 1) xs below

-- a page of the physical segment stores what it shows
pub named_at : (image : Image) (p : ℕ) → first_physical (shape_of_image image) ≤ p → (stored_in image).named p ≡ named_of (shown_by (page_at image p))
unfolding stored_in physical_page_at physical_pages readable_pages
named_at image p from = at (first_physical (shape_of_image image)) p p 0 image.contents from (omega arith)

-- a page before the physical segment stores nothing under a name
pub named_low : (image : Image) (p : ℕ) → p < first_physical (shape_of_image image) → (stored_in image).named p ≡ None
unfolding stored_in physical_page_at physical_pages readable_pages
named_low image p below = ap named_in (low (first_physical (shape_of_image image)) p 0 image.contents below)
