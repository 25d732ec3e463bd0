-- The readable pages of a segment, by their numbers.
use Rattle.std.proofs.Common.{◌≡◌, ℕ, zero, suc, ◌+◌, ◌≤◌, ◌<◌, nat_le, nat_lt, ◌&&◌, List, [], ◌∷◌, length, refl, sym, ap, subst, ◌∙◌, Option, Some, None, option_map, ◌⊎◌, inl, inr, arith, IsTrue}
use Rattle.std.proofs.lemmas.Bool.{and_parts, and_from, ltb-true, leb-true, lt-ltb, le-leb, cases_lt}
use Rattle.std.proofs.lemmas.List.{get_or_past}
use Rattle.std.specs.List.{enumerate_from}
use Rattle.std.specs.Prelude.{slice_index_or}
use Rattle.nl_field.specs.Page.{Page, erased, uncorrectable, written, Image, page_at}
use Rattle.nl_field.specs.SpareRecord.{spare_rec_of}
use Rattle.nl_field.specs.Medium.{Readable, readable, readable_pages, shape_of_image, first_physical, is_virtual_rec, is_physical_rec, virtual_pages, physical_pages}
use Rattle.nl_field.specs.declared.spare.SpareRec.{SpareRec}
use Rattle.nl_field.specs.Members.{Has}
use Rattle.nl_meta.proofs.Lists.{some_in, none_some, member-filter, filter-member, member-some, some-member}
use Rattle.nl_spec_image.specs.ReadablePages.{WrittenAt, PagesAreReadable}

-- ---- the elements of a list with their numbers

at_index : {X : Type 0} (a : ℕ) (xs : List X) (k : ℕ) (d : X) → k < length xs → Has (enumerate_from a xs) (a + k, slice_index_or xs k d)
at_index a [] k d h = absurd (none k h)
  where
    none : (k : ℕ) → k < 0 → ⊥
    none k h = omega arith
at_index a (x ∷ xs) zero d h = inl (λ i. (start a i, x))
  where
    start : (a : ℕ) → a ≡ a + 0
    start a = omega arith
at_index {X} a (x ∷ xs) (suc k) d h = inr (subst (λ (n : ℕ). Has {X = ℕ × X} (enumerate_from (a + 1) xs) (n, slice_index_or xs k d)) (next a k) (at_index (a + 1) xs k d (omega (arith, h))))
  where
    next : (a k : ℕ) → a + 1 + k ≡ a + suc k
    next a k = omega arith

index_of : {X : Type 0} (a : ℕ) (xs : List X) (p : ℕ × X) (d : X) → Has (enumerate_from a xs) p → (k : ℕ) × (p.0 ≡ a + k) × (slice_index_or xs k d ≡ p.1)
index_of a [] p d h = absurd h
index_of {X} a (x ∷ xs) p d (inl e) = (0, sym (ap (λ (z : ℕ × X). z.0) e) ∙ start a, ap (λ (z : ℕ × X). z.1) e)
  where
    start : (a : ℕ) → a ≡ a + 0
    start a = omega arith
index_of a (x ∷ xs) p d (inr m) = let r = index_of (a + 1) xs p d m in (suc r.0, r.1 ∙ next a r.0, r.2)
  where
    next : (a k : ℕ) → a + 1 + k ≡ a + suc k
    next a k = omega arith

from_zero : (k : ℕ) → 0 + k ≡ k
from_zero k = omega arith

-- ---- the readable pages of the image

module _ (image : Image) (r : Readable) where
  from_written : WrittenAt image r → Has (readable_pages image) r
  unfolding readable_pages
  from_written w = by (cases_lt r.page (length image.contents))
    where
      not_erased : erased ≡ written w.bytes → ⊥
      not_erased e = cc

      is_readable : readable (0 + r.page, page_at image r.page) ≡ Some r
      is_readable =
          ap (λ (n : ℕ). readable (n, page_at image r.page)) (from_zero r.page) ∙ ap (λ (page : Page). readable (r.page, page)) w.at ∙ ap (option_map (λ rec. record { page = r.page; rec = rec; main = w.bytes.main })) w.spelled
          ∙ (λ i. Some (record { page = r.page; rec = r.rec; main = w.main i }))

      by : (r.page < length image.contents) ⊎ (length image.contents ≤ r.page) → Has (readable_pages image) r
      by (inl h) = some-member readable (enumerate_from 0 image.contents) (0 + r.page, page_at image r.page) r (at_index 0 image.contents r.page erased h) is_readable
      by (inr h) = absurd (not_erased (sym (get_or_past image.contents r.page erased h) ∙ w.at))

  to_written : Has (readable_pages image) r → WrittenAt image r
  unfolding readable_pages
  to_written m = by (member-some readable (enumerate_from 0 image.contents) r m)
    where
      of : (p : ℕ) (page : Page) → page_at image p ≡ page → readable (p, page) ≡ Some r → WrittenAt image r
      of p erased at e = absurd (none_some r e)
      of p uncorrectable at e = absurd (none_some r e)
      of p (written bytes) at e = spelled (spare_rec_of bytes.spare) refl e
        where
          spelled : (o : Option SpareRec) → spare_rec_of bytes.spare ≡ o → option_map (λ rec. record { page = p; rec = rec; main = bytes.main }) o ≡ Some r → WrittenAt image r
          spelled None s e = absurd (none_some r e)
          spelled (Some rec) s e =
              let same = some_in (record { page = p; rec = rec; main = bytes.main }) r e in
              record {
                bytes = bytes;
                at = ap (page_at image) (sym (ap (λ (z : Readable). z.page) same)) ∙ at;
                spelled = s ∙ ap (λ (z : Readable). Some z.rec) same;
                main = ap (λ (z : Readable). z.main) same;
              }

      by : (x : ℕ × Page) × Has (enumerate_from 0 image.contents) x × (readable x ≡ Some r) → WrittenAt image r
      by x =
          let k = index_of 0 image.contents x.0 erased x.1 in
          of x.0.0 x.0.1 (ap (page_at image) (k.1 ∙ from_zero k.0) ∙ k.2) x.2

  virtual_law : Has (virtual_pages image) r → WrittenAt image r × (r.page < first_physical (shape_of_image image)) × IsTrue (is_virtual_rec (shape_of_image image) r.rec)
  unfolding virtual_pages
  virtual_law m =
      let f = member-filter (λ r. nat_lt r.page (first_physical (shape_of_image image)) && is_virtual_rec (shape_of_image image) r.rec) (readable_pages image) r m in
      let p = and_parts _ _ f.1 in
      (to_written f.0, ltb-true _ _ p.0, p.1)

  law_virtual : WrittenAt image r × (r.page < first_physical (shape_of_image image)) × IsTrue (is_virtual_rec (shape_of_image image) r.rec) → Has (virtual_pages image) r
  unfolding virtual_pages
  law_virtual h = filter-member (λ r. nat_lt r.page (first_physical (shape_of_image image)) && is_virtual_rec (shape_of_image image) r.rec) (readable_pages image) r (from_written h.0) (and_from _ _ (lt-ltb _ _ h.1) h.2)

  physical_law : Has (physical_pages image) r → WrittenAt image r × (first_physical (shape_of_image image) ≤ r.page) × IsTrue (is_physical_rec r.rec)
  unfolding physical_pages
  physical_law m =
      let f = member-filter (λ r. nat_le (first_physical (shape_of_image image)) r.page && is_physical_rec r.rec) (readable_pages image) r m in
      let p = and_parts _ _ f.1 in
      (to_written f.0, leb-true _ _ p.0, p.1)

  law_physical : WrittenAt image r × (first_physical (shape_of_image image) ≤ r.page) × IsTrue (is_physical_rec r.rec) → Has (physical_pages image) r
  unfolding physical_pages
  law_physical h = filter-member (λ r. nat_le (first_physical (shape_of_image image)) r.page && is_physical_rec r.rec) (readable_pages image) r (from_written h.0) (and_from _ _ (le-leb _ _ h.1) h.2)

pub pages_are_readable : PagesAreReadable
pages_are_readable = record {
  virtual = λ image r. (virtual_law image r, law_virtual image r);
  physical = λ image r. (physical_law image r, law_physical image r);
}
