-- Where the pages of both segments agree, so does each page that a scan lists.
use Rattle.std.proofs.Common.{◌≡◌, ◌==◌, ◌&&◌, ◌∙◌, not, Bool, true, false, List, [], ◌∷◌, inl, inr, ap, refl, subst, sym, eq-eqb}
use Rattle.std.specs.List.{list_all, list_any}
use Rattle.std.proofs.lemmas.Bool.{and_parts, not-true}
use Rattle.nl_field.specs.Medium.{Readable, physical_pages, shape_of_image, virtual_pages}
use Rattle.nl_field.specs.Members.{Has}
use Rattle.nl_field.specs.Page.{Image}
use Rattle.nl_field.specs.Scan.{agrees_below, differs_from_lower}
use Rattle.nl_field.specs.ScanList.{ListIsOfImage, physical_seen, seen_in, seen_of, virtual_seen}
use Rattle.nl_field.specs.declared.seen.Seen.{Seen}
use Rattle.nl_field.proofs.ScanLists.{lists_tell}
use Rattle.nl_meta.specs.Consistent.{AllAgree}
use Rattle.nl_meta.proofs.Lists.{any-none, map-member, member-map, none-any}

all_hold : {X : Type 0} (p : X → Bool) (xs : List X) → ((x : X) → Has xs x → p x ≡ true) → list_all p xs ≡ true
all_hold p [] each = refl
all_hold p (x ∷ xs) each = (λ i. each x (inl refl) i && all_hold p xs (λ y has. each y (inr has)) i)

module _ (image : Image) (virtuals : AllAgree (virtual_seen (shape_of_image image) (seen_in image))) (physicals : AllAgree (physical_seen (shape_of_image image) (seen_in image))) where
  tell : ListIsOfImage image
  tell = lists_tell image

  abbrev differ : List Readable → Readable → Readable → Bool
  differ pages r q = q.page == r.page && differs_from_lower pages q

  right_of : (a b : Bool) → a ≡ true → (a && b) ≡ false → b ≡ false
  right_of true b is e = e
  right_of false b is e = absurd (let no : ⊥ = cc in no)

  left_false : (a b : Bool) → b ≡ false → (a && b) ≡ false
  left_false true b e = e
  left_false false b e = refl

  -- no page of a segment differs from a lower one
  none_differs : (pages : List Readable) → ((r : Readable) → Has pages r → list_any (differ pages r) pages ≡ false) → (r : Readable) → list_any (differ pages r) pages ≡ false
  none_differs pages each r = none-any (differ pages r) pages (λ q has. left_false (q.page == r.page) (differs_from_lower pages q)
      (right_of (q.page == q.page) (differs_from_lower pages q) (eq-eqb q.page q.page refl) (any-none (differ pages q) pages (each q has) q has)))

  virtual_agrees : (r : Readable) → Has (virtual_pages image) r → list_any (differ (virtual_pages image) r) (virtual_pages image) ≡ false
  unfolding agrees_below
  virtual_agrees r has =
      let is : agrees_below image r ≡ true = virtuals (seen_of image r) (subst (λ (ss : List Seen). Has ss (seen_of image r)) (sym tell.virtual) (map-member (seen_of image) (virtual_pages image) r has)) in
      not-true (list_any (differ (virtual_pages image) r) (virtual_pages image)) (and_parts (not (list_any (differ (virtual_pages image) r) (virtual_pages image))) (not (list_any (differ (physical_pages image) r) (physical_pages image))) is).0

  physical_agrees : (r : Readable) → Has (physical_pages image) r → list_any (differ (physical_pages image) r) (physical_pages image) ≡ false
  unfolding agrees_below
  physical_agrees r has =
      let is : agrees_below image r ≡ true = physicals (seen_of image r) (subst (λ (ss : List Seen). Has ss (seen_of image r)) (sym tell.physical) (map-member (seen_of image) (physical_pages image) r has)) in
      not-true (list_any (differ (physical_pages image) r) (physical_pages image)) (and_parts (not (list_any (differ (virtual_pages image) r) (virtual_pages image))) (not (list_any (differ (physical_pages image) r) (physical_pages image))) is).1

  agrees : (r : Readable) → agrees_below image r ≡ true
  unfolding agrees_below
  agrees r = λ i. not (none_differs (virtual_pages image) virtual_agrees r i) && not (none_differs (physical_pages image) physical_agrees r i)

  pub all_agree : list_all (λ s. s.agrees) (seen_in image) ≡ true
  all_agree = all_hold (λ s. s.agrees) (seen_in image) (λ s has.
      let q = member-map (seen_of image) _ s (subst (λ (ss : List Seen). Has ss s) tell.each has) in
      sym (ap (λ (z : Seen). z.agrees) q.2) ∙ agrees q.0)
