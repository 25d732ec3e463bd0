-- What an image stores on a page of the physical segment is its readable page.
use Rattle.std.proofs.Common.{◌≡◌, ℕ, ◌==◌, List, find, refl, ap, ◌∙◌, Option, Some, None, IsTrue}
use Rattle.std.proofs.lemmas.Bool.{eq-eqb, eqb-true}
use Rattle.nl_field.specs.Medium.{Readable, physical_pages, physical_page_at, is_physical_rec}
use Rattle.nl_field.specs.Page.{Image}
use Rattle.nl_field.specs.declared.spare.SpareRec.{SpareRec}
use Rattle.nl_field.specs.declared.spare.SpareRec.TheVariants.{Virtual, Physical}
use Rattle.nl_iface.specs.Stored.{NamedPage, named_by, named_in, stored_in}
use Rattle.nl_field.specs.Members.{Has}
use Rattle.nl_meta.proofs.Lists.{some_in, none_some, member-find, find-some}
use Rattle.nl_meta.proofs.StampProofs.{one_page, physical_readable}
use Rattle.nl_spec_image.proofs.ReadableProofs.{pages_are_readable}

-- the record of a page of a file, with its wear
pub record IsNamed (r : Readable) (n : NamedPage) : Type 0 where
  pub wear : ℕ
  pub rec : r.rec ≡ Physical n.tag n.stamp wear
  pub main : r.main ≡ n.bytes

named_of_rec : (rec : SpareRec) (main : List ℕ) (page : ℕ) → IsTrue (is_physical_rec rec) → (n : NamedPage) × (named_by rec main ≡ Some n) × IsNamed (record { page = page; rec = rec; main = main }) n
named_of_rec (Virtual vaddr stamp wear) main page is = absurd (no is)
  where
    no : IsTrue (is_physical_rec (Virtual vaddr stamp wear)) → ⊥
    no e = cc
named_of_rec (Physical tag stamp wear) main page is = (record { tag = tag; stamp = stamp; bytes = main }, refl, record { wear = wear; rec = refl; main = refl })

-- a readable page of the segment is stored at its number
pub named_member : (image : Image) (r : Readable) → Has (physical_pages image) r → (n : NamedPage) × ((stored_in image).named r.page ≡ Some n) × IsNamed r n
unfolding stored_in physical_page_at
named_member image r m =
    let f = find-some (λ (x : Readable). x.page == r.page) (physical_pages image) r m (eq-eqb _ _ refl) in
    let g = member-find (λ (x : Readable). x.page == r.page) (physical_pages image) f.0 f.1 in
    let same = one_page image f.0 r (physical_readable image f.0 g.0) (physical_readable image r m) (eqb-true _ _ g.1) in
    let n = named_of_rec r.rec r.main r.page ((pages_are_readable.physical image r).0 m).2 in
    (n.0, ap named_in (f.1 ∙ ap (λ (x : Readable). Some x) same) ∙ n.1, n.2)

-- what is stored of the segment is on a readable page
pub member_named : (image : Image) (p : ℕ) (n : NamedPage) → (stored_in image).named p ≡ Some n → (r : Readable) × Has (physical_pages image) r × (r.page ≡ p) × IsNamed r n
unfolding stored_in physical_page_at
member_named image p n e = by (find (λ (r : Readable). r.page == p) (physical_pages image)) refl e
  where
    of_rec : (r : Readable) (rec : SpareRec) → r.rec ≡ rec → named_by rec r.main ≡ Some n → IsNamed r n
    of_rec r (Virtual vaddr stamp wear) is e = absurd (none_some n e)
    of_rec r (Physical tag stamp wear) is e =
        let same = some_in (record { tag = tag; stamp = stamp; bytes = r.main }) n e in
        record { wear = wear; rec = is ∙ (λ i. Physical (same i).tag (same i).stamp wear); main = ap (λ (x : NamedPage). x.bytes) same }

    by : (o : Option Readable) → find (λ (r : Readable). r.page == p) (physical_pages image) ≡ o → named_in o ≡ Some n → (r : Readable) × Has (physical_pages image) r × (r.page ≡ p) × IsNamed r n
    by None f e = absurd (none_some n e)
    by (Some r) f e = let g = member-find (λ (x : Readable). x.page == p) (physical_pages image) r f in (r, g.0, eqb-true _ _ g.1, of_rec r r.rec refl e)
