-- What is found on an image is what it stores.
use Rattle.std.proofs.Common.{◌≡◌, ℕ, Bool, true, false, nat_le, ◌&&◌, cond, List, [], ◌∷◌, map, Option, Some, None, option_map, refl, sym, ◌∙◌, ap}
use Rattle.std.specs.Prelude.{◌==◌, filter, filter_map, find}
use Rattle.std.specs.List.{cons_option}
use Rattle.std.proofs.lemmas.Option.{none-some, same_Some}
use Rattle.nl_field.specs.Medium.{Readable, first_physical, is_physical_rec, physical_page_at, physical_pages, readable_pages, shape_of_image}
use Rattle.nl_field.specs.Page.{Image}
use Rattle.nl_field.specs.declared.pointer.Tag.{Tag}
use Rattle.nl_field.specs.declared.spare.SpareRec.{SpareRec}
use Rattle.nl_field.specs.declared.spare.SpareRec.TheVariants.{Virtual, Physical}
use Rattle.nl_field.specs.ScanList.{seen_of}
use Rattle.nl_iface.specs.Names.{LivePage}
use Rattle.nl_iface.specs.Stored.{NamedPage, named_in, stored_in}
use Rattle.nl_device.specs.Kept.{KeptPages, kept_from, with_record}
use Rattle.nl_device.specs.Shown.{found_in, found_on}
use Rattle.nl_device.specs.declared.kept.page.KeptPage.{KeptPage}
use Rattle.nl_device.proofs.Found.{IsOf, own}

-- the tag and the stamp of a page that is stored
abbrev pub without_bytes : Option NamedPage → Option LivePage
without_bytes None = None
without_bytes (Some n) = Some (record { tag = n.tag; stamp = n.stamp })

named_step : (page stamp wear : ℕ) (tag : Tag) (main : List ℕ) (b : Bool) (x : Option KeptPage) (y : Option Readable) → option_map found_on x ≡ without_bytes (named_in y)
    → option_map found_on (cond b (Some (record { page = page; stamp = stamp; tag = tag })) x) ≡ without_bytes (named_in (cond b (Some (record { page = page; rec = Physical tag stamp wear; main = main })) y))
named_step page stamp wear tag main true x y same = refl
named_step page stamp wear tag main false x y same = same

named_one : (p page : ℕ) (rec : SpareRec) (low : Bool) (rest : List KeptPage) (main : List ℕ) (others : List Readable)
    → option_map found_on (find (λ k. k.page == p) rest) ≡ without_bytes (named_in (find (λ r. r.page == p) others))
    → option_map found_on (find (λ k. k.page == p) (cons_option (cond low (with_record page rec) None) rest))
    ≡ without_bytes (named_in (find (λ r. r.page == p) (cond (low && is_physical_rec rec) (record { page = page; rec = rec; main = main } ∷ others) others)))
named_one p page (Virtual vaddr stamp wear) true rest main others same = same
named_one p page (Virtual vaddr stamp wear) false rest main others same = same
named_one p page (Physical tag stamp wear) true rest main others same = named_step page stamp wear tag main (page == p) (find (λ k. k.page == p) rest) (find (λ r. r.page == p) others) same
named_one p page (Physical tag stamp wear) false rest main others same = same

named_same : (image : Image) (low p : ℕ) (rs : List Readable)
    → option_map found_on (find (λ k. k.page == p) (filter_map (kept_from low) (map (seen_of image) rs))) ≡ without_bytes (named_in (find (λ r. r.page == p) (filter (own low) rs)))
named_same image low p [] = refl
named_same image low p (r ∷ rs) = named_one p r.page r.rec (nat_le low r.page) (filter_map (kept_from low) (map (seen_of image) rs)) r.main (filter (own low) rs) (named_same image low p rs)

pub found_named : (image : Image) (kept : KeptPages) (p : ℕ) → IsOf image kept → found_in kept p ≡ without_bytes ((stored_in image).named p)
unfolding found_in stored_in physical_page_at physical_pages
found_named image kept p is = ap (λ l. option_map found_on (find (λ k. k.page == p) l)) is.pages ∙ named_same image (first_physical (shape_of_image image)) p (readable_pages image)

-- what is found is stored, with the bytes that are stored
pub stored_found : (image : Image) (kept : KeptPages) (p : ℕ) (page : LivePage) → IsOf image kept → found_in kept p ≡ Some page → (n : NamedPage) × ((stored_in image).named p ≡ Some n) × (n.tag ≡ page.tag) × (n.stamp ≡ page.stamp)
stored_found image kept p page is found = by ((stored_in image).named p) (sym (found_named image kept p is) ∙ found)
  where
    by : (o : Option NamedPage) → without_bytes o ≡ Some page → (n : NamedPage) × (o ≡ Some n) × (n.tag ≡ page.tag) × (n.stamp ≡ page.stamp)
    by None none = absurd (none-some page none)
    by (Some n) some = let e = same_Some (record { tag = n.tag; stamp = n.stamp }) page some in (n, refl, ap (λ (l : LivePage). l.tag) e, ap (λ (l : LivePage). l.stamp) e)
