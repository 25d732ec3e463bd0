-- What an image has under a write sequence number is what a page of a file stores.
use Rattle.std.proofs.Common.{◌≡◌, ℕ, ◌==◌, List, Option, Some, None, find, option_and_then, option_map, refl, sym, ap, ◌∙◌, eq-eqb, eqb-true}
use Rattle.nl_field.specs.Medium.{Readable, found, physical_pages, stamp_on}
use Rattle.nl_field.specs.Members.{Has}
use Rattle.nl_field.specs.Page.{Image}
use Rattle.nl_field.specs.SpareRecord.{stamp_of}
use Rattle.nl_field.specs.declared.pointer.Tag.{Tag}
use Rattle.nl_field.specs.declared.spare.SpareRec.{SpareRec}
use Rattle.nl_iface.specs.Stored.{NamedAgree, NamedPage, stored_in}
use Rattle.nl_meta.specs.Consistent.{PageOfStamp, of_file, page_on, tag_on}
use Rattle.nl_meta.proofs.Lists.{find-some, member-find, none_some}
use Rattle.nl_spec_image.proofs.NamedPages.{IsNamed, member_named, named_member}

abbrev what_it_holds : NamedPage → PageOfStamp
what_it_holds n = record { tag = n.tag; bytes = n.bytes }

on_page : (q : Readable) (m : NamedPage) → IsNamed q m → of_file q ≡ Some (what_it_holds m)
on_page q m is =
    ap (λ (rec : SpareRec). option_map (λ (tag : Tag). record { tag = tag; bytes = q.main }) (tag_on rec)) is.rec
    ∙ ap (λ (bytes : List ℕ). Some (record { tag = m.tag; bytes = bytes })) is.main

pub shown : (image : Image) → NamedAgree (stored_in image) → (p : ℕ) (n : NamedPage) → (stored_in image).named p ≡ Some n → page_on image n.stamp ≡ Some (what_it_holds n)
unfolding page_on found
shown image agree p n is =
    let r = member_named image p n is in
    let f = find-some (λ (x : Readable). stamp_on x == n.stamp) (physical_pages image) r.0 r.1 (eq-eqb (stamp_on r.0) n.stamp (ap stamp_of r.3.rec)) in
    let q = f.0 in
    let at = member-find (λ (x : Readable). stamp_on x == n.stamp) (physical_pages image) q f.1 in
    let m = named_member image q at.0 in
    let stamp : n.stamp ≡ m.0.stamp = sym (eqb-true (stamp_on q) n.stamp at.1) ∙ ap stamp_of m.2.rec in
    let same : n ≡ m.0 = agree p q.page n m.0 is m.1 stamp in
    ap (option_and_then of_file) f.1 ∙ on_page q m.0 m.2 ∙ ap (λ (x : NamedPage). Some (what_it_holds x)) (sym same)

-- a number that has a page is on a readable page of the physical segment
pub on_readable : (image : Image) (stamp : ℕ) (page : PageOfStamp) → page_on image stamp ≡ Some page → (q : Readable) × Has (physical_pages image) q × (stamp_on q ≡ stamp)
unfolding page_on found
on_readable image stamp page is = by (find (λ (x : Readable). stamp_on x == stamp) (physical_pages image)) refl is
  where
    by : (o : Option Readable) → find (λ (x : Readable). stamp_on x == stamp) (physical_pages image) ≡ o → option_and_then of_file o ≡ Some page → (q : Readable) × Has (physical_pages image) q × (stamp_on q ≡ stamp)
    by None e none = absurd (none_some page none)
    by (Some q) e some = let at = member-find (λ (x : Readable). stamp_on x == stamp) (physical_pages image) q e in (q, at.0, eqb-true (stamp_on q) stamp at.1)
