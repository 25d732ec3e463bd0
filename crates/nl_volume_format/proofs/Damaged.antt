-- An image of which the root alone is readable is damaged at its super page.
use Rattle.std.proofs.Common.{◌≡◌, ◌≢◌, ℕ, ◌==◌, ◌&&◌, Bool, false, not, cond, List, [], ◌∷◌, find, filter, Option, Some, None, option_and_then, option_map, refl, sym, ap, ◌∙◌, arith}
use Rattle.std.proofs.lemmas.Bool.{cond-false, ne_eqb}
use Rattle.nl_field.specs.Journal.{header_of}
use Rattle.nl_field.specs.Medium.{Readable, address_on, readable_pages, shape_of_image, virtual_pages}
use Rattle.nl_field.specs.Members.{Has}
use Rattle.nl_field.specs.Page.{Image}
use Rattle.nl_field.specs.Space.{has_greatest_stamp, is_outside, virtual_spare}
use Rattle.nl_field.specs.SuperPage.{super_of}
use Rattle.nl_field.specs.Virtual.{is_inode_address, newest, or_first_in, virtual_bytes}
use Rattle.nl_field.specs.declared.header.HeaderRec.{HeaderRec}
use Rattle.nl_field.specs.ScanList.{seen_in}
use Rattle.nl_field.specs.declared.place.Place.{Place}
use Rattle.nl_field.specs.declared.place.What.{What}
use Rattle.nl_field.specs.declared.place.What.TheVariants.{Super, Stamp, Inode, Pages as PagesPhase, Entry, Pointer as PointerPhase, Names, Charges, Crowded}
use Rattle.nl_field.specs.declared.seen.Seen.{Seen}
use Rattle.nl_field.specs.declared.shape.Shape.{Shape}
use Rattle.nl_field.specs.declared.super_page.SuperRec.{SuperRec}
use Rattle.nl_meta.specs.Committed.{commit_at, committed, committed_of, counting, counts, header_at, home_or_image, place_in, within_volume}
use Rattle.nl_meta.specs.Nodes.{super_of_pages}
use Rattle.nl_meta.specs.Walk.{fault_in, first_fault, is_super_of, walk, walk_over, zero_where}
use Rattle.nl_meta.proofs.Lists.{member-filter, true_false}
use Rattle.nl_volume_format.proofs.ReadableOnes.{no_member, the_root}

module _ (image : Image) (only : (r : Readable) → Has (readable_pages image) r → the_root ≡ r) where
  abbrev shape : Shape
  shape = shape_of_image image

  only_virtual : (r : Readable) → Has (virtual_pages image) r → the_root ≡ r
  unfolding virtual_pages
  only_virtual r m = only r (member-filter _ (readable_pages image) r m).0

  none_kept : (t : Readable → Bool) (xs : List Readable) → ((x : Readable) → Has xs x → t x ≡ false) → filter t xs ≡ []
  none_kept t xs off = no_member (filter t xs) (λ x m. let q = member-filter t xs x m in true_false (sym q.1 ∙ off x q.0))

  newest_not : (v : ℕ) → v ≢ 67 → newest image v ≡ None
  unfolding newest
  newest_not v far =
      ap (λ (xs : List Readable). or_first_in xs (find (λ r. is_outside image.pages (virtual_spare image) r.page) xs))
      (none_kept (λ r. address_on r == v && has_greatest_stamp (virtual_pages image) r) (virtual_pages image) (λ r m. by r (only_virtual r m)))
    where
      by : (r : Readable) → the_root ≡ r → (address_on r == v && has_greatest_stamp (virtual_pages image) r) ≡ false
      by r is = ap (λ t. t && has_greatest_stamp (virtual_pages image) r) (ne_eqb (address_on r) v (λ e. far (sym e ∙ sym (ap (λ (q : Readable). address_on q) is))))

  bytes_not : (v : ℕ) → v ≢ 67 → is_inode_address shape v ≡ false → virtual_bytes image v ≡ None
  unfolding virtual_bytes
  bytes_not v far e = cond-false (is_inode_address shape v) _ _ e ∙ ap (option_map (λ r. r.main)) (newest_not v far)

  no_transaction : counting shape (virtual_bytes image) ≡ None
  unfolding counting header_at
  no_transaction = ap (λ (o : Option (List ℕ)). option_and_then (λ header. option_and_then (λ commit. cond (counts (virtual_bytes image) header commit) (Some header) None) (commit_at (virtual_bytes image))) (option_and_then (within_volume shape) (option_and_then header_of o))) (bytes_not 1 (not_67 1 refl) refl)
    where
      not_67 : (a : ℕ) → a ≡ 1 → a ≡ 67 → ⊥
      not_67 a x e = omega arith

  none_at_0 : committed_of image 0 ≡ None
  unfolding committed
  none_at_0 = ap (λ (o : Option HeaderRec). home_or_image (virtual_bytes image) 0 (place_in o 0)) no_transaction ∙ bytes_not 0 (not_67 0 refl) refl
    where
      not_67 : (a : ℕ) → a ≡ 0 → a ≡ 67 → ⊥
      not_67 a x e = omega arith

  no_super : super_of_pages (committed_of image) ≡ None
  unfolding super_of_pages
  no_super = ap (option_and_then super_of) none_at_0

  super_fault : (seen : List Seen) → fault_in shape (committed_of image) seen Super ≡ Some 0
  unfolding fault_in
  super_fault seen = ap (λ (o : Option SuperRec). zero_where (not (is_super_of shape o))) no_super

  first_is : (fault : What → Option ℕ) (phases : List What) → fault Super ≡ Some 0 → first_fault fault (Super ∷ phases) ≡ Some (record { place = 0; what = Super })
  first_is fault phases is = ap (λ (o : Option ℕ). elim o as (λ _. Option Place) [ None ↦ first_fault fault phases | Some n ↦ Some (record { place = n; what = Super }) ]) is

  pub damaged_at_super : walk image ≡ Some (record { place = 0; what = Super })
  unfolding walk walk_over
  damaged_at_super = first_is (fault_in shape (committed_of image) (seen_in image)) (Stamp ∷ Inode ∷ PagesPhase ∷ Entry ∷ PointerPhase ∷ Names ∷ Charges ∷ Crowded ∷ []) (super_fault (seen_in image))
