-- What a consistent image stores.
use Rattle.std.proofs.Common.{◌≡◌, ℕ, ◌==◌, Bool, true, false, not, cond, ◌&&◌, ◌||◌, List, refl, sym, ap, subst, ◌∙◌, Option, Some, None, IsSome, ◌⊎◌, inl, inr, bytes_eq, slice_index}
use Rattle.std.proofs.lemmas.Bool.{and_from, and_parts, cases_eq, or_left, or_right, ne_eqb}
use Rattle.std.proofs.lemmas.Slice.Eq.{bytes_eq-Decides}
use Rattle.std.specs.List.{list_all}
use Rattle.nl_field.specs.Medium.{Readable, physical_pages, stamp_on, virtual_pages}
use Rattle.nl_field.specs.Members.{Has}
use Rattle.nl_field.specs.Page.{Image}
use Rattle.nl_field.specs.Scan.{agree, without_wear}
use Rattle.nl_field.specs.Space.{virtual_spare}
use Rattle.nl_field.specs.SpareRecord.{is_spare, spare_bytes, spare_fields, spare_rec_of, stamp_of}
use Rattle.nl_field.specs.Spelling.{u32_at, u32_bytes, u64_at, u64_bytes}
use Rattle.nl_field.specs.declared.pointer.Tag.{Tag}
use Rattle.nl_field.specs.declared.spare.SpareRec.{SpareRec}
use Rattle.nl_field.specs.declared.spare.SpareRec.TheVariants.{Virtual, Physical}
use Rattle.nl_field.proofs.ScanLists.{virtual_spare_is}
use Rattle.nl_iface.specs.Stored.{NamedAgree, NamedPage, Stored, is_firm, stored_in}
use Rattle.nl_iface.specs.declared.counts.Counts.{Ghosts}
use Rattle.nl_meta.specs.Consistent.{SamePage, StampsRight}
use Rattle.nl_meta.proofs.Lists.{each-all, none_some, some_in, true_false}
use Rattle.nl_meta.proofs.StampProofs.{lists_agree}
use Rattle.nl_spec_image.proofs.NamedPages.{IsNamed, member_named}
use Rattle.nl_spec_image.proofs.ReadableProofs.{pages_are_readable}
use Rattle.nl_spec_commits.specs.OpeningLaws.{ConsistentIsFirm, OpenedIsFirm}

-- ---- the tag of a page's record is read back from its bytes

abbrev tag_at : List ℕ → Tag
tag_at bytes = record { ino = u32_at bytes 16; generation = u32_at bytes 20; index = u32_at bytes 24 }

-- wherever the wear is
tag_apart : (tag : Tag) (stamp wear : ℕ) → tag_at (spare_bytes (Physical tag stamp wear)) ≡ tag_at (spare_bytes (Physical tag stamp 0))
unfolding spare_bytes u32_bytes u64_bytes u32_at u64_at
tag_apart tag stamp wear = refl

abbrev tag_in : Tag → SpareRec → Tag
tag_in tag (Virtual vaddr stamp wear) = tag
tag_in tag (Physical own stamp wear) = own

abbrev is_virtual : SpareRec → Bool
is_virtual (Virtual vaddr stamp wear) = true
is_virtual (Physical tag stamp wear) = false

-- the fields of bytes that are those of a page of a file
fields_tag : (bytes : List ℕ) (tag : Tag) (stamp wear : ℕ) → spare_fields bytes ≡ Physical tag stamp wear → tag_at bytes ≡ tag
unfolding spare_fields
fields_tag bytes tag stamp wear e = by (slice_index bytes 0 == 1) e
  where
    by : (b : Bool) → cond b (Virtual (u32_at bytes 16) (u64_at bytes 8) (u32_at bytes 4)) (Physical (tag_at bytes) (u64_at bytes 8) (u32_at bytes 4)) ≡ Physical tag stamp wear → tag_at bytes ≡ tag
    by true is = absurd (true_false (ap is_virtual is))
    by false is = ap (tag_in tag) is

-- bytes that spell a record are its own
spelled_own : (bytes : List ℕ) (rec : SpareRec) → spare_rec_of bytes ≡ Some rec → (spare_fields bytes ≡ rec) × (spare_bytes rec ≡ bytes)
unfolding spare_rec_of
spelled_own bytes rec e = by (is_spare (spare_fields bytes) && bytes_eq (spare_bytes (spare_fields bytes)) bytes) refl e
  where
    by : (b : Bool) → (is_spare (spare_fields bytes) && bytes_eq (spare_bytes (spare_fields bytes)) bytes) ≡ b → cond b (Some (spare_fields bytes)) None ≡ Some rec → (spare_fields bytes ≡ rec) × (spare_bytes rec ≡ bytes)
    by true same is =
        let own = some_in (spare_fields bytes) rec is in
        (own, ap spare_bytes (sym own) ∙ (bytes_eq-Decides (spare_bytes (spare_fields bytes)) bytes).0 (and_parts _ _ same).1)
    by false same is = absurd (none_some rec is)

spelled_tag : (bytes : List ℕ) (tag : Tag) (stamp wear : ℕ) → spare_rec_of bytes ≡ Some (Physical tag stamp wear) → tag ≡ tag_at (spare_bytes (Physical tag stamp 0))
spelled_tag bytes tag stamp wear e =
    let own = spelled_own bytes (Physical tag stamp wear) e in
    sym (fields_tag bytes tag stamp wear own.0) ∙ ap tag_at (sym own.1) ∙ tag_apart tag stamp wear

-- ---- pages under names

-- the tag of a readable page, from its record without its wear
read_tag : (image : Image) (r : Readable) (n : NamedPage) → Has (physical_pages image) r → IsNamed r n → n.tag ≡ tag_at (spare_bytes (without_wear r.rec))
read_tag image r n has is =
    let at = ((pages_are_readable.physical image r).0 has).0 in
    spelled_tag at.bytes.spare n.tag n.stamp is.wear (at.spelled ∙ ap (λ (x : SpareRec). Some x) is.rec) ∙ ap (λ (x : SpareRec). tag_at (spare_bytes (without_wear x))) (sym is.rec)

stamps_agree : (image : Image) → StampsRight (physical_pages image) → NamedAgree (stored_in image)
stamps_agree image right p q a b is_a is_b same =
    let x = member_named image p a is_a in
    let y = member_named image q b is_b in
    let page = right x.0 y.0 x.1 y.1 (ap stamp_of x.3.rec ∙ same ∙ sym (ap stamp_of y.3.rec)) in
    let tags : a.tag ≡ b.tag = read_tag image x.0 a x.1 x.3 ∙ ap tag_at page.rec ∙ sym (read_tag image y.0 b y.1 y.3) in
    let bytes : a.bytes ≡ b.bytes = sym x.3.main ∙ page.main ∙ y.3.main in
    λ i. record { tag = tags i; stamp = same i; bytes = bytes i }

-- ---- the virtual segment

same_agree : (r q : Readable) → SamePage r q → agree r q ≡ true
same_agree r q same = and_from _ _ ((bytes_eq-Decides r.main q.main).1 same.main) ((bytes_eq-Decides (spare_bytes (without_wear r.rec)) (spare_bytes (without_wear q.rec))).1 same.rec)

stamps_firm : (image : Image) → StampsRight (virtual_pages image) → IsSome (virtual_spare image) → is_firm image ≡ true
unfolding is_firm
stamps_firm image right spare =
    and_from _ _
    (each-all (λ (r : Readable). list_all (λ (q : Readable). not (stamp_on r == stamp_on q) || agree r q) (virtual_pages image)) (virtual_pages image)
    (λ r m. each-all (λ (q : Readable). not (stamp_on r == stamp_on q) || agree r q) (virtual_pages image) (λ q n. one r q m n))) spare
  where
    one : (r q : Readable) → Has (virtual_pages image) r → Has (virtual_pages image) q → (not (stamp_on r == stamp_on q) || agree r q) ≡ true
    one r q m n = by (cases_eq (stamp_on r) (stamp_on q))
      where
        by : (stamp_on r ≡ stamp_on q) ⊎ (stamp_on r ≡ stamp_on q → ⊥) → (not (stamp_on r == stamp_on q) || agree r q) ≡ true
        by (inl same) = or_right _ _ (same_agree r q (right r q m n same))
        by (inr far) = or_left _ _ (ap not (ne_eqb (stamp_on r) (stamp_on q) far))

-- ---- an image, and a device over it

firm_is : (image : Image) → is_firm image ≡ true → (stored_in image).firm ≡ true
unfolding stored_in
firm_is image e = e

pub consistent_is_firm : ConsistentIsFirm
consistent_is_firm image c = record {
  firm = firm_is image (stamps_firm image ((lists_agree image).virtual.0 c.metadata.virtual_stamps) (subst (λ (o : Option ℕ). IsSome o) (virtual_spare_is image) c.room.virtual_room));
  agree = stamps_agree image ((lists_agree image).physical.0 c.metadata.physical_stamps);
}

pub opened_is_firm : {D : Type 0} (g : Ghosts D) → OpenedIsFirm g
opened_is_firm g s image is c none stores =
    let f = consistent_is_firm image c in
    record { firm = ap (λ (x : Stored). x.firm) is ∙ f.firm; none_failed = none; pages = stores; agree = subst NamedAgree (sym is) f.agree }
