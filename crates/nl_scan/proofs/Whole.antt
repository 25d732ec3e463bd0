-- What a pass knows once all pages were read is what the scan is to tell.
use Rattle.std.proofs.Common.{◌≡◌, ℕ, ◌+◌, ◌*◌, ◌<◌, ◌≤◌, Bool, true, false, ◌&&◌, if◌then◌else◌, List, length, Option, Some, None, IsTrue, refl, sym, ◌∙◌, ap, subst, arith, map, get_or, bytes_eq, max}
use Rattle.std.specs.Prelude.{fold, option_map}
use Rattle.std.specs.List.{AllByRecursion}
use Rattle.std.proofs.Math.Nat.{mul-le-mul_right}
use Rattle.std.proofs.lemmas.List.Folds.{fold-map}
use Rattle.nl_field.specs.Page.{Page, erased, written, uncorrectable, Image}
use Rattle.nl_field.specs.SpareRecord.{spare_rec_of, spare_bytes, spare_fields, is_spare, stamp_of}
use Rattle.nl_field.specs.declared.spare.SpareRec.{SpareRec}
use Rattle.nl_field.specs.Medium.{Readable, readable, readable_pages}
use Rattle.nl_field.specs.Scan.{next_stamp_of}
use Rattle.nl_nand.specs.Nand.{ErasedWithin}
use Rattle.nl_scan.specs.declared.pass.Pass.{Pass}
use Rattle.nl_field.specs.declared.seen.Seen.{Seen}
use Rattle.nl_scan.specs.declared.super_seen.SuperSeen.{SuperSeen}
use Rattle.nl_scan.specs.Supers.{no_super, super_after}
use Rattle.nl_scan.specs.Tables.{greatest_stamp, IsTableOf}
use Rattle.nl_field.specs.ScanList.{seen_of}
use Rattle.nl_field.proofs.ScanLists.{each as listed}
use Rattle.nl_scan.specs.Passes.{readable_below, KnowsPages, ErasedBelow, KnowsBlocks}
use Rattle.nl_scan.proofs.Lists.{weaken_all, same_some}
use Rattle.nl_scan.proofs.Readables.{IsOneOf, below_all, below_on}
use Rattle.nl_scan.proofs.Supers.{version_found}

-- a value that was taken by a test passes it
taken_where : {R : Type 0} (h : R → Bool) (t b : Bool) (v r : R) → h v ≡ b → (if b && t then Some v else None) ≡ Some r → h r ≡ true
taken_where h true true v r is e = ap h (sym (same_some v r e)) ∙ is
taken_where h false true v r is e = cc
taken_where h t false v r is e = cc

-- the record of a readable page is spelled
spelled_rec : (bytes : List ℕ) (rec : SpareRec) → spare_rec_of bytes ≡ Some rec → IsTrue (is_spare rec)
unfolding spare_rec_of
spelled_rec bytes rec e = taken_where is_spare (bytes_eq (spare_bytes (spare_fields bytes)) bytes) (is_spare (spare_fields bytes)) (spare_fields bytes) rec refl e

spelled_page : (p : ℕ) (x : Page) (q : Readable) → readable (p, x) ≡ Some q → IsTrue (is_spare q.rec)
spelled_page p erased q e = cc
spelled_page p uncorrectable q e = cc
spelled_page p (written bytes) q e = kept (spare_rec_of bytes.spare) refl e
  where
    kept : (rec : Option SpareRec) → spare_rec_of bytes.spare ≡ rec → option_map (λ found. record { page = p; rec = found; main = bytes.main }) rec ≡ Some q → IsTrue (is_spare q.rec)
    kept None is e = cc
    kept (Some rec) is e = ap (λ (r : Readable). is_spare r.rec) (sym (same_some (record { page = p; rec = rec; main = bytes.main }) q e)) ∙ spelled_rec bytes.spare rec is

pub pages_spelled : (image : Image) → AllByRecursion (λ r. IsTrue (is_spare r.rec)) (readable_pages image)
pages_spelled image =
    subst (AllByRecursion (λ r. IsTrue (is_spare r.rec))) (below_all image (length image.contents) (omega arith))
    (weaken_all (IsOneOf image.contents (length image.contents)) (λ r. IsTrue (is_spare r.rec)) (λ q one. spelled_page q.page (get_or image.contents q.page erased) q one.there) (readable_below image (length image.contents))
    (below_on image (length image.contents) (omega arith)))

pub greatest_is : (image : Image) → 1 + greatest_stamp (map (seen_of image) (readable_pages image)) ≡ next_stamp_of image
unfolding greatest_stamp next_stamp_of
greatest_is image = ap (λ n. 1 + n) (fold-map (λ best s. max best (stamp_of s.rec)) (seen_of image) 0 (readable_pages image))

whole_block : (image : Image) (at block : ℕ) → image.blocks * image.pages ≤ at → block < image.blocks → ErasedBelow image at block → ErasedWithin image (block * image.pages) (block * image.pages + image.pages)
whole_block image at block all below so_far p low high = so_far p low high (within block image.blocks image.pages p at below high all)
  where
    within : (block blocks pages p at : ℕ) → block < blocks → p < block * pages + pages → blocks * pages ≤ at → p < at
    within block blocks pages p at below high all =
        let room : (block + 1) * pages ≤ blocks * pages = mul-le-mul_right pages (omega arith) in
        let split : (block + 1) * pages ≡ block * pages + pages = grind arith in
        omega arith

pub is_table : (image : Image) (at : ℕ) (pass : Pass) → length image.contents ≤ at → image.blocks * image.pages ≤ at → KnowsPages image at pass → KnowsBlocks image at pass.erased.items
    → IsTableOf image (record { seen = pass.seen.items; erased = pass.erased.items; version = pass.newest.version })
is_table image at pass all all' knows blocks =
    let pages = below_all image at all in
    let each = knows.each_page ∙ ap (map (seen_of image)) pages in
    record {
      each_page = each ∙ sym (listed image);
      next = ap (λ (l : List Seen). 1 + greatest_stamp l) each ∙ greatest_is image;
      each_block = λ block below. ((λ is. whole_block image at block all' below ((blocks.each_block block below).0 is)), (λ within. (blocks.each_block block below).1 (λ p low high end. within p low high)));
      super_page = ap (λ (n : SuperSeen). n.version) (knows.newest ∙ ap (fold super_after no_super) pages) ∙ version_found image (pages_spelled image);
    }
