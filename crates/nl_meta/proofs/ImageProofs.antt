-- What an image has by stamp, and that its metadata is right with these pages.
use Rattle.std.proofs.Common.{◌≡◌, ℕ, ◌≤◌, ◌-◌, ◌*◌, ◌+◌, Bool, true, false, ◌&&◌, cond, List, [], ◌∷◌, find, refl, sym, ap, subst, ◌∙◌, Option, Some, None, option_map, option_and_then, zero, suc, arith, ◌==◌, length, IsTrue, slice_index}
use Rattle.std.proofs.lemmas.Bool.{and_parts, and_from, eqb-true, eq-eqb}
use Rattle.std.proofs.lemmas.Slice.Eq.{bytes_eq-Decides}
use Rattle.std.specs.List.{enumerate_from}
use Rattle.std.specs.Prelude.{bytes_eq, drop, if◌then◌else◌}
use Rattle.nl_field.specs.Bytes.{all_zero}
use Rattle.nl_field.specs.Medium.{Readable, stamp_on, is_physical_rec, physical_pages, readable, readable_pages, shape_of_image, found}
use Rattle.nl_field.specs.Members.{Has}
use Rattle.nl_field.specs.Numbers.{is_legal, shape_for}
use Rattle.nl_field.specs.Page.{Image, Page, erased, uncorrectable, written, is_image, is_page}
use Rattle.nl_field.specs.Scan.{without_wear, zeros_from}
use Rattle.nl_field.specs.ScanList.{seen_of, seen_in, physical_seen}
use Rattle.nl_field.specs.Spelling.{u32_at, u64_at, u32_bytes, u64_bytes}
use Rattle.nl_field.specs.SpareRecord.{is_spare, spare_bytes, spare_fields, spare_rec_of, stamp_of}
use Rattle.nl_field.specs.declared.pointer.Tag.{Tag}
use Rattle.nl_field.specs.declared.seen.Seen.{Seen}
use Rattle.nl_field.specs.declared.spare.SpareRec.{SpareRec}
use Rattle.nl_field.specs.declared.spare.SpareRec.TheVariants.{Virtual, Physical}
use Rattle.nl_field.proofs.ScanLists.{physical_is}
use Rattle.nl_meta.specs.Consistent.{IsListed, PointerIsThere, PageOfStamp, SamePage, StampsRight, of_file, page_on, tag_on}
use Rattle.nl_meta.specs.Nodes.{Held}
use Rattle.nl_meta.specs.RightLaws.{ImageIsRight}
use Rattle.nl_meta.proofs.Lists.{some_in, none_some, true_false, all-each, find-some, member-find, member-filter, member-some, member-enumerate, member-map}
use Rattle.nl_meta.proofs.StampProofs.{same_physical, physical_readable}

-- ---- where zeros begin

all_from_zero : (bytes : List ℕ) → zeros_from bytes ≡ 0 → all_zero bytes ≡ true
unfolding zeros_from
all_from_zero [] e = refl
all_from_zero (b ∷ bytes) e = by (all_from_zero bytes) (zeros_from bytes == 0) (b == 0) refl refl e
  where
    by : (zeros_from bytes ≡ 0 → all_zero bytes ≡ true) → (p q : Bool) → (zeros_from bytes == 0) ≡ p → (b == 0) ≡ q → cond (p && q) 0 (zeros_from bytes + 1) ≡ 0 → ((b == 0) && all_zero bytes) ≡ true
    by rest true true h k e = and_from _ _ k (rest (eqb-true _ _ h))
    by rest true false h k e = absurd (some (zeros_from bytes) e)
      where
        some : (n : ℕ) → n + 1 ≡ 0 → ⊥
        some n e = omega arith
    by rest false q h k e = absurd (some (zeros_from bytes) e)
      where
        some : (n : ℕ) → n + 1 ≡ 0 → ⊥
        some n e = omega arith

-- from where its zeros begin a page is zero
pub zero_from : (bytes : List ℕ) (n : ℕ) → zeros_from bytes ≤ n → all_zero (drop n bytes) ≡ true
unfolding zeros_from
zero_from [] zero h = refl
zero_from [] (suc n) h = refl
zero_from (b ∷ bytes) zero h = all_from_zero (b ∷ bytes) (none (zeros_from (b ∷ bytes)) h)
  where
    none : (m : ℕ) → m ≤ 0 → m ≡ 0
    none m h = omega arith
zero_from (b ∷ bytes) (suc n) h = zero_from bytes n (by ((zeros_from bytes == 0) && (b == 0)) refl h)
  where
    by : (p : Bool) → ((zeros_from bytes == 0) && (b == 0)) ≡ p → cond p 0 (zeros_from bytes + 1) ≤ suc n → zeros_from bytes ≤ n
    by true e h = let z = eqb-true (zeros_from bytes) 0 (and_parts _ _ e).0 in omega (arith, z)
    by false e h = omega (arith, h)

zero_all : (bytes : List ℕ) → all_zero bytes ≡ true → zeros_from bytes ≡ 0
unfolding zeros_from
zero_all [] e = refl
zero_all (b ∷ bytes) e =
    let p = and_parts (b == 0) (all_zero bytes) e in
    ap (λ (t : Bool). cond t 0 (zeros_from bytes + 1)) (and_from _ _ (eq-eqb (zeros_from bytes) 0 (zero_all bytes p.1)) p.0)

-- where a page is zero its zeros have begun
pub from_zero : (bytes : List ℕ) (n : ℕ) → all_zero (drop n bytes) ≡ true → zeros_from bytes ≤ n
unfolding zeros_from
from_zero [] n e = omega arith
from_zero (b ∷ bytes) zero e = let z = zero_all (b ∷ bytes) e in omega (arith, z)
from_zero (b ∷ bytes) (suc n) e = by ((zeros_from bytes == 0) && (b == 0)) (from_zero bytes n e)
  where
    by : (p : Bool) → zeros_from bytes ≤ n → cond p 0 (zeros_from bytes + 1) ≤ suc n
    by true h = omega arith
    by false h = omega (arith, h)

-- ---- the owner on a page

abbrev tag_in : List ℕ → Tag
tag_in bytes = record { ino = u32_at bytes 16; generation = u32_at bytes 20; index = u32_at bytes 24 }

-- the owner does not hang on wear
tag_free : (tag : Tag) (stamp wear : ℕ) → tag_in (spare_bytes (Physical tag stamp wear)) ≡ tag_in (spare_bytes (Physical tag stamp 0))
unfolding u32_at spare_bytes u32_bytes u64_bytes
tag_free tag stamp wear = refl

same_tag : (t u : Tag) (s z w v : ℕ) → Physical t s w ≡ Physical u z v → t ≡ u
same_tag t u s z w v e = cc

no_virtual : (a s w : ℕ) (u : Tag) (z v : ℕ) → Virtual a s w ≡ Physical u z v → ⊥
no_virtual a s w u z v e = cc

-- the owner stands in the bytes that are read
tag_read : (bytes : List ℕ) (tag : Tag) (stamp wear : ℕ) → spare_rec_of bytes ≡ Some (Physical tag stamp wear) → tag ≡ tag_in (spare_bytes (Physical tag stamp 0))
unfolding spare_rec_of spare_fields
tag_read bytes tag stamp wear e = by (is_spare (spare_fields bytes) && bytes_eq (spare_bytes (spare_fields bytes)) bytes) refl e
  where
    fields : (b : Bool) → (if b then Virtual (u32_at bytes 16) (u64_at bytes 8) (u32_at bytes 4) else Physical (tag_in bytes) (u64_at bytes 8) (u32_at bytes 4)) ≡ Physical tag stamp wear → tag ≡ tag_in bytes
    fields true e = absurd (no_virtual _ _ _ _ _ _ e)
    fields false e = sym (same_tag _ _ _ _ _ _ e)

    of_fields : spare_fields bytes ≡ Physical tag stamp wear → tag ≡ tag_in bytes
    of_fields e = fields (slice_index bytes 0 == 1) e

    by : (b : Bool) → (is_spare (spare_fields bytes) && bytes_eq (spare_bytes (spare_fields bytes)) bytes) ≡ b → (if b then Some (spare_fields bytes) else None) ≡ Some (Physical tag stamp wear) → tag ≡ tag_in (spare_bytes (Physical tag stamp 0))
    by false t e = absurd (none_some _ e)
    by true t e =
        let rec = some_in (spare_fields bytes) (Physical tag stamp wear) e in
        let back = (bytes_eq-Decides (spare_bytes (spare_fields bytes)) bytes).0 (and_parts _ _ t).1 in
        of_fields rec ∙ ap tag_in (sym back ∙ ap spare_bytes rec) ∙ tag_free tag stamp wear

-- ---- an image

module _ (image : Image) where
  -- the record of a readable page is read from its spare bytes
  read : (r : Readable) → Has (readable_pages image) r → (bytes : List ℕ) × (spare_rec_of bytes ≡ Some r.rec)
  unfolding readable_pages
  read r m = let q = member-some readable (enumerate_from 0 image.contents) r m in of q.0.0 q.0.1 q.2
    where
      at : (p : ℕ) (main spare : List ℕ) (o : Option SpareRec) → spare_rec_of spare ≡ o → option_map (λ rec. record { page = p; rec = rec; main = main }) o ≡ Some r → (bytes : List ℕ) × (spare_rec_of bytes ≡ Some r.rec)
      at p main spare None s e = absurd (none_some r e)
      at p main spare (Some rec) s e = (spare, s ∙ ap (λ (z : Readable). Some z.rec) (some_in (record { page = p; rec = rec; main = main }) r e))

      of : (p : ℕ) (page : Page) → readable (p, page) ≡ Some r → (bytes : List ℕ) × (spare_rec_of bytes ≡ Some r.rec)
      of p erased e = absurd (none_some r e)
      of p uncorrectable e = absurd (none_some r e)
      of p (written bytes) e = at p bytes.main bytes.spare (spare_rec_of bytes.spare) refl e

  pub main_length : IsTrue (is_image image) → (r : Readable) → Has (physical_pages image) r → length r.main ≡ 4096
  unfolding physical_pages readable_pages is_image
  main_length ok r m = by (member-some readable (enumerate_from 0 image.contents) r (member-filter _ _ r m).0)
    where
      of : (p : ℕ) (page : Page) → Has image.contents page → readable (p, page) ≡ Some r → length r.main ≡ 4096
      of p erased h e = absurd (none_some r e)
      of p uncorrectable h e = absurd (none_some r e)
      of p (written bytes) h e =
          let each = all-each is_page image.contents (and_parts _ _ ok).1 (written bytes) h in
          at (spare_rec_of bytes.spare) e (eqb-true _ _ (and_parts _ _ each).0)
        where
          at : (o : Option SpareRec) → option_map (λ rec. record { page = p; rec = rec; main = bytes.main }) o ≡ Some r → length bytes.main ≡ 4096 → length r.main ≡ 4096
          at None e l = absurd (none_some r e)
          at (Some rec) e l = ap (λ (r : Readable). length r.main) (sym (some_in _ r e)) ∙ l

      by : (x : ℕ × Page) × Has (enumerate_from 0 image.contents) x × (readable x ≡ Some r) → length r.main ≡ 4096
      by q = of q.0.0 q.0.1 (member-enumerate 0 image.contents q.0 q.1) q.2

  record Owner (rec : SpareRec) : Type 0 where
    tag : Tag
    stamp : ℕ
    wear : ℕ
    is : rec ≡ Physical tag stamp wear

  owner : (rec : SpareRec) → is_physical_rec rec ≡ true → Owner rec
  owner (Virtual v s w) e = absurd (true_false (sym e))
  owner (Physical t s w) e = record { tag = t; stamp = s; wear = w; is = refl }

  owned : (r : Readable) → Has (physical_pages image) r → Owner r.rec
  unfolding physical_pages
  owned r m = owner r.rec (and_parts _ _ (member-filter _ (readable_pages image) r m).1).1

  tag_bytes : (r : Readable) → Has (physical_pages image) r → (tag : Tag) (stamp wear : ℕ) → r.rec ≡ Physical tag stamp wear → tag ≡ tag_in (spare_bytes (without_wear r.rec))
  tag_bytes r m tag stamp wear e = let q = read r (physical_readable image r m) in tag_read q.0 tag stamp wear (q.1 ∙ ap (λ (x : SpareRec). Some x) e) ∙ ap (λ (x : SpareRec). tag_in (spare_bytes (without_wear x))) (sym e)

  -- a page of a stamp has what is found under the stamp, where pages of one stamp are the same
  pub on_page : StampsRight (physical_pages image) → (r : Readable) → Has (physical_pages image) r → (stamp : ℕ) → stamp_on r ≡ stamp
      → (x : PageOfStamp) × (page_on image stamp ≡ Some x) × (x.bytes ≡ r.main)
  unfolding page_on found
  on_page stamps r m stamp e = (
    record { tag = o.tag; bytes = f.0.main },
    ap (option_and_then of_file) f.1 ∙ ap (λ (x : SpareRec). option_map (λ tag. record { tag = tag; bytes = f.0.main }) (tag_on x)) o.is,
    (stamps f.0 r n.0 m (eqb-true _ _ n.1 ∙ sym e)).main,
  )
    where
      f : (r : Readable) × (find (λ r. stamp_on r == stamp) (physical_pages image) ≡ Some r)
      f = find-some (λ r. stamp_on r == stamp) (physical_pages image) r m (eq-eqb _ _ e)

      n : Has (physical_pages image) f.0 × ((stamp_on f.0 == stamp) ≡ true)
      n = member-find (λ r. stamp_on r == stamp) (physical_pages image) f.0 f.1

      o : Owner f.0.rec
      o = owned f.0 n.0

  -- the page of a stamp is that of a pointer, where pages of one stamp are the same
  pub page_there : IsTrue (is_image image) → StampsRight (physical_pages image) → (h : Held) → IsListed (physical_seen (shape_of_image image) (seen_in image)) h → PointerIsThere (page_on image) h
  unfolding page_on found
  page_there ok stamps h l = record {
    bytes = f.0.main;
    holds = ap (option_and_then of_file) f.1 ∙ ap (λ (x : SpareRec). option_map (λ tag. record { tag = tag; bytes = f.0.main }) (tag_on x)) o.is ∙ ap (λ (t : Tag). Some (record { tag = t; bytes = f.0.main })) tags;
    whole = main_length ok f.0 n.0;
    behind = ap (λ (bs : List ℕ). all_zero (drop (h.size - 4096 * h.tag.index) bs)) same.main ∙ zero_from q.0.main (h.size - 4096 * h.tag.index) short;
  }
    where
      q : (r : Readable) × Has (physical_pages image) r × (seen_of image r ≡ l.page)
      q = member-map (seen_of image) (physical_pages image) l.page (subst (λ (ss : List Seen). Has ss l.page) (physical_is image) l.listed)

      rec_here : q.0.rec ≡ Physical h.tag h.pointer.stamp l.is_page.wear
      rec_here = ap (λ (s : Seen). s.rec) q.2 ∙ l.is_page.record_on

      stamp_here : stamp_on q.0 ≡ h.pointer.stamp
      stamp_here = ap stamp_of rec_here

      f : (r : Readable) × (find (λ r. stamp_on r == h.pointer.stamp) (physical_pages image) ≡ Some r)
      f = find-some (λ r. stamp_on r == h.pointer.stamp) (physical_pages image) q.0 q.1 (eq-eqb _ _ stamp_here)

      n : Has (physical_pages image) f.0 × ((stamp_on f.0 == h.pointer.stamp) ≡ true)
      n = member-find (λ r. stamp_on r == h.pointer.stamp) (physical_pages image) f.0 f.1

      same : SamePage f.0 q.0
      same = stamps f.0 q.0 n.0 q.1 (eqb-true _ _ n.1 ∙ sym stamp_here)

      o : Owner f.0.rec
      o = owned f.0 n.0

      tags : o.tag ≡ h.tag
      tags = tag_bytes f.0 n.0 o.tag o.stamp o.wear o.is ∙ ap tag_in same.rec ∙ sym (tag_bytes q.0 q.1 h.tag h.pointer.stamp l.is_page.wear rec_here)

      short : zeros_from q.0.main ≤ h.size - 4096 * h.tag.index
      short = subst (λ (s : Seen). s.zeros ≤ h.size - 4096 * h.tag.index) (sym q.2) (l.behind l.page l.listed l.is_page)

own_numbers : (image : Image) → IsTrue (is_legal (shape_of_image image).blocks (shape_of_image image).pages) → shape_of_image image ≡ shape_for (shape_of_image image).blocks (shape_of_image image).pages
unfolding shape_for
own_numbers image legal = refl

pub image_is_right : ImageIsRight
image_is_right image ok meta = record {
  legal = meta.numbers.legal;
  numbers = own_numbers image meta.numbers.legal;
  tree = record {
    nodes = meta.tree.nodes;
    addresses = meta.tree.addresses;
    entries = meta.tree.entries;
    pointers = record {
      below = meta.tree.pointers.below;
      there = λ h m. page_there image ok ((same_physical image).0 meta.physical_stamps) h (meta.tree.pointers.there h m);
      stamps_differ = meta.tree.pointers.stamps_differ;
      names_differ = meta.tree.pointers.names_differ;
    };
  };
}
