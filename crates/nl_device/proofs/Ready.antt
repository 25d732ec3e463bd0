-- What a started device shows of its medium.
use Rattle.std.proofs.Common.{rules, ◌≡◌, inl, inr, ℕ, zero, suc, ◌+◌, ◌*◌, ◌/◌, ◌<◌, ◌==◌, not, ◌&&◌, ◌||◌, cond, Bool, true, false, List, [], ◌∷◌, find, Option, Some, None, is_some, IsSome, option_map, refl, sym, ◌∙◌, ap, subst, arith, ◌≤◌}
use Rattle.std.specs.List.{list_all, list_any, range_with_len}
use Rattle.std.proofs.lemmas.Bool.{cases_lt}
use Rattle.std.proofs.lemmas.List.Elements.{All-nil}
use Rattle.std.proofs.lemmas.Option.{none-some, same_Some}
use Rattle.nl_field.specs.Page.{Image, Page, erased, uncorrectable, written, page_at}
use Rattle.nl_field.specs.Medium.{first_physical, shape_of_image}
use Rattle.nl_field.specs.Numbers.{shape_for}
use Rattle.nl_field.specs.SpareRecord.{spare_rec_of}
use Rattle.nl_field.specs.declared.shape.Shape.{Shape}
use Rattle.nl_field.specs.declared.spare.SpareRec.{SpareRec}
use Rattle.nl_field.specs.declared.spare.SpareRec.TheVariants.{Virtual, Physical}
use Rattle.nl_iface.specs.Names.{LivePage}
use Rattle.nl_iface.specs.Stored.{NamedPage, stored_in}
use Rattle.nl_pseg.specs.Pages.{main_of, shown_by, shown_with}
use Rattle.nl_scan.specs.Tables.{IsTableOf, ScanTable, greatest_stamp}
use Rattle.nl_device.specs.Device.{IsFoundStored}
use Rattle.nl_device.specs.Kept.{KeptPages, kept_pages, spare_among}
use Rattle.nl_device.specs.Retain.{CanRetain, spare_for}
use Rattle.nl_device.specs.Shown.{bytes_at, found_in, found_on}
use Rattle.nl_device.specs.declared.kept.page.KeptPage.{KeptPage}
use Rattle.nl_device.proofs.Alone.{found_passes}
use Rattle.nl_device.proofs.Forms.{named_below, named_from}
use Rattle.nl_device.proofs.Retained.{has_found}
use Rattle.nl_device.proofs.Found.{IsOf, is_of}
use Rattle.nl_device.proofs.FoundStored.{found_named, stored_found, without_bytes}
use Rattle.nl_device.proofs.Made.{bytes_from}
use Rattle.nl_device.proofs.PhysicalPages.{named_of}

named_with : (main : List ℕ) (o : Option SpareRec) (n : NamedPage) → named_of (shown_with o main) ≡ Some n → n.bytes ≡ main
named_with main None n is = absurd (none-some n is)
named_with main (Some (Virtual v s w)) n is = absurd (none-some n is)
named_with main (Some (Physical t s w)) n is = sym (ap (λ (x : NamedPage). x.bytes) (same_Some (record { tag = t; stamp = s; bytes = main }) n is))

named_bytes : (page : Page) (n : NamedPage) → named_of (shown_by page) ≡ Some n → n.bytes ≡ main_of page
named_bytes erased n is = absurd (none-some n is)
named_bytes uncorrectable n is = absurd (none-some n is)
named_bytes (written bytes) n is = named_with bytes.main (spare_rec_of bytes.spare) n is

-- what is stored has the bytes of its page
stored_bytes : (shape : Shape) (image : Image) → shape_of_image image ≡ shape → (p : ℕ) (n : NamedPage) → (stored_in image).named p ≡ Some n → n.bytes ≡ bytes_at (shape.vblocks * shape.pages) image p
stored_bytes shape image is p n stored = elim (cases_lt p (shape.vblocks * shape.pages)) [
  | inl lt ↦ absurd (none-some n (sym (named_below shape image is p lt) ∙ stored))
  | inr le ↦ named_bytes (page_at image p) n (sym (named_from shape image is p le) ∙ stored) ∙ sym (bytes_from (shape.vblocks * shape.pages) image p le)
]

image_pages : (image : Image) → (shape_of_image image).pages ≡ image.pages
unfolding shape_for
image_pages image = refl

kept_of : (shape : Shape) (image : Image) (t : ScanTable) (kept : KeptPages) → shape_of_image image ≡ shape → IsTableOf image t
    → kept ≡ record { first = shape.vblocks; count = shape.pblocks; size = shape.pages; pages = kept_pages (first_physical shape) t.seen } → IsOf image kept
kept_of shape image t kept e is same = record {
  first = ap (λ (k : KeptPages). k.first) same ∙ ap (λ (s : Shape). s.vblocks) (sym e);
  count = ap (λ (k : KeptPages). k.count) same ∙ ap (λ (s : Shape). s.pblocks) (sym e);
  size = ap (λ (k : KeptPages). k.size) same ∙ (ap (λ (s : Shape). s.pages) (sym e) ∙ image_pages image);
  pages = ap (λ (k : KeptPages). k.pages) same ∙ (ap (λ (s : Shape). kept_pages (first_physical s) t.seen) (sym e) ∙ is_of image t is);
}

page_found : (kept : KeptPages) (p : ℕ) (page : LivePage) → found_in kept p ≡ Some page → (k : KeptPage) × (find (λ k. k.page == p) kept.pages ≡ Some k) × (k.stamp ≡ page.stamp)
unfolding found_in
page_found kept p page is = by (find (λ k. k.page == p) kept.pages) refl is
  where
    by : (o : Option KeptPage) → find (λ k. k.page == p) kept.pages ≡ o → option_map found_on o ≡ Some page → (k : KeptPage) × (find (λ k. k.page == p) kept.pages ≡ Some k) × (k.stamp ≡ page.stamp)
    by None none e = absurd (none-some page e)
    by (Some k) some e = (k, some, ap (λ (x : LivePage). x.stamp) (same_Some (found_on k) page e))

-- no page under a name has the next stamp or a later one
pub named_after : (shape : Shape) (image : Image) (t : ScanTable) (kept : KeptPages) → shape_of_image image ≡ shape → IsTableOf image t
    → kept ≡ record { first = shape.vblocks; count = shape.pblocks; size = shape.pages; pages = kept_pages (first_physical shape) t.seen }
    → (p : ℕ) (n : NamedPage) → (stored_in image).named p ≡ Some n → n.stamp + 1 ≤ 1 + greatest_stamp t.seen
named_after shape image t kept e is same p n stored =
    let k = page_found kept p (record { tag = n.tag; stamp = n.stamp }) (found_named image kept p (kept_of shape image t kept e is same) ∙ ap without_bytes stored) in
    let one = found_passes (λ (q : KeptPage). q.page == p) kept.pages k.0 k.1 in
    let lt : k.0.stamp < 1 + greatest_stamp t.seen = subst (λ (q : KeptPage). q.stamp < 1 + greatest_stamp t.seen) (one.is k.0) ((has_found shape kept t.seen same).below one.at k.0 one.within) in
    let stamp = k.2 in
    omega (arith, lt, stamp)

-- what was kept of a scan of the medium is stored there
pub found_holds : (shape : Shape) (image : Image) (t : ScanTable) (kept : KeptPages) → shape_of_image image ≡ shape → IsTableOf image t
    → kept ≡ record { first = shape.vblocks; count = shape.pblocks; size = shape.pages; pages = kept_pages (first_physical shape) t.seen }
    → IsFoundStored kept (bytes_at (shape.vblocks * shape.pages) image) (stored_in image)
found_holds shape image t kept e is same =
    let of = kept_of shape image t kept e is same in
    record {
      holds = λ p page found.
          let s = stored_found image kept p page of found in
          s.1 ∙ (λ i. Some (record { tag = s.2 i; stamp = s.3 i; bytes = stored_bytes shape image e p s.0 s.1 i }));
      only = λ p none. inr (none_stored ((stored_in image).named p) (sym (found_named image kept p of) ∙ none));
    }
  where
    none_stored : (o : Option NamedPage) → without_bytes o ≡ None → o ≡ None
    none_stored None is = refl
    none_stored (Some n) is = absurd (none-some (record { tag = n.tag; stamp = n.stamp }) (sym is))

every : {X : Type 0} (f : X → Bool) (xs : List X) → ((x : X) → f x ≡ true) → list_all f xs ≡ true
every f [] yes_each = refl
every f (x ∷ xs) yes_each = ap (λ b. b && list_all f xs) (yes_each x) ∙ every f xs yes_each

and_false : (b : Bool) → (b && false) ≡ false
and_false true = refl
and_false false = refl

-- without a pointer the first block is the spare one
none_spare : (kept : KeptPages) (n : ℕ) → kept.count ≡ suc n → spare_among kept [] ≡ Some kept.first
unfolding spare_among
none_spare kept n is =
    let beside : ℕ → KeptPage → Bool = λ block r. not (r.page / kept.size == block && list_any (λ s. s == r.stamp) []) || list_any (λ q. not (q.page / kept.size == block) && q.stamp == r.stamp) kept.pages in
    let test : ℕ → Bool = λ block. list_all (beside block) kept.pages in
    ap (λ n. find test (range_with_len kept.first n)) is
    ∙ ap (λ b. cond b (Some kept.first) (find test (range_with_len (kept.first + 1) n)))
    (every (beside kept.first) kept.pages (λ r. ap (λ b. not b || list_any (λ q. not (q.page / kept.size == kept.first) && q.stamp == r.stamp) kept.pages) (and_false (r.page / kept.size == kept.first))))

some_is : (o : Option ℕ) (n : ℕ) → o ≡ Some n → IsSome o
some_is o n is = ap is_some is

count_from : (kept : KeptPages) (count : ℕ) → kept.count ≡ count → 0 < count → (n : ℕ) × (kept.count ≡ suc n)
count_from kept zero is some = absurd (omega (arith, some))
count_from kept (suc n) is some = (n, is)

-- where a segment has a block, no pointers at all can be retained
pub can_none : (kept : KeptPages) (count : ℕ) → kept.count ≡ count → 0 < count → CanRetain kept []
can_none kept count is some =
    let c = count_from kept count is some in
    record {
      spare = some_is (spare_for kept []) kept.first (none_spare kept c.0 c.1);
      placed = All-nil _;
      differ = search rules;
      names_differ = search rules;
      own = All-nil _;
      few_lost = omega arith;
    }
