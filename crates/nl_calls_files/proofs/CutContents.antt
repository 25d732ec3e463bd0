-- What a file holds once it was cut.
use Rattle.std.proofs.Common.{◌≡◌, ◌≢◌, ◌⊎◌, inl, inr, ℕ, ◌-◌, ◌*◌, ◌/◌, ◌<◌, ◌≤◌, Bool, true, false, List, [], drop, get_or, length, nat_lt, Option, Some, None, is_some, option_map, unwrap_or, refl, sym, ap, subst, ◌∙◌}
use Rattle.std.proofs.lemmas.Bool.{both_ways, cases_eq, cases_lt, cond-false, cond-true, le-ltb, lt-ltb}
use Rattle.std.proofs.lemmas.List.{ext_get_or}
use Rattle.std.specs.Bool.{passes}
use Rattle.std.specs.Cmp.{nat_cmp_total}
use Rattle.std.specs.FinMap.{find, is_sorted, nat_cmp-IsAntisymmetric}
use Rattle.std.specs.FinMap.Entries.{same_entries}
use Rattle.std.specs.Int.{div_ceil}
use Rattle.std.specs.Ordering.{nat_cmp}
use Rattle.std.specs.Prelude.{IfSome, IsTrue}
use Rattle.nl_field.specs.Bytes.{all_zero}
use Rattle.nl_tree_content.specs.ContentLaws.{cut_page}
use Rattle.nl_field.specs.FileContent.{FileContent, cut_to}
use Rattle.nl_field.specs.Pointers.{is_none_pointer}
use Rattle.nl_field.specs.declared.inode.InodeRec.{InodeRec}
use Rattle.nl_field.specs.declared.pointer.Pointer.{Pointer}
use Rattle.nl_field.specs.declared.shape.Shape.{Shape}
use Rattle.nl_tree_content.proofs.ContentBytes.{cut_page-in, cut_page-past, length-cut_page, zero_at, zero_from}
use Rattle.nl_tree_content.proofs.ContentPages.{sorted-kept}
use Rattle.nl_tree_content.proofs.ContentProofs.{cut_laws}
use Rattle.nl_inode.specs.Nodes.{Spaces}
use Rattle.nl_indirect.specs.Ranges.{IsFileRecord}
use Rattle.nl_meta.specs.Committed.{VirtualMap}
use Rattle.nl_meta.specs.Consistent.{PageOfStamp}
use Rattle.nl_meta.specs.Nodes.{pointer_at}
use Rattle.nl_spec_image.specs.Stands.{bytes_for}
use Rattle.nl_spec_image.proofs.PagesOfFiles.{sorted_in}
use Rattle.nl_files.specs.Contents.{page_by_stamp}
use Rattle.nl_files.specs.CutRuns.{CutIsWritten}
use Rattle.nl_files.proofs.ContentFacts.{pages_by_pointers}
use Rattle.nl_calls_files.specs.FileTrees.{FileHasPages, held_content}

-- a page that holds nothing behind the size is as it would be cut
cut_same : (size index : ℕ) (page : List ℕ) → length page ≡ 4096 → IsTrue (all_zero (drop (size - 4096 * index) page)) → cut_page size index page ≡ page
cut_same size index page whole behind =
    ext_get_or 0 (cut_page size index page) page (length-cut_page size index page whole ∙ sym whole) (λ r below. by r (cases_lt r (size - 4096 * index)))
  where
    by : (r : ℕ) → (r < size - 4096 * index) ⊎ (size - 4096 * index ≤ r) → get_or (cut_page size index page) r 0 ≡ get_or page r 0
    by r (inl low) = cut_page-in size index page r low
    by r (inr past) = cut_page-past size index page r past ∙ sym (zero_at page (size - 4096 * index) r behind past)

-- a page that is cut holds nothing behind the size
pub cut_behind : (size index : ℕ) (page : List ℕ) → IsTrue (all_zero (drop (size - 4096 * index) (cut_page size index page)))
cut_behind size index page = zero_from (cut_page size index page) (size - 4096 * index) (λ r past. cut_page-past size index page r past)

-- another page comes, with the bytes of the one before it below the size
pub record Replaces (page_of_stamp : ℕ → Option PageOfStamp) (before : VirtualMap) (was : InodeRec) (size : ℕ) (to : Pointer) : Type 0 where
  pub some : is_none_pointer to ≡ false
  pub had : is_none_pointer (pointer_at before was (size / 4096)) ≡ false
  pub bytes : bytes_for page_of_stamp to.stamp ≡ cut_page size (size / 4096) (bytes_for page_of_stamp (pointer_at before was (size / 4096)).stamp)

module _ (page_of_stamp : ℕ → Option PageOfStamp) (shape : Shape) (n size : ℕ) (partial : Option Pointer) (was is : InodeRec) (before after : VirtualMap) (s t : Spaces) (file : IsFileRecord was) (file_after : IsFileRecord is) (sized : is.size ≡ size)
    (c : CutIsWritten shape n size partial was is before after s t) (pages : FileHasPages after page_of_stamp n is) (replaces : IfSome partial (Replaces page_of_stamp before was size)) where
  abbrev bytes : ℕ → List ℕ
  bytes = bytes_for page_of_stamp

  abbrev old : FileContent
  old = held_content page_of_stamp before was

  abbrev new : FileContent
  new = held_content page_of_stamp after is

  shown : (p : Pointer) → is_none_pointer p ≡ false → page_by_stamp bytes p ≡ Some (bytes p.stamp)
  shown p some = cond-false (is_none_pointer p) None (Some (bytes p.stamp)) some

  not_shown : (p : Pointer) → is_none_pointer p ≡ true → page_by_stamp bytes p ≡ None
  not_shown p none = cond-true (is_none_pointer p) None (Some (bytes p.stamp)) none

  -- what is at an index below the size
  abbrev IsCutAt : ℕ → Type 0
  IsCutAt q = page_by_stamp bytes (pointer_at after is q) ≡ option_map (cut_page size q) (page_by_stamp bytes (pointer_at before was q))

  is_bytes : (q : ℕ) (some : is_none_pointer (pointer_at after is q) ≡ false) → bytes (pointer_at after is q).stamp ≡ (pages.there q some).bytes
  is_bytes q some = ap (λ (o : Option PageOfStamp). unwrap_or (option_map (λ page. page.bytes) o) []) (pages.there q some).holds

  stays_cut : (q : ℕ) (some : is_none_pointer (pointer_at after is q) ≡ false) → cut_page size q (bytes (pointer_at after is q).stamp) ≡ bytes (pointer_at after is q).stamp
  stays_cut q some =
      let there = pages.there q some in
      ap (cut_page size q) (is_bytes q some)
      ∙ cut_same size q there.bytes there.whole (subst (λ (z : ℕ). IsTrue (all_zero (drop (z - 4096 * q) there.bytes))) sized there.behind)
      ∙ sym (is_bytes q some)

  kept_cut : (q : ℕ) → pointer_at after is q ≡ pointer_at before was q → IsCutAt q
  kept_cut q same = by (is_none_pointer (pointer_at after is q)) refl
    where
      by : (b : Bool) → is_none_pointer (pointer_at after is q) ≡ b → IsCutAt q
      by true none =
          not_shown (pointer_at after is q) none ∙ ap (option_map (cut_page size q)) (sym (not_shown (pointer_at before was q) (sym (ap is_none_pointer same) ∙ none)))
      by false some =
          shown (pointer_at after is q) some ∙ ap (λ (x : List ℕ). Some x) (sym (stays_cut q some)) ∙ ap (option_map (cut_page size q)) (sym (shown (pointer_at after is q) some))
          ∙ ap (λ (p : Pointer). option_map (cut_page size q) (page_by_stamp bytes p)) same

  below : (q : ℕ) → q < div_ceil size 4096 → (o : Option Pointer) → partial ≡ o → IfSome o (Replaces page_of_stamp before was size) → IfSome o (λ p. pointer_at after is (size / 4096) ≡ p) → (q ≡ size / 4096) ⊎ (q ≢ size / 4096) → IsCutAt q
  below q low None e r at here = kept_cut q (c.kept q low (λ some. absurd (both_ways (is_some partial) (ap is_some e) some)))
  below q low (Some to) e r at (inr far) = kept_cut q (c.kept q low (λ some. far))
  below q low (Some to) e r at (inl here) =
      subst (λ (i : ℕ). IsCutAt i) (sym here)
      (ap (page_by_stamp bytes) at ∙ shown to r.some ∙ ap (λ (x : List ℕ). Some x) r.bytes
      ∙ ap (option_map (cut_page size (size / 4096))) (sym (shown (pointer_at before was (size / 4096)) r.had)))

  found : (q : ℕ) → (q < div_ceil size 4096) ⊎ (div_ceil size 4096 ≤ q) → find nat_cmp q new.pages ≡ find nat_cmp q (cut_to old size).pages
  found q (inl low) =
      pages_by_pointers bytes after is file_after q ∙ below q low partial refl replaces c.replaced (cases_eq q (size / 4096))
      ∙ ap (option_map (cut_page size q)) (sym (pages_by_pointers bytes before was file q))
      ∙ sym (cut_laws.page old size q ∙ cond-true (nat_lt q (div_ceil size 4096)) (option_map (cut_page size q) (find nat_cmp q old.pages)) None (lt-ltb q (div_ceil size 4096) low))
  found q (inr past) =
      pages_by_pointers bytes after is file_after q ∙ ap (page_by_stamp bytes) (c.gone q past)
      ∙ sym (cut_laws.page old size q ∙ cond-false (nat_lt q (div_ceil size 4096)) (option_map (cut_page size q) (find nat_cmp q old.pages)) None (le-ltb q (div_ceil size 4096) past))

  cut_sorted : is_sorted nat_cmp (cut_to old size).pages ≡ true
  unfolding cut_to
  cut_sorted = sorted-kept (cut_page size) (λ i. nat_lt i (div_ceil size 4096)) old.pages (sorted_in bytes before was)

  same_pages : new.pages ≡ (cut_to old size).pages
  same_pages = same_entries nat_cmp nat_cmp_total nat_cmp-IsAntisymmetric new.pages (cut_to old size).pages (passes _ (sorted_in bytes after is)) (passes _ cut_sorted) (λ q. found q (cases_lt q (div_ceil size 4096)))

  pub content_cut : new ≡ cut_to old size
  content_cut = let size_ = sized ∙ sym (cut_laws.size old size) in λ i. record { size = size_ i; pages = same_pages i }
