-- Which page is read under an address: in the list of an image's scan that of the image.
use Rattle.std.proofs.Common.{◌≡◌, ℕ, Bool, true, false, not, ◌&&◌, cond, List, [], ◌∷◌, map, Option, Some, None, option_map, refl, sym, ◌∙◌, ap}
use Rattle.std.specs.Prelude.{◌==◌, nat_lt, filter, find}
use Rattle.std.specs.BTreeSet.{contains}
use Rattle.std.specs.Ordering.{nat_cmp}
use Rattle.nl_field.specs.Medium.{Readable, address_of, address_on, shape_of_image, stamp_on, virtual_pages}
use Rattle.nl_field.specs.Numbers.{shape_for}
use Rattle.nl_field.specs.Page.{Image}
use Rattle.nl_field.specs.ScanList.{seen_of}
use Rattle.nl_field.specs.Space.{has_greatest_stamp, is_outside, virtual_spare}
use Rattle.nl_field.specs.SpareRecord.{stamp_of}
use Rattle.nl_field.specs.Virtual.{first_in, newest, or_first_in}
use Rattle.nl_field.specs.declared.seen.Seen.{Seen}
use Rattle.nl_field.proofs.ScanLists.{lists_tell}
use Rattle.nl_map_pages.specs.Judging.{IsLiveOf}
use Rattle.nl_map_pages.specs.Looks.{first_outside, is_current, is_outdated_seen, or_page, read_under}
use Rattle.nl_map_pages.specs.Marks.{is_at, is_outdated, is_page, physical_mark, virtual_mark}
use Rattle.nl_map_pages.specs.declared.judge.Live.{Live}
use Rattle.nl_map_pages.specs.declared.look.Mark.TheVariants as marks
use Rattle.nl_map_pages.proofs.Lists.{any_map, find_filter, find_map}

module _ (image : Image) (address : ℕ) where
  abbrev pages : List Readable
  pages = virtual_pages image

  abbrev seen : List Seen
  seen = map (seen_of image) pages

  -- the page has the address, and none has a greater sequence number for it
  abbrev current : Readable → Bool
  current r = address_on r == address && has_greatest_stamp pages r

  current_is : (r : Readable) → is_current seen address (seen_of image r) ≡ current r
  current_is r =
      ap (λ b. address_on r == address && not b) (any_map (seen_of image) (λ q. address_of q.rec == address_on r && nat_lt (stamp_on r) (stamp_of q.rec)) pages)

  page_mapped : (o : Option Readable) → option_map (λ (s : Seen). s.page) (option_map (seen_of image) o) ≡ option_map (λ (r : Readable). r.page) o
  page_mapped None = refl
  page_mapped (Some r) = refl

  outside_is : (spare : Option ℕ) → first_outside seen image.pages spare address ≡ option_map (λ (r : Readable). r.page) (find (λ r. current r && is_outside image.pages spare r.page) pages)
  outside_is spare =
      ap (option_map (λ (s : Seen). s.page)) (find_map (seen_of image) (λ s. is_current seen address s && is_outside image.pages spare s.page) pages)
      ∙ page_mapped (find (λ r. is_current seen address (seen_of image r) && is_outside image.pages spare r.page) pages)
      ∙ (λ i. option_map (λ (r : Readable). r.page) (find (λ r. current_is r i && is_outside image.pages spare r.page) pages))

  and_true : (b : Bool) → (b && true) ≡ b
  and_true true = refl
  and_true false = refl

  first_is : (xs : List Readable) → find current xs ≡ first_in (filter current xs)
  first_is [] = refl
  first_is (x ∷ xs) = by (current x) (first_is xs)
    where
      by : (b : Bool) → find current xs ≡ first_in (filter current xs) → cond b (Some x) (find current xs) ≡ first_in (cond b (x ∷ filter current xs) (filter current xs))
      by true rest = refl
      by false rest = rest

  or_is : (greatest : List Readable) (o : Option Readable) (p : Option ℕ) → p ≡ option_map (λ (r : Readable). r.page) (first_in greatest)
      → or_page (option_map (λ (r : Readable). r.page) o) p ≡ option_map (λ (r : Readable). r.page) (or_first_in greatest o)
  or_is greatest None p is = is
  or_is greatest (Some r) p is = refl

  least_is : first_outside seen image.pages None address ≡ option_map (λ (r : Readable). r.page) (first_in (filter current pages))
  least_is =
      outside_is None
      ∙ (λ i. option_map (λ (r : Readable). r.page) (find (λ r. and_true (current r) i) pages))
      ∙ ap (option_map (λ (r : Readable). r.page)) (first_is pages)

  read_is : read_under seen image.pages (virtual_spare image) address ≡ option_map (λ (r : Readable). r.page) (newest image address)
  unfolding newest
  read_is =
      (λ i. or_page (outside_is (virtual_spare image) i) (first_outside seen image.pages None address))
      ∙ (λ i. or_page (option_map (λ (r : Readable). r.page) (sym (find_filter current (λ r. is_outside image.pages (virtual_spare image) r.page) pages) i)) (first_outside seen image.pages None address))
      ∙ or_is (filter current pages) (find (λ r. is_outside image.pages (virtual_spare image) r.page) (filter current pages)) (first_outside seen image.pages None address) least_is

  at_is : (page : ℕ) (o : Option Readable) → is_page page (option_map (λ (r : Readable). r.page) o) ≡ is_at page o
  at_is page None = refl
  at_is page (Some r) = refl

  size_is : (shape_of_image image).pages ≡ image.pages
  unfolding shape_for
  size_is = refl

  module _ (live : Live) (is : IsLiveOf image live) where
    virtuals_are : live.virtuals.items ≡ seen
    virtuals_are = is.virtuals ∙ (lists_tell image).virtual

    live_read : read_under live.virtuals.items live.shape.pages live.spare address ≡ option_map (λ (r : Readable). r.page) (newest image address)
    live_read = (λ i. read_under (virtuals_are i) ((ap (λ s. s.pages) is.shape_is ∙ size_is) i) (is.spare i) address) ∙ read_is

    outdated_is : (stamp : ℕ) → is_outdated_seen live.virtuals.items address stamp ≡ is_outdated pages address stamp
    outdated_is stamp =
        ap (λ l. is_outdated_seen l address stamp) virtuals_are ∙ any_map (seen_of image) (λ q. address_of q.rec == address && nat_lt stamp (stamp_of q.rec)) pages

    pub virtual_mark_is : (page stamp : ℕ) → cond (is_page page (read_under live.virtuals.items live.shape.pages live.spare address)) marks.Live (cond (is_outdated_seen live.virtuals.items address stamp) marks.Dead marks.OldCopy) ≡ virtual_mark image page address stamp
    unfolding virtual_mark
    virtual_mark_is page stamp =
        λ i. cond ((ap (is_page page) live_read ∙ at_is page (newest image address)) i) marks.Live (cond (outdated_is stamp i) marks.Dead marks.OldCopy)

pub physical_mark_is : (image : Image) (live : Live) → IsLiveOf image live → (page stamp : ℕ) → cond (contains nat_cmp live.places page) marks.Live (cond (contains nat_cmp live.stamps stamp) marks.OldCopy marks.Dead) ≡ physical_mark image page stamp
unfolding physical_mark
physical_mark_is image live is page stamp = λ i. cond (is.places page i) marks.Live (cond (is.stamps stamp i) marks.OldCopy marks.Dead)
