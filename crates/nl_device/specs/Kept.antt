-- What is kept of a scan until the opening is done: the readable pages of the physical segment, and where the copies of a stamp lie.
use Rattle.std.specs.Prelude.{◌≡◌, ℕ, ◌+◌, ◌/◌, ◌^◌, ◌<◌, ◌≤◌, ◌==◌, nat_le, Bool, not, ◌&&◌, ◌||◌, if◌then◌else◌, List, [], find, filter_map, All, Option, Some, None, option_map, IsTrue}
use Rattle.nl_field.specs.Spelling.{is_stamp}
use Rattle.std.specs.List.{list_all, list_any, range_with_len, AllPairs}
use Rattle.std.specs.Ordering.{nat_cmp}
use Rattle.std.specs.BTreeMap.{BTreeMap, get}
use Rattle.nl_field.specs.Medium.{first_physical}
use Rattle.nl_field.specs.Space.{is_outside}
use Rattle.nl_field.specs.declared.pointer.Pointer.{Pointer}
use Rattle.nl_field.specs.declared.shape.Shape.{Shape}
use Rattle.nl_field.specs.declared.spare.SpareRec.{SpareRec}
use Rattle.nl_field.specs.declared.spare.SpareRec.TheVariants.{Virtual, Physical}
use Rattle.nl_field.specs.declared.seen.Seen.{Seen}
use Rattle.nl_device.specs.declared.kept.page.KeptPage.{KeptPage}
use Rattle.nl_device.specs.declared.kept.copies.Copies.{Copies}

-- The readable pages of the physical segment, in rising order. The segment has `count` blocks of `size` pages, from block `first` on.
pub record KeptPages : Type 0 where
  pub first : ℕ
  pub count : ℕ
  pub size : ℕ
  pub pages : List KeptPage

-- no page is kept
abbrev pub forgotten : KeptPages → KeptPages
forgotten kept = record { first = kept.first; count = kept.count; size = kept.size; pages = [] }

-- a page with a record of the physical kind
abbrev pub with_record : ℕ → SpareRec → Option KeptPage
with_record page (Virtual vaddr stamp wear) = None
with_record page (Physical tag stamp wear) = Some (record { page = page; stamp = stamp; tag = tag })

-- a page from that number on with a record of the physical kind
abbrev pub kept_from : ℕ → Seen → Option KeptPage
kept_from low s = if nat_le low s.page then with_record s.page s.rec else None

-- of the pages that a scan saw, those of the physical segment
unfoldable pub kept_pages : ℕ → List Seen → List KeptPage
kept_pages low seen = filter_map (kept_from low) seen

-- what is kept of the pages that a scan saw
abbrev pub kept_of_scan : Shape → List Seen → KeptPages
kept_of_scan shape seen =
    record { first = shape.vblocks; count = shape.pblocks; size = shape.pages; pages = kept_pages (first_physical shape) seen }

-- the page of that number has the stamp
unfoldable pub has_stamp : List KeptPage → ℕ → ℕ → Bool
has_stamp pages page stamp = list_any (λ k. k.page == page && k.stamp == stamp) pages

-- the least page of the stamp that is not in the block of this page
abbrev pub copy_apart : ℕ → List KeptPage → ℕ → ℕ → Option ℕ
copy_apart size pages stamp page = option_map (λ k. k.page) (find (λ k. k.stamp == stamp && not (k.page / size == page / size)) pages)

-- the least page of the stamp, and the least one in another block
unfoldable pub copies_of : ℕ → List KeptPage → ℕ → Option Copies
copies_of size pages stamp =
    option_map (λ k. record { first = k.page; apart = copy_apart size pages stamp k.page }) (find (λ k. k.stamp == stamp) pages)

-- the copies of each stamp are noted
abbrev pub CopiesAreNoted : ℕ → List KeptPage → BTreeMap ℕ Copies → Type 0
CopiesAreNoted size pages copies = (stamp : ℕ) → get nat_cmp copies stamp ≡ copies_of size pages stamp

-- a page of the segment, whose stamp has a spelling
pub record IsOfSegment (first count size : ℕ) (k : KeptPage) : Type 0 where
  pub from_first : first ≤ k.page / size
  pub to_last : k.page / size < first + count
  pub spelled : IsTrue (is_stamp k.stamp)

-- what holds of what is kept
pub record AreKeptPages (kept : KeptPages) (copies : BTreeMap ℕ Copies) : Type 0 where
  pub some : 0 < kept.size
  pub few : kept.first + kept.count < 2 ^ 32
  pub rising : AllPairs (λ a b. a.page < b.page) kept.pages
  pub within : All (IsOfSegment kept.first kept.count kept.size) kept.pages
  pub noted : CopiesAreNoted kept.size kept.pages copies

-- of what is kept the copies can be noted
abbrev pub HasCopies : KeptPages → Type 0
HasCopies kept = (copies : BTreeMap ℕ Copies) × AreKeptPages kept copies

-- The least block of the segment each page of which that has one of these stamps has a copy in another block.
unfoldable pub spare_among : KeptPages → List ℕ → Option ℕ
spare_among kept stamps =
    find (λ block.
    list_all (λ r. not (r.page / kept.size == block && list_any (λ s. s == r.stamp) stamps)
    || list_any (λ q. not (q.page / kept.size == block) && q.stamp == r.stamp) kept.pages) kept.pages)
    (range_with_len kept.first kept.count)

-- the page of its name has its stamp, and is outside the spare block
abbrev pub is_at_name : KeptPages → Option ℕ → Pointer → Bool
is_at_name kept spare p = has_stamp kept.pages p.name p.stamp && is_outside kept.size spare p.name

-- The place of a pointer beside this spare block: its own name where that page has the stamp and is outside the block, and else the
-- least page of that stamp outside it.
unfoldable pub place_among : KeptPages → Option ℕ → Pointer → Option ℕ
place_among kept spare p =
    if is_at_name kept spare p then Some p.name
    else option_map (λ k. k.page) (find (λ k. k.stamp == p.stamp && is_outside kept.size spare k.page) kept.pages)
