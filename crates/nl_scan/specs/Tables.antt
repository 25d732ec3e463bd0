-- What a scan tells, and of which image.
use Rattle.std.specs.Prelude.{◌≡◌, ◌↔◌, ℕ, ◌+◌, ◌*◌, ◌^◌, ◌<◌, ◌≤◌, Bool, true, false, IsTrue, List, length, fold, max, slice_index_or, All}
use Rattle.std.specs.List.{AllPairs}
use Rattle.nl_field.specs.Page.{Image}
use Rattle.nl_field.specs.SpareRecord.{is_spare, stamp_of}
use Rattle.nl_field.specs.Members.{Has}
use Rattle.nl_field.specs.Numbers.{shape_for}
use Rattle.nl_field.specs.Scan.{without_wear, next_stamp_of, super_version}
use Rattle.nl_field.specs.ScanList.{seen_in, virtual_seen, physical_seen}
use Rattle.nl_nand.specs.Nand.{ErasedWithin}
use Rattle.nl_nand.specs.declared.geometry.Geometry.{Geometry}
use Rattle.nl_field.specs.declared.seen.Seen.{Seen}

-- the readable pages in rising order, of each block whether all its pages read as erased, and the version on the super page
pub record ScanTable : Type 0 where
  pub seen : List Seen
  pub erased : List Bool
  pub version : ℕ

-- the greatest stamp of these pages, or 0
unfoldable pub greatest_stamp : List Seen → ℕ
greatest_stamp seen = fold (λ best s. max best (stamp_of s.rec)) 0 seen

-- what is kept with the pages: their greatest stamp, which is below 2^63, and there are fewer than 2^32 of them
pub record IsSeenTable (seen : List Seen) (greatest : ℕ) : Type 0 where
  pub few : length seen < 2 ^ 32
  pub is_greatest : greatest ≡ greatest_stamp seen
  pub small : greatest < 2 ^ 63

-- a scan of this image tells this
pub record IsTableOf (image : Image) (t : ScanTable) : Type 0 where
  pub each_page : t.seen ≡ seen_in image
  pub next : 1 + greatest_stamp t.seen ≡ next_stamp_of image
  pub each_block : (block : ℕ) → block < image.blocks
      → IsTrue (slice_index_or t.erased block false) ↔ ErasedWithin image (block * image.pages) (block * image.pages + image.pages)
  pub super_page : t.version ≡ super_version image

-- a readable page of a medium of so many pages
pub record IsSeen (pages : ℕ) (s : Seen) : Type 0 where
  pub within : s.page < pages
  pub spelled : IsTrue (is_spare s.rec)
  pub short : s.zeros ≤ 4096

-- those of these pages that agree and have one stamp have one record apart from wear
abbrev pub HaveOneRecord : List Seen → Type 0
HaveOneRecord pages =
    (s q : Seen) → Has pages s → Has pages q → s.agrees ≡ true → q.agrees ≡ true → stamp_of s.rec ≡ stamp_of q.rec
    → without_wear s.rec ≡ without_wear q.rec

-- Whatever the pages hold, these are pages of the medium in rising order, there is an answer for each block, and in either segment
-- a stamp has one record, and so one address or one owner, on all pages that agree.
pub record FitsMedium (geometry : Geometry) (t : ScanTable) : Type 0 where
  pub rising : AllPairs (λ a b. a.page < b.page) t.seen
  pub pages : All (IsSeen (geometry.blocks * geometry.pages)) t.seen
  pub blocks : length t.erased ≡ geometry.blocks
  pub virtuals : HaveOneRecord (virtual_seen (shape_for geometry.blocks geometry.pages) t.seen)
  pub physicals : HaveOneRecord (physical_seen (shape_for geometry.blocks geometry.pages) t.seen)
