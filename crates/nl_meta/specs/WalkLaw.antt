-- The walk finds no fault exactly where the volume is consistent, whatever its pages and the list. So it is not its own judge.
use Rattle.std.specs.Prelude.{◌≡◌, ◌↔◌, ℕ, List, None}
use Rattle.nl_field.specs.Numbers.{shape_for}
use Rattle.nl_field.specs.Page.{Image}
use Rattle.nl_field.specs.Medium.{shape_of_image, virtual_pages, physical_pages}
use Rattle.nl_field.specs.ScanList.{seen_in, virtual_seen, physical_seen}
use Rattle.nl_field.specs.declared.seen.Seen.{Seen}
use Rattle.nl_meta.specs.Committed.{VirtualMap}
use Rattle.nl_meta.specs.Walk.{walk, walk_over}
use Rattle.nl_meta.specs.Consistent.{AllAgree, StampsRight, Consistent, ConsistentOver}

abbrev pub WalkIsConsistencyOver : Type 0
WalkIsConsistencyOver =
    (blocks in_block : ℕ) (pages : VirtualMap) (seen : List Seen)
    → (walk_over (shape_for blocks in_block) pages seen ≡ None) ↔ ConsistentOver (shape_for blocks in_block) pages seen

abbrev pub WalkIsConsistency : Type 0
WalkIsConsistency = (image : Image) → (walk image ≡ None) ↔ Consistent image

-- That each page of an image's list agrees says that pages of one stamp are the same.
pub record AgreeingIsSame (image : Image) : Type 0 where
  pub virtual : AllAgree (virtual_seen (shape_of_image image) (seen_in image)) ↔ StampsRight (virtual_pages image)
  pub physical : AllAgree (physical_seen (shape_of_image image) (seen_in image)) ↔ StampsRight (physical_pages image)

abbrev pub ListsAgree : Type 0
ListsAgree = (image : Image) → AgreeingIsSame image
