-- A medium exactly as a format leaves it.
use Rattle.std.specs.Prelude.{◌≡◌, ℕ, ◌≤◌, IsTrue}
use Rattle.nl_field.specs.Numbers.{is_legal}
use Rattle.nl_field.specs.Page.{PageBytes, erased, written, Image, page_at, is_image}
use Rattle.nl_field.specs.SpareRecord.{spare_bytes}
use Rattle.nl_field.specs.declared.spare.SpareRec.TheVariants.{Virtual}
use Rattle.nl_tree.specs.Tree.{empty_tree}
use Rattle.nl_spec_image.specs.Fresh.{root_page, fresh_super}
use Rattle.nl_spec_image.specs.Stands.{ConsistentAs}

-- the first inode page, of an empty root: address 67, stamp 1
unfoldable pub formatted_root : PageBytes
formatted_root = record { main = root_page; spare = spare_bytes (Virtual 67 1 0) }

-- the super page of a volume of this geometry on which no call was made: address 0, stamp 2
unfoldable pub formatted_super : ℕ → ℕ → PageBytes
formatted_super blocks pages = record { main = fresh_super blocks pages; spare = spare_bytes (Virtual 0 2 0) }

-- the first two pages are these, and every other page is erased
pub record IsFormatted (blocks pages : ℕ) (image : Image) : Type 0 where
  pub root : page_at image 0 ≡ written formatted_root
  pub numbers : page_at image 1 ≡ written (formatted_super blocks pages)
  pub others : (p : ℕ) → 2 ≤ p → page_at image p ≡ erased

-- Such an image opens as the tree with only the root, after no call.
abbrev pub FormattedIsConsistent : Type 0
FormattedIsConsistent =
    (blocks pages : ℕ) (image : Image) → IsTrue (is_image image) → image.blocks ≡ blocks → image.pages ≡ pages
    → IsTrue (is_legal blocks pages)
    → IsFormatted blocks pages image → ConsistentAs image 0 empty_tree
