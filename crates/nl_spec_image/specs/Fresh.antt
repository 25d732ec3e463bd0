-- What formatting leaves: the pages of a fresh volume of any legal geometry.
use Rattle.std.specs.Prelude.{◌≡◌, ◌≢◌, ◌⊎◌, ℕ, ◌/◌, ◌<◌, ◌≤◌, List, ◌++◌, length, IsTrue, IsSome}
use Rattle.nl_field.specs.Numbers.{is_legal}
use Rattle.nl_field.specs.Page.{Image, is_image}
use Rattle.nl_field.specs.Bytes.{zeros}
use Rattle.nl_field.specs.SuperPage.{super_bytes}
use Rattle.nl_field.specs.Inode.{inode_bytes}
use Rattle.nl_field.specs.Examples.{root_inode}
use Rattle.nl_field.specs.Medium.{Readable, shape_of_image, stamp_on, address_on, virtual_pages, physical_pages}
use Rattle.nl_field.specs.Space.{virtual_spare}
use Rattle.nl_tree.specs.Tree.{empty_tree}
use Rattle.nl_field.specs.Members.{Has}
use Rattle.nl_spec_image.specs.Stands.{ConsistentAs}

-- the inode page with an empty root
abbrev pub root_page : List ℕ
root_page = inode_bytes root_inode ++ zeros 3840

-- the super page before any call
abbrev pub fresh_super : ℕ → ℕ → List ℕ
fresh_super blocks pages = super_bytes (record { version = 1; blocks = blocks; pages = pages; count = 0 })

-- the root under stamp 1, or the super page under stamp 2
abbrev pub IsFreshPage : Image → Readable → Type 0
IsFreshPage image r =
    ((address_on r ≡ 67) × (stamp_on r ≡ 1) × (r.main ≡ root_page))
    ⊎ ((address_on r ≡ 0) × (stamp_on r ≡ 2) × (r.main ≡ fresh_super image.blocks image.pages))

-- The readable pages of the virtual segment are the root and the super page, each at least once, and no page of a file is readable.
pub record HasFreshPages (image : Image) : Type 0 where
  pub whole : IsTrue (is_image image)
  pub legal : IsTrue (is_legal image.blocks image.pages)
  pub root : (r : Readable) × Has (virtual_pages image) r × (address_on r ≡ 67)
  pub super_page : (r : Readable) × Has (virtual_pages image) r × (address_on r ≡ 0)
  pub no_other : (r : Readable) → Has (virtual_pages image) r → IsFreshPage image r
  pub no_data : (r : Readable) → Has (physical_pages image) r → ⊥

-- With a spare block the pages of a fresh volume open as the tree with only the root, after no call.
abbrev pub FreshIsConsistent : Type 0
FreshIsConsistent = (image : Image) → HasFreshPages image → IsSome (virtual_spare image) → ConsistentAs image 0 empty_tree

-- There is a spare block where some block can be done without: each readable page in it has a copy in another block.
abbrev pub SpareByCopies : Type 0
SpareByCopies =
    (image : Image) (block : ℕ) → block < (shape_of_image image).vblocks
    → ((r : Readable) → Has (virtual_pages image) r → r.page / image.pages ≡ block
    → (q : Readable) × Has (virtual_pages image) q × (q.page / image.pages ≢ block) × (address_on q ≡ address_on r)
    × (stamp_on q ≡ stamp_on r))
    → IsSome (virtual_spare image)

-- There is a spare block where fewer pages are readable than there are blocks.
abbrev pub SpareByFewPages : Type 0
SpareByFewPages = (image : Image) → length (virtual_pages image) < (shape_of_image image).vblocks → IsSome (virtual_spare image)

-- At most four readable pages of a fresh volume open as the tree with only the root, after no call.
abbrev pub FewFreshAreConsistent : Type 0
FewFreshAreConsistent = (image : Image) → HasFreshPages image → length (virtual_pages image) ≤ 4 → ConsistentAs image 0 empty_tree
