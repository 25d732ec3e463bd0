-- What a medium holds on which a volume is made.
use Rattle.std.specs.Prelude.{◌≡◌, ◌⊎◌, ⊤, ℕ, ◌≤◌, [], Some, IsTrue}
use Rattle.nl_field.specs.Medium.{readable_pages}
use Rattle.nl_field.specs.Numbers.{is_legal}
use Rattle.nl_field.specs.Page.{Image, erased, is_image, page_at, uncorrectable, written}
use Rattle.nl_field.specs.declared.place.What.TheVariants.{Super}
use Rattle.nl_tree.specs.Tree.{empty_tree}
use Rattle.nl_meta.specs.Walk.{walk}
use Rattle.nl_spec_image.specs.Formatted.{formatted_root, formatted_super}
use Rattle.nl_spec_image.specs.Stands.{ConsistentAs}
use Rattle.nl_volume_format.specs.declared.making.Made.{Made}
use Rattle.nl_volume_format.specs.declared.making.Made.TheVariants.{Done, Fault, Memory}

-- The medium was given these numbers. Its first page was left alone, or tried with the page of the root; its second page was tried with the
-- super page only once the first one holds its page. Every other page is erased.
pub record IsBegun (blocks pages : ℕ) (image : Image) : Type 0 where
  pub whole : IsTrue (is_image image)
  pub same_blocks : image.blocks ≡ blocks
  pub same_pages : image.pages ≡ pages
  pub root : (page_at image 0 ≡ erased) ⊎ ((page_at image 0 ≡ uncorrectable) ⊎ (page_at image 0 ≡ written formatted_root))
  pub numbers : (page_at image 1 ≡ erased)
      ⊎ ((page_at image 0 ≡ written formatted_root)
      × ((page_at image 1 ≡ uncorrectable) ⊎ (page_at image 1 ≡ written (formatted_super blocks pages))))
  pub others : (p : ℕ) → 2 ≤ p → page_at image p ≡ erased

-- The image opens as blank, as damaged at its super page, or as the tree with only the root after no call.
abbrev pub OpensAsNew : Image → Type 0
OpensAsNew image = (readable_pages image ≡ []) ⊎ ((walk image ≡ Some (record { place = 0; what = Super })) ⊎ ConsistentAs image 0 empty_tree)

abbrev pub MakingsAreSafe : Type 0
MakingsAreSafe = (blocks pages : ℕ) (image : Image) → IsTrue (is_legal blocks pages) → IsBegun blocks pages image → OpensAsNew image

-- ---- answers

-- the medium of an answer
abbrev pub made_medium : {M : Type 0} → Made M → M
made_medium (Done m) = m
made_medium (Fault m) = m
made_medium (Memory m) = m

abbrev pub IfMade : {M : Type 0} → Made M → (M → Type 0) → Type 0
IfMade (Done m) P = P m
IfMade (Fault m) P = ⊤
IfMade (Memory m) P = ⊤

abbrev pub IsMakeFault : {M : Type 0} → Made M → Type 0
IsMakeFault (Done m) = ⊥
IsMakeFault (Fault m) = ⊤
IsMakeFault (Memory m) = ⊥

abbrev pub IfMakeMemory : {M : Type 0} → Made M → (M → Type 0) → Type 0
IfMakeMemory (Done m) P = ⊤
IfMakeMemory (Fault m) P = ⊤
IfMakeMemory (Memory m) P = P m
