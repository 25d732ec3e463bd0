-- An image whose metadata is right stands for exactly one tree. It is consistent exactly where the walk finds no fault.
use Rattle.std.specs.Prelude.{◌≡◌, ◌↔◌, ℕ, IsTrue, None}
use Rattle.nl_field.specs.Page.{Image, is_image}
use Rattle.nl_field.specs.Medium.{shape_of_image}
use Rattle.nl_tree.specs.Tree.{Tree}
use Rattle.nl_meta.specs.Committed.{committed_of}
use Rattle.nl_meta.specs.Consistent.{MetadataRight}
use Rattle.nl_meta.specs.Walk.{walk}
use Rattle.nl_spec_image.specs.RightFor.{ChargesOfPages}
use Rattle.nl_spec_image.specs.Stands.{ImageRepresents, IsConsistentImage}

-- An image whose metadata is right stands for a tree.
abbrev pub MetadataRepresentsTree : Type 0
MetadataRepresentsTree =
    (image : Image) → IsTrue (is_image image) → (right : MetadataRight image) → (tree : Tree) × ImageRepresents image right.super_rec.count tree

-- An image stands for no second count or tree.
abbrev pub RepresentsOneTree : Type 0
RepresentsOneTree =
    (image : Image) (count count' : ℕ) (tree tree' : Tree) → ImageRepresents image count tree → ImageRepresents image count' tree'
    → (count ≡ count') × (tree ≡ tree')

-- Exactly the consistent images are without a first fault, of those whose pages are whole.
abbrev pub WalkDecidesConsistency : Type 0
WalkDecidesConsistency = (image : Image) → IsTrue (is_image image) → (walk image ≡ None) ↔ IsConsistentImage image

-- The charges of the tree are those of the image's committed pages.
abbrev pub RepresentedHasCharges : Type 0
RepresentedHasCharges =
    (image : Image) (count : ℕ) (tree : Tree) → ImageRepresents image count tree → ChargesOfPages (shape_of_image image) (committed_of image) tree
