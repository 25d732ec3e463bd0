-- The tree as which an image is sound, if it is.
use Rattle.std.proofs.Common.{◌≡◌, ℕ, Bool, true, false, Option, Some, None, refl, sym, ◌∙◌, subst}
use Rattle.nl_field.specs.Page.{Image, is_image}
use Rattle.nl_field.specs.declared.place.Place.{Place}
use Rattle.nl_tree.specs.Tree.{Tree, empty_tree}
use Rattle.nl_meta.specs.Walk.{walk}
use Rattle.nl_spec_image.specs.Stands.{ConsistentAs}
use Rattle.nl_spec_image.proofs.SoundProofs.{represents_one, walk_finds_consistency}

tree_from : (image : Image) (b : Bool) → is_image image ≡ b → (x : Option Place) → walk image ≡ x → Tree
tree_from image true whole None none = ((walk_finds_consistency image whole).0 none).1
tree_from image true whole (Some place) fault = empty_tree
tree_from image false torn x at = empty_tree

pub tree_of : Image → Tree
tree_of image = tree_from image (is_image image) refl (walk image) refl

pub sound_as_it : (image : Image) (count : ℕ) (tree : Tree) → ConsistentAs image count tree → ConsistentAs image count (tree_of image)
unfolding tree_from tree_of is_image
sound_as_it image count tree s = subst (ConsistentAs image count) (sym (same (is_image image) refl (walk image) refl)) s
  where
    same : (b : Bool) (e : is_image image ≡ b) (x : Option Place) (f : walk image ≡ x) → tree_from image b e x f ≡ tree
    same true whole None none = let t = (walk_finds_consistency image whole).0 none in (represents_one image t.0 count t.1 tree t.2.stands s.stands).1
    same true whole (Some place) fault = absurd (cc (sym ((walk_finds_consistency image whole).1 (count, tree, s)) ∙ fault))
    same false torn x at = absurd (cc (sym s.stands.pages_whole ∙ torn))
