-- The numbers of a new volume are those that were asked for.
use Rattle.std.proofs.Common.{◌≡◌, ◌∙◌, ℕ, sym, ap, subst, IsTrue}
use Rattle.nl_field.specs.Medium.{shape_of_image}
use Rattle.nl_field.specs.Numbers.{is_legal, shape_for}
use Rattle.nl_field.specs.Page.{Image}
use Rattle.nl_field.specs.declared.shape.Shape.{Shape}
use Rattle.nl_iface.specs.Device.{IsVolumeShape}
use Rattle.nl_nand.specs.declared.geometry.Geometry.{Geometry}

pub of_image : (blocks pages : ℕ) (image : Image) → image.blocks ≡ blocks → image.pages ≡ pages → shape_of_image image ≡ shape_for blocks pages
of_image blocks pages image is_blocks is_pages = λ i. shape_for (is_blocks i) (is_pages i)

pub is_volume : (blocks pages : ℕ) (shape : Shape) → IsTrue (is_legal blocks pages) → shape ≡ shape_for blocks pages → IsVolumeShape shape
unfolding shape_for
is_volume blocks pages shape legal is = record {
  legal = subst (λ (h : Shape). IsTrue (is_legal h.blocks h.pages)) (sym is) legal;
  numbers = is ∙ (λ i. shape_for ((sym (ap (λ (h : Shape). h.blocks) is)) i) ((sym (ap (λ (h : Shape). h.pages) is)) i));
}

pub on_medium : (blocks pages : ℕ) (shape : Shape) (geometry : Geometry) → shape ≡ shape_for blocks pages → geometry ≡ record { blocks = blocks; pages = pages }
    → geometry ≡ record { blocks = shape.blocks; pages = shape.pages }
unfolding shape_for
on_medium blocks pages shape geometry is formed =
    formed ∙ (λ i. record { blocks = (sym (ap (λ (h : Shape). h.blocks) is)) i; pages = (sym (ap (λ (h : Shape). h.pages) is)) i })
