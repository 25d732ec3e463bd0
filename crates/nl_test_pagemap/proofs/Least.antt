-- The least volume.
use Rattle.std.proofs.Common.{◌≡◌, IsTrue, refl, sym, ◌∙◌, ap, subst}
use Rattle.nl_field.specs.Numbers.{is_legal, shape_for}
use Rattle.nl_field.specs.declared.shape.Shape.{Shape}
use Rattle.nl_iface.specs.Device.{IsVolumeShape}
use Rattle.nl_nand.specs.declared.geometry.Geometry.{Geometry}

pub is_volume : (shape : Shape) → shape ≡ shape_for 32 32 → IsVolumeShape shape
unfolding shape_for
is_volume shape is = record {
  legal = subst (λ (s : Shape). IsTrue (is_legal s.blocks s.pages)) (sym is) refl;
  numbers = is ∙ (λ i. shape_for (sym is i).blocks (sym is i).pages);
}

pub has_addresses : (shape : Shape) → shape ≡ shape_for 32 32 → shape.vaddrs ≡ 103
unfolding shape_for
has_addresses shape is = ap (λ (s : Shape). s.vaddrs) is

pub fits_medium : (shape : Shape) (geometry : Geometry) → shape ≡ shape_for 32 32 → geometry ≡ record { blocks = 32; pages = 32 } → geometry ≡ record { blocks = shape.blocks; pages = shape.pages }
unfolding shape_for
fits_medium shape geometry is numbers = numbers ∙ sym (ap (λ (s : Shape). record { blocks = s.blocks; pages = s.pages }) is)
