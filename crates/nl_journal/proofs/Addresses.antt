-- A volume has the addresses of the journal, and more.
use Rattle.std.proofs.Common.{◌≤◌, ℕ, sym, subst, arith}
use Rattle.nl_field.specs.Numbers.{shape_for}
use Rattle.nl_field.specs.declared.shape.Shape.{Shape}
use Rattle.nl_iface.specs.Device.{IsVolumeShape}

least : (blocks pages : ℕ) → 67 ≤ (shape_for blocks pages).vaddrs
unfolding shape_for
least blocks pages = omega arith

pub addresses_of : (shape : Shape) → IsVolumeShape shape → 67 ≤ shape.vaddrs
addresses_of shape is = subst (λ (s : Shape). 67 ≤ s.vaddrs) (sym is.numbers) (least shape.blocks shape.pages)
