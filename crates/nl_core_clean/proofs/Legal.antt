-- What holds of a legal volume.
use Rattle.std.proofs.Common.{◌≤◌, sym, subst, arith}
use Rattle.nl_field.proofs.Bounds.{bounds}
use Rattle.nl_field.specs.Numbers.{ShapeBounds}
use Rattle.nl_field.specs.declared.shape.Shape.{Shape}
use Rattle.nl_iface.specs.Device.{IsVolumeShape}

-- a block has pages
pub some_pages : {shape : Shape} → IsVolumeShape shape → 1 ≤ shape.pages
some_pages {shape} is = let b : ShapeBounds shape = subst ShapeBounds (sym is.numbers) (bounds shape.blocks shape.pages is.legal) in let least = b.least_pages in omega (arith, least)
