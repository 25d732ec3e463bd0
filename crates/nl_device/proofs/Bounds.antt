-- What the bounds of a shape give to its segments.
use Rattle.std.proofs.Common.{inl, inr, ◌*◌, ◌<◌, ◌≤◌, arith, mul-le-mul_right}
use Rattle.std.proofs.lemmas.Bool.{cases_lt}
use Rattle.nl_field.specs.Numbers.{ShapeBounds}
use Rattle.nl_field.specs.declared.shape.Shape.{Shape}

pub some_pages : {shape : Shape} → ShapeBounds shape → 0 < shape.pages
some_pages is = omega (arith, is.least_pages)

pub two_blocks : {shape : Shape} → ShapeBounds shape → 2 ≤ shape.pblocks
two_blocks {shape} is = elim (cases_lt shape.pblocks 2) [
  | inl few ↦
      let least : shape.pblocks ≤ 1 = omega (arith, few) in
      let le : shape.pblocks * shape.pages ≤ 1 * shape.pages = mul-le-mul_right shape.pages least in
      absurd (omega (arith, le, is.data_pages))
  | inr two ↦ two
]
