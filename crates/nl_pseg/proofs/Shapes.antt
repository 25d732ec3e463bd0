-- What the bounds of a shape give to a segment.
use Rattle.std.proofs.Common.{◌≡◌, inl, inr, ◌*◌, ◌^◌, ◌<◌, ◌≤◌, IsTrue, arith, mul-le-mul_right, subst, sym}
use Rattle.std.proofs.lemmas.Bool.{cases_lt}
use Rattle.nl_field.specs.Numbers.{ShapeBounds, is_legal, shape_for}
use Rattle.nl_field.specs.declared.shape.Shape.{Shape}
use Rattle.nl_field.proofs.Bounds.{bounds}

pub legal_bounds : (shape : Shape) → IsTrue (is_legal shape.blocks shape.pages) → shape ≡ shape_for shape.blocks shape.pages → ShapeBounds shape
legal_bounds shape legal is = subst ShapeBounds (sym is) (bounds shape.blocks shape.pages legal)

pub some_pages : {shape : Shape} → ShapeBounds shape → 0 < shape.pages
some_pages is = omega (arith, is.least_pages)

pub few_pages : {shape : Shape} → ShapeBounds shape → shape.blocks * shape.pages < 2 ^ 32
few_pages is = omega (arith, is.all_pages)

pub two_blocks : {shape : Shape} → ShapeBounds shape → 2 ≤ shape.pblocks
two_blocks {shape} is = elim (cases_lt shape.pblocks 2) [
  | inl few ↦
      let least : shape.pblocks ≤ 1 = omega (arith, few) in
      let le : shape.pblocks * shape.pages ≤ 1 * shape.pages = mul-le-mul_right shape.pages least in
      absurd (omega (arith, le, is.data_pages))
  | inr two ↦ two
]
