use Rattle.std.proofs.Common.{◌∙◌, ap}
use Rattle.nl_field.specs.declared.shape.Shape.{Shape}
use Rattle.nl_nand.specs.Memory.{geometry_of}
use Rattle.nl_test_pagemap.proofs.Least.{fits_medium, has_addresses, is_volume}
use Rattle.nl_test_pagemap.proofs.rows.made.Goals as goal

pub make-requires-clause-volume : goal.make-requires-clause-volume
make-requires-clause-volume c = is_volume c.in_ok-shape.shape c.in_ok-shape.ensures.numbers

pub make-requires-clause-geometry : goal.make-requires-clause-geometry
make-requires-clause-geometry c = fits_medium c.in_ok-shape.shape (geometry_of c.args.media) c.in_ok-shape.ensures.numbers c.requires.numbers

pub returns-in-Ok : goal.returns-in-Ok
returns-in-Ok c = record {
  formed = c.in-Ok.ensures.formed;
  addresses = ap (λ (s : Shape). s.vaddrs) c.in-Ok.ensures.fresh.same_shape ∙ has_addresses c.in_ok-shape.shape c.in_ok-shape.ensures.numbers;
  spare = c.in-Ok.ensures.fresh.spare;
}
