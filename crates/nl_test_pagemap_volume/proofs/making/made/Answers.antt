use Rattle.nl_nand.specs.Memory.{geometry_of}
use Rattle.nl_test_pagemap.proofs.Least.{fits_medium, is_volume}
use Rattle.nl_test_pagemap_volume.proofs.making.made.Goals as goal

pub make-requires-clause-volume : goal.make-requires-clause-volume
make-requires-clause-volume c = is_volume c.in_ok-shape.shape c.in_ok-shape.ensures.numbers

pub make-requires-clause-geometry : goal.make-requires-clause-geometry
make-requires-clause-geometry c = fits_medium c.in_ok-shape.shape (geometry_of c.in_ok-media.media) c.in_ok-shape.ensures.numbers c.in_ok-media.ensures.numbers
