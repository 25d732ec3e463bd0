use Rattle.nl_pagemap.specs.contracts.counts.PagemapCounts.TheImpl.{ghosts}
use Rattle.nl_pagemap_volume.specs.Volume.{Stands}
use Rattle.nl_test_pagemap_volume.proofs.over.filled.Given as goal

abbrev pub invariant-loop-at : goal.invariant-loop-at
invariant-loop-at g l = Stands (ghosts g.row.M g.M.Nand g.M.Nand-dict) l.volume
