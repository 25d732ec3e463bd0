use Rattle.nl_pagemap.specs.contracts.counts.PagemapCounts.TheImpl.{ghosts}
use Rattle.nl_pagemap_volume.specs.Volume.{Stands}
use Rattle.nl_test_pagemap_volume.proofs.over.created_and_filled.Given as goal

abbrev pub invariant-loop-turn : goal.invariant-loop-turn
invariant-loop-turn g l = Stands (ghosts g.row.M g.M.Nand g.M.Nand-dict) l.volume
