use Rattle.nl_pagemap.specs.contracts.counts.PagemapCounts.TheImpl.{ghosts}
use Rattle.nl_pagemap_volume.proofs.Cleaned.{Room}
use Rattle.nl_pagemap_volume.proofs.cleaning.make_room.Given as goal

abbrev pub invariant-loop-turn : goal.invariant-loop-turn
invariant-loop-turn g l = Room (ghosts g.row.M g.M.Nand g.M.Nand-dict) l.initial.core l.core
