use Rattle.nl_pagemap.specs.contracts.counts.PagemapCounts.TheImpl.{ghosts as mapped}
use Rattle.nl_volume.specs.contracts.volume.VolumeKept.TheImpl.{ghosts as kept}
use Rattle.nl_cmd_compare.specs.Both.{AreFrom}
use Rattle.nl_compare.proofs.running.answer_lines.Given as goal

abbrev pub invariant-loop-at : goal.invariant-loop-at
invariant-loop-at g l = AreFrom (kept g.row.M g.M.Nand g.M.Nand-dict).stands (mapped g.row.M g.M.Nand g.M.Nand-dict) g.M.Nand.tells l.both
