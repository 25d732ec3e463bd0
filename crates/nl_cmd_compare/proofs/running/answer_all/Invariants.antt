use Rattle.std.proofs.Common.{[], map, take}
use Rattle.nl_field.specs.declared.shape.Shape.{Shape}
use Rattle.nl_pagemap.specs.contracts.counts.PagemapCounts.TheImpl.{ghosts as mapped}
use Rattle.nl_tree.specs.declared.call.Line.{Line}
use Rattle.nl_volume.specs.contracts.volume.VolumeKept.TheImpl.{ghosts as kept}
use Rattle.nl_cmd_compare.specs.Both.{IsComparison}
use Rattle.nl_cmd_compare.proofs.running.answer_all.Given as goal

abbrev pub invariant-lines : goal.invariant-lines
invariant-lines g l =
    (shape : Shape)
    → IsComparison (kept g.row.M g.M.Nand g.M.Nand-dict).stands (mapped g.row.M g.M.Nand g.M.Nand-dict) g.M.Nand.tells shape [] l.initial.both
    → IsComparison (kept g.row.M g.M.Nand g.M.Nand-dict).stands (mapped g.row.M g.M.Nand g.M.Nand-dict) g.M.Nand.tells shape
    (map (λ (x : Line). x.call) (take l.at l.lines)) l.both
