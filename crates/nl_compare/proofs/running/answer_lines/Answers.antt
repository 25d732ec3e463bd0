use Rattle.std.proofs.Common.{◌≡◌, ◌∙◌, ◌++◌, ◌∷◌, [], List, ap, not}
use Rattle.nl_field.specs.declared.shape.Shape.{Shape}
use Rattle.nl_pagemap.specs.contracts.counts.PagemapCounts.TheImpl.{ghosts as mapped}
use Rattle.nl_tree.specs.declared.call.Call.{Call}
use Rattle.nl_volume.specs.contracts.volume.VolumeKept.TheImpl.{ghosts as kept}
use Rattle.nl_cmd_compare.specs.Both.{IsComparison}
use Rattle.nl_cmd_compare.proofs.Lines.{if_there}
use Rattle.nl_compare.proofs.running.answer_lines.Goals as goal

pub step-requires-clause-compares : goal.step-requires-clause-compares
step-requires-clause-compares g c = c.loop-at.invariant

pub loop-at-preserved : goal.loop-at-preserved
loop-at-preserved g c =
    let V = kept g.row.M g.M.Nand g.M.Nand-dict in
    let G = mapped g.row.M g.M.Nand g.M.Nand-dict in
    let call = c.get.result.now.call in
    let from = c.loop-at.invariant in
    let goes_on = if_there c.step.result
    ((shape : Shape) (calls : List Call) → IsComparison V.stands G g.M.Nand.tells shape calls c.loop-at.both → IsComparison V.stands G g.M.Nand.tells shape (calls ++ call ∷ []) c.step.new.self)
    (c.is_none.ensures ∙ ap not c.if-is_none.false) c.step.ensures.goes_on in
    (from.0, from.1 ++ call ∷ [], goes_on from.0 from.1 from.2)
