use Rattle.std.proofs.Common.{◌≡◌, ◌∙◌, ◌++◌, ◌∷◌, [], List, ap, map, not, subst, suc, sym, take, arith}
use Rattle.nl_field.specs.declared.shape.Shape.{Shape}
use Rattle.nl_pagemap.specs.contracts.counts.PagemapCounts.TheImpl.{ghosts as mapped}
use Rattle.nl_tree.specs.declared.call.Call.{Call}
use Rattle.nl_tree.specs.declared.call.Line.{Line}
use Rattle.nl_volume.specs.contracts.volume.VolumeKept.TheImpl.{ghosts as kept}
use Rattle.nl_cmd_compare.specs.Both.{IsComparison}
use Rattle.nl_cmd_compare.proofs.Lines.{all_calls, calls_on, if_there}
use Rattle.nl_cmd_compare.proofs.running.answer_all.Goals as goal

pub step-requires-clause-compares : goal.step-requires-clause-compares
step-requires-clause-compares g c =
    let shape = c.requires.new.0 in
    (shape, map (λ (x : Line). x.call) (take c.lines.at c.args.lines.now), c.lines.invariant shape c.requires.new.1)

pub lines-preserved : goal.lines-preserved
lines-preserved g c = λ shape is.
    let V = kept g.row.M g.M.Nand g.M.Nand-dict in
    let G = mapped g.row.M g.M.Nand g.M.Nand-dict in
    let line = c.get.result.now in
    let before = map (λ (x : Line). x.call) (take c.lines.at c.args.lines.now) in
    let goes_on = if_there c.step.result
    ((shape : Shape) (calls : List Call) → IsComparison V.stands G g.M.Nand.tells shape calls c.lines.both → IsComparison V.stands G g.M.Nand.tells shape (calls ++ line.call ∷ []) c.step.new.self)
    (c.is_none.ensures ∙ ap not c.if-is_none.false) c.step.ensures.goes_on in
    subst (λ (calls : List Call). IsComparison V.stands G g.M.Nand.tells shape calls c.step.new.self)
    (sym (calls_on c.args.lines.now c.lines.at line c.get.ensures.line))
    (goes_on shape before (c.lines.invariant shape is))

pub returns : goal.returns
returns g c = λ _ shape is.
    let V = kept g.row.M g.M.Nand g.M.Nand-dict in
    let G = mapped g.row.M g.M.Nand g.M.Nand-dict in
    let low = c.lines.auto.at-end in
    let end = c.lines-test.false in
    let count = c.len-at-end.ensures.count in
    subst (λ (calls : List Call). IsComparison V.stands G g.M.Nand.tells shape calls c.lines.both)
    (all_calls c.args.lines.now c.lines.at (omega (arith, low, end, count)))
    (c.lines.invariant shape is)
