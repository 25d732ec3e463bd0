use Rattle.std.proofs.Common.{◌∙◌, ◌<◌, length, ap, arith}
use Rattle.nl_field.specs.PointerItems.{PointerItems}
use Rattle.nl_handler.proofs.Renaming.{found-hit, found-miss, renamed-hit, renamed-miss}
use Rattle.nl_handler.proofs.handling.rename_all.Goals as goal
use Rattle.nl_handler.proofs.handling.rename_all.Goals.{then-pointer-stamp, else-pointer-stamp}

pub loop-at-preserved : goal.loop-at-preserved
loop-at-preserved c = elim c.if-pointer-stamp.branch [
  | then-pointer-stamp w ↦
      let same = w.if-pointer-stamp.true in
      let i = c.loop-at.invariant in
      record {
        items = ap (λ (l : PointerItems). l.items) w.list-is ∙ w.set.ensures.items ∙ renamed-hit c.args.stamp c.args.to c.args.list.now.items c.loop-at.list.items c.loop-at.at c.get-pointer.result.now below i.items c.get-pointer.ensures same;
        room = ap (λ (l : PointerItems). l.room) w.list-is ∙ w.set.ensures.room ∙ i.room;
        found = w.found-is ∙ found-hit c.args.stamp c.args.to c.args.list.now.items c.loop-at.list.items c.loop-at.at c.get-pointer.result.now below i.items c.get-pointer.ensures same;
      }
  | else-pointer-stamp w ↦
      let far = w.if-pointer-stamp.false in
      let i = c.loop-at.invariant in
      record {
        items = ap (λ (l : PointerItems). l.items) w.list-is ∙ renamed-miss c.args.stamp c.args.to c.args.list.now.items c.loop-at.list.items c.loop-at.at c.get-pointer.result.now below i.items c.get-pointer.ensures far;
        room = ap (λ (l : PointerItems). l.room) w.list-is ∙ i.room;
        found = w.found-is ∙ i.found ∙ found-miss c.args.stamp c.args.to c.args.list.now.items c.loop-at.list.items c.loop-at.at c.get-pointer.result.now below i.items c.get-pointer.ensures far;
      }
]
  where
    below : c.loop-at.at < length c.args.list.now.items
    below = let t = c.loop-at-test.true in let e = c.loop-at.auto.at-end in let l = c.len-at-end.ensures.count in omega (arith, t, e, l)
