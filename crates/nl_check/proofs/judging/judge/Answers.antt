use Rattle.std.proofs.Common.{◌∙◌, sym}
use Rattle.nl_meta.specs.Pages.{page_of}
use Rattle.nl_meta.specs.Walk.{fault_in}
use Rattle.nl_check.proofs.Told.{judges-all, judges-inode, judges-super}
use Rattle.nl_check.proofs.judging.judge.Goals as goal

pub returns-then-is_some : goal.returns-then-is_some
unfolding fault_in
returns-then-is_some c =
    judges-super (fault_in c.args.shape.now (page_of c.args.meta.now) c.args.scan.now.seen) c.none.result c.note.result c.super_fault-at.result c.none.ensures c.super_fault-at.ensures
    (sym c.is_some.ensures ∙ c.if-is_some.true) c.note.ensures.each

pub returns-then-is_some-2 : goal.returns-then-is_some-2
unfolding fault_in
returns-then-is_some-2 c =
    judges-inode (fault_in c.args.shape.now (page_of c.args.meta.now) c.args.scan.now.seen) c.none-2.result c.note-bits.result c.note-then-is_some-2.result
    c.super_fault-at.result c.stamp_fault.result c.inode_fault-at.result c.none-2.ensures c.super_fault-at.ensures (sym c.is_some.ensures ∙ c.if-is_some.false) c.stamp_fault.ensures c.inode_fault-at.ensures
    (sym c.is_some-2.ensures ∙ c.if-is_some-2.true) c.note-bits.ensures.each c.note-then-is_some-2.ensures.each

pub returns : goal.returns
unfolding fault_in
returns c =
    judges-all (fault_in c.args.shape.now (page_of c.args.meta.now) c.args.scan.now.seen) c.none-2.result c.note-bits.result c.in_ok-bits.bits c.in_ok-all.all
    c.super_fault-at.result c.stamp_fault.result c.inode_fault-at.result c.none-2.ensures c.super_fault-at.ensures (sym c.is_some.ensures ∙ c.if-is_some.false) c.stamp_fault.ensures c.inode_fault-at.ensures
    (sym c.is_some-2.ensures ∙ c.if-is_some-2.false) c.note-bits.ensures.each c.note-bits.ensures.none c.in_ok-bits.ensures c.in_ok-all.ensures
