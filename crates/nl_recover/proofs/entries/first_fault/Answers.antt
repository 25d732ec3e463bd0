use Rattle.std.proofs.Common.{arith}
use Rattle.nl_meta.specs.Pages.{page_of}
use Rattle.nl_recover.specs.Entries.{named_by}
use Rattle.nl_recover.proofs.EntryFacts.{passed-all, passed-more, passed-none, passed-stops}
use Rattle.nl_recover.proofs.entries.first_fault.Goals as goal

pub loop-ino-init : goal.loop-ino-init
loop-ino-init c = passed-none c.args.shape.now (page_of c.args.meta.now) c.args.nodes.now.items c.requires.size c.requires.none

pub loop-ino-preserved : goal.loop-ino-preserved
loop-ino-preserved c =
    passed-more c.args.shape.now (page_of c.args.meta.now) c.loop-ino.ino c.loop-ino.nodes.items c.node_fault.new.nodes.items c.node_fault.new.names.items c.loop-ino.invariant (rw c.in-Ok-None.field-0-is at c.in-Ok-None.ensures.passes)

pub returns-in-Ok-Some : goal.returns-in-Ok-Some
returns-in-Ok-Some c =
    passed-stops c.args.shape.now (page_of c.args.meta.now) c.loop-ino.ino c.in-Ok-Some.dir c.loop-ino.nodes.items (named_by c.node_fault.new.nodes.items c.node_fault.new.names.items) c.loop-ino-test.true c.loop-ino.invariant
    (rw c.in-Ok-Some.field-0-is at c.in-Ok-Some.ensures.passes)

pub returns : goal.returns
returns c =
    let past = c.loop-ino-test.false in
    let most = c.loop-ino.auto.ino-end in
    passed-all c.args.shape.now (page_of c.args.meta.now) c.loop-ino.ino c.loop-ino.nodes.items (omega (arith, past, most)) c.loop-ino.invariant
