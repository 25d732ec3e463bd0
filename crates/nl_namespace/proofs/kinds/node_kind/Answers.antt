use Rattle.std.proofs.Common.{sym, ◌∙◌, inl, arith}
use Rattle.nl_meta.specs.Pages.{page_of}
use Rattle.nl_meta_running.proofs.Holds.{bounds-of}
use Rattle.nl_meta_running.proofs.Kept.{inode-resident}
use Rattle.nl_meta_running.proofs.SameNeeded.{inode-address}
use Rattle.nl_namespace.proofs.NodeKinds.{kind-there}
use Rattle.nl_namespace.proofs.kinds.node_kind.Goals as goal

pub hold-requires-clause-needed : goal.hold-requires-clause-needed
hold-requires-clause-needed g c =
    let b = bounds-of (g.D.Counts.shape c.args.device.now) (g.met.D.VirtualPages.numbers c.args.device.now c.requires.formed) in
    let f = b.places in
    let h = c.requires.used.1.below in
    inl (inode-address (g.D.Counts.shape c.args.device.now) c.args.ino (omega (arith, f, h)))

pub returns-in-Ok-clause-kind : goal.returns-in-Ok-clause-kind
returns-in-Ok-clause-kind g c =
    let b = bounds-of (g.D.Counts.shape c.args.device.now) (g.met.D.VirtualPages.numbers c.args.device.now c.requires.formed) in
    let used = c.requires.used.1 in
    let spelled = inode-resident g.D.Counts c.args.device.now c.args.meta.now c.hold.new.device c.hold.new.meta b c.in-Ok.ensures.kept c.args.ino used.below c.in-Ok.ensures.there.there ∙ used.spelled in
    (c.requires.used.0, used, kind-there (page_of c.hold.new.meta) c.args.ino c.page.result.now.main c.requires.used.0 c.page.ensures spelled ∙ sym c.slot_kind.ensures)
