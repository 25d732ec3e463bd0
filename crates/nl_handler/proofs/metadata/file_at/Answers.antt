use Rattle.std.proofs.lemmas.Bool.{both_ways}
use Rattle.nl_meta_running.proofs.Holds.{bounds-of}
use Rattle.nl_handler.proofs.Found.{get-spelled, is-file, is-no-file, node-needed}
use Rattle.nl_handler.proofs.metadata.file_at.Goals as goal

pub hold-requires-clause-needed : goal.hold-requires-clause-needed
hold-requires-clause-needed g c =
    let s = c.args.device.now in
    node-needed g.D.Counts s c.args.meta.now (bounds-of (g.D.Counts.shape s) (g.met.D.VirtualPages.numbers s c.requires.formed)) c.requires.runs c.args.tag.now c.requires.within

pub get-rec-requires-clause-spelled : goal.get-rec-requires-clause-spelled
get-rec-requires-clause-spelled g c =
    let s = c.args.device.now in
    get-spelled g.D.Counts s c.args.meta.now (bounds-of (g.D.Counts.shape s) (g.met.D.VirtualPages.numbers s c.requires.formed)) c.requires.runs c.args.tag.now c.hold.new.device c.hold.new.meta c.in-Ok.ensures.kept c.requires.within c.in-Ok.ensures.there.there

pub returns-then-is_tagged-clause-file : goal.returns-then-is_tagged-clause-file
returns-then-is_tagged-clause-file g c =
    let s = c.args.device.now in
    is-file g.D.Counts s c.args.meta.now (bounds-of (g.D.Counts.shape s) (g.met.D.VirtualPages.numbers s c.requires.formed)) c.requires.runs c.args.tag.now c.hold.new.device c.hold.new.meta c.in-Ok.ensures.kept c.requires.within c.in-Ok.ensures.there.there
    c.get-rec.result c.get-rec.ensures (c.is_tagged.ensures.0 c.if-is_tagged.true)

pub returns-else-is_tagged-clause-file : goal.returns-else-is_tagged-clause-file
returns-else-is_tagged-clause-file g c =
    let s = c.args.device.now in
    is-no-file g.D.Counts s c.args.meta.now (bounds-of (g.D.Counts.shape s) (g.met.D.VirtualPages.numbers s c.requires.formed)) c.requires.runs c.args.tag.now c.hold.new.device c.hold.new.meta c.in-Ok.ensures.kept c.requires.within c.in-Ok.ensures.there.there
    c.get-rec.result c.get-rec.ensures (λ tagged. both_ways c.is_tagged.result (c.if-is_tagged.false) (c.is_tagged.ensures.1 tagged))
