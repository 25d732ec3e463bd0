use Rattle.std.proofs.Common.{Some, ◌∙◌, subst}
use Rattle.nl_namespace.specs.Placing.{IfHeld, IsNameSpot}
use Rattle.nl_namespace.proofs.Chains.{node-before, then-on, then-reads, then-runs, then-used}
use Rattle.nl_namespace.proofs.MoveDone.{held-stays}
use Rattle.nl_namespace.proofs.RemoveDone.{target-used}
use Rattle.nl_namespace.proofs.finding.find_node.Goals as goal

pub node-requires-clause-runs : goal.node-requires-clause-runs
node-requires-clause-runs g c = then-runs g.D.Counts c.args.device.now c.args.meta.now c.locate.new.device c.locate.new.meta (g.met.D.VirtualPages.numbers c.args.device.now c.requires.formed) c.in-Ok-At.ensures.kept c.requires.runs

pub node-requires-clause-used : goal.node-requires-clause-used
node-requires-clause-used g c =
    let at = subst (IsNameSpot g.D.Counts c.args.device.now c.args.meta.now c.args.path.now) c.in-Ok-At.field-0-is c.in-Ok-At.ensures.spot in
    then-used g.D.Counts c.args.device.now c.args.meta.now c.locate.new.device c.locate.new.meta (g.met.D.VirtualPages.numbers c.args.device.now c.requires.formed) c.in-Ok-At.ensures.kept c.in-Some.entry.ino
    (target-used g.D.Counts c.args.device.now c.args.meta.now (g.met.D.VirtualPages.numbers c.args.device.now c.requires.formed) c.requires.runs c.args.path.now c.in-Ok-At.place at c.in-Some.entry c.in-Some.is)

pub returns-in-Ok-clause-found : goal.returns-in-Ok-clause-found
returns-in-Ok-clause-found g c =
    let at = subst (IsNameSpot g.D.Counts c.args.device.now c.args.meta.now c.args.path.now) c.in-Ok-At.field-0-is c.in-Ok-At.ensures.spot in
    record {
      place = record { name = at.name; named = at.named; walked = at.walked; is_node = at.is_node; is_dir = at.is_dir; entry = at.entry ∙ c.in-Some.is };
      is_node = node-before g.D.Counts c.args.device.now c.args.meta.now c.locate.new.device c.locate.new.meta (g.met.D.VirtualPages.numbers c.args.device.now c.requires.formed) c.in-Ok-At.ensures.kept c.in-Some.entry.ino c.in-Ok.node c.in-Ok.ensures.node;
    }

pub returns-in-Ok-clause-held : goal.returns-in-Ok-clause-held
returns-in-Ok-clause-held g c =
    held-stays g.D.Counts c.args.device.now c.args.meta.now c.locate.new.meta c.locate.new.device c.node.new.device c.node.new.meta c.in-Ok.ensures.kept c.in-Ok-At.place.dir c.in-Ok-At.place.rec
    (subst (IfHeld g.D.Counts c.args.device.now c.args.meta.now c.locate.new.meta) c.in-Ok-At.field-0-is c.in-Ok-At.ensures.held)

pub returns-in-Ok-clause-kept : goal.returns-in-Ok-clause-kept
returns-in-Ok-clause-kept g c =
    then-on g.D.Counts c.args.device.now c.args.meta.now c.locate.new.device c.locate.new.meta (g.met.D.VirtualPages.numbers c.args.device.now c.requires.formed) c.in-Ok-At.ensures.kept c.node.new.device c.node.new.meta c.in-Ok.ensures.kept

pub returns-in-Err-node-clause-kept : goal.returns-in-Err-node-clause-kept
returns-in-Err-node-clause-kept g c =
    then-on g.D.Counts c.args.device.now c.args.meta.now c.locate.new.device c.locate.new.meta (g.met.D.VirtualPages.numbers c.args.device.now c.requires.formed) c.in-Ok-At.ensures.kept c.node.new.device c.node.new.meta c.in-Err-node.ensures.kept

pub locate-requires-clause-formed : goal.locate-requires-clause-formed
locate-requires-clause-formed g c = c.requires.formed

pub locate-requires-clause-runs : goal.locate-requires-clause-runs
locate-requires-clause-runs g c = c.requires.runs

pub locate-requires-clause-not_root : goal.locate-requires-clause-not_root
locate-requires-clause-not_root g c = c.requires.not_root

pub node-requires-clause-formed : goal.node-requires-clause-formed
node-requires-clause-formed g c = c.in-Ok-At.ensures.formed

pub returns-in-Ok-clause-formed : goal.returns-in-Ok-clause-formed
returns-in-Ok-clause-formed g c = c.in-Ok.ensures.formed

pub returns-in-Ok-clause-reads : goal.returns-in-Ok-clause-reads
returns-in-Ok-clause-reads g c = c.in-Ok.ensures.reads ∙ c.in-Ok-At.ensures.reads

pub returns-in-Err-node-clause-formed : goal.returns-in-Err-node-clause-formed
returns-in-Err-node-clause-formed g c = c.in-Err-node.ensures.formed

pub returns-in-Err-node-clause-reads : goal.returns-in-Err-node-clause-reads
returns-in-Err-node-clause-reads g c =
    then-reads g.D.Counts c.args.device.now c.args.meta.now c.locate.new.device c.locate.new.meta (g.met.D.VirtualPages.numbers c.args.device.now c.requires.formed) c.in-Ok-At.ensures.kept c.node.new.device (Some c.in-Err-node.stop) c.in-Ok-At.ensures.reads c.in-Err-node.ensures.reads
