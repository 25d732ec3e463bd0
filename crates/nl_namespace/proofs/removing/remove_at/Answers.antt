use Rattle.std.proofs.Common.{ℕ, List, refl, sym, subst, ◌∙◌, Some, rules}
use Rattle.nl_meta_running.specs.Reading.{ReadsExplainStop}
use Rattle.nl_meta_running.specs.declared.answer.Stop.{Stop}
use Rattle.nl_namespace.specs.Entering.{HasNamed, TakesOut}
use Rattle.nl_namespace.specs.Naming.{refusal_of_record}
use Rattle.nl_namespace.proofs.RemoveDone.{has-named, lost-changes, lost-name, one-of, target-used, with-target}
use Rattle.nl_namespace.proofs.removing.remove_at.Goals as goal

pub node-requires-clause-formed : goal.node-requires-clause-formed
node-requires-clause-formed g c = c.requires.formed

pub node-requires-clause-runs : goal.node-requires-clause-runs
node-requires-clause-runs g c = c.requires.runs

pub node-requires-clause-used : goal.node-requires-clause-used
node-requires-clause-used g c = target-used g.D.Counts c.args.device.now c.args.meta.now (g.met.D.VirtualPages.numbers c.args.device.now c.requires.formed) c.requires.runs c.args.path.now c.args.place.now c.requires.place c.args.entry.now c.requires.there

pub take_out-requires : goal.take_out-requires
take_out-requires g c = subst (λ (x : List ℕ). HasNamed c.args.place.now.dir x c.node.new.meta c.args.nodes.now) (sym c.bytes.ensures.value) (has-named g.D.Counts c.args.device.now c.args.meta.now c.node.new.device c.node.new.meta (g.met.D.VirtualPages.numbers c.args.device.now c.requires.formed) (g.met.D.VirtualPages.numbers c.node.new.device c.in-Ok.ensures.formed) c.requires.runs c.in-Ok.ensures.kept c.args.nodes.now c.requires.free c.args.path.now c.args.place.now c.requires.place c.requires.held c.args.entry.now c.requires.there c.requires.room)

pub returns-in-Some-clause-formed : goal.returns-in-Some-clause-formed
returns-in-Some-clause-formed g c = c.in-Ok.ensures.formed

pub returns-in-Some-clause-answer : goal.returns-in-Some-clause-answer
returns-in-Some-clause-answer g c = (with-target g.D.Counts c.args.device.now c.args.meta.now (g.met.D.VirtualPages.numbers c.args.device.now c.requires.formed) c.requires.runs c.args.path.now c.args.place.now c.requires.place c.args.entry.now c.requires.there c.args.kind c.in-Ok.target c.in-Ok.ensures.node c.requires.short ∙ one-of (refusal_of_record c.args.kind c.in-Ok.target.kind c.in-Ok.target.size) ∙ sym c.refused_target.ensures ∙ c.in-Some.is)

pub returns-in-Some-clause-left : goal.returns-in-Some-clause-left
returns-in-Some-clause-left g c = (c.in-Ok.ensures.kept, refl)

pub returns-in-Some-clause-reads : goal.returns-in-Some-clause-reads
returns-in-Some-clause-reads g c = c.in-Ok.ensures.reads

pub returns-in-None-clause-formed : goal.returns-in-None-clause-formed
returns-in-None-clause-formed g c = c.in-Ok.ensures.formed

pub returns-in-None-clause-answer : goal.returns-in-None-clause-answer
returns-in-None-clause-answer g c = ((with-target g.D.Counts c.args.device.now c.args.meta.now (g.met.D.VirtualPages.numbers c.args.device.now c.requires.formed) c.requires.runs c.args.path.now c.args.place.now c.requires.place c.args.entry.now c.requires.there c.args.kind c.in-Ok.target c.in-Ok.ensures.node c.requires.short ∙ one-of (refusal_of_record c.args.kind c.in-Ok.target.kind c.in-Ok.target.size) ∙ sym c.refused_target.ensures ∙ c.in-None.is), (c.args.entry.now.ino, refl, lost-name g.D.Counts c.args.device.now c.args.meta.now c.node.new.device c.node.new.meta (g.met.D.VirtualPages.numbers c.args.device.now c.requires.formed) (g.met.D.VirtualPages.numbers c.node.new.device c.in-Ok.ensures.formed) c.requires.runs c.in-Ok.ensures.kept c.args.nodes.now c.requires.free c.args.path.now c.args.place.now c.requires.place c.requires.held c.args.entry.now c.requires.there c.in-Ok.target c.in-Ok.ensures.node c.args.kind c.requires.used (sym c.refused_target.ensures ∙ c.in-None.is) c.take_out.new.meta c.take_out.new.nodes (subst (λ (x : List ℕ). TakesOut c.args.place.now.dir x c.node.new.meta c.take_out.new.meta c.args.nodes.now c.take_out.new.nodes) c.bytes.ensures.value c.take_out.ensures)))

pub returns-in-None-clause-left : goal.returns-in-None-clause-left
returns-in-None-clause-left g c = lost-changes g.D.Counts c.args.device.now c.args.meta.now c.node.new.device c.node.new.meta (g.met.D.VirtualPages.numbers c.args.device.now c.requires.formed) (g.met.D.VirtualPages.numbers c.node.new.device c.in-Ok.ensures.formed) c.requires.runs c.in-Ok.ensures.kept c.args.nodes.now c.requires.free c.args.path.now c.args.place.now c.requires.place c.requires.held c.args.entry.now c.requires.there c.in-Ok.target c.in-Ok.ensures.node c.args.kind c.requires.used (sym c.refused_target.ensures ∙ c.in-None.is) c.take_out.new.meta c.take_out.new.nodes (subst (λ (x : List ℕ). TakesOut c.args.place.now.dir x c.node.new.meta c.take_out.new.meta c.args.nodes.now c.take_out.new.nodes) c.bytes.ensures.value c.take_out.ensures)

pub returns-in-None-clause-reads : goal.returns-in-None-clause-reads
returns-in-None-clause-reads g c = c.in-Ok.ensures.reads

pub returns-in-Err-Fault-clause-formed : goal.returns-in-Err-Fault-clause-formed
returns-in-Err-Fault-clause-formed g c = c.in-Err-Fault.ensures.formed

pub returns-in-Err-Fault-clause-left : goal.returns-in-Err-Fault-clause-left
returns-in-Err-Fault-clause-left g c = (c.in-Err-Fault.ensures.kept, refl)

pub returns-in-Err-Lost-clause-formed : goal.returns-in-Err-Lost-clause-formed
returns-in-Err-Lost-clause-formed g c = c.in-Err-Lost.ensures.formed

pub returns-in-Err-Lost-clause-left : goal.returns-in-Err-Lost-clause-left
returns-in-Err-Lost-clause-left g c = (c.in-Err-Lost.ensures.kept, refl)

pub returns-in-Err-Fault-clause-reads : goal.returns-in-Err-Fault-clause-reads
returns-in-Err-Fault-clause-reads g c = subst (λ (x : Stop). ReadsExplainStop g.D.Counts c.args.device.now c.node.new.device (Some x)) c.in-Err-Fault.field-0-is c.in-Err-Fault.ensures.reads

pub returns-in-Err-Lost-clause-reads : goal.returns-in-Err-Lost-clause-reads
returns-in-Err-Lost-clause-reads g c = search rules
