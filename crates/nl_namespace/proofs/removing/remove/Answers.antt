use Rattle.std.proofs.Common.{ℕ, List, length, refl, sym, ap, subst, ◌∙◌, Some, is_none, true, false, arith, rules}
use Rattle.nl_field.specs.Graph.{Graph}
use Rattle.nl_meta.specs.Nodes.{graph_of}
use Rattle.nl_meta.specs.Pages.{besides_0}
use Rattle.nl_tree.specs.Represents.{node_reached}
use Rattle.nl_tree.specs.Step.{is_too_long}
use Rattle.nl_tree.specs.Tree.{is_root}
use Rattle.nl_tree.specs.declared.reply.Refusal.{Refusal}
use Rattle.nl_meta_running.specs.Reading.{ReadsExplainStop}
use Rattle.nl_meta_running.specs.Running.{running_on}
use Rattle.nl_meta_running.specs.declared.answer.Stop.{Stop}
use Rattle.nl_meta_running.proofs.Holds.{none-runs}
use Rattle.nl_namespace.specs.Naming.{RemovesName, body_at, refusal_of_kind}
use Rattle.nl_namespace.specs.Paths.{walk_refusal}
use Rattle.nl_namespace.specs.Placing.{IfHeld, IsNameSpot}
use Rattle.nl_namespace.specs.Reading.{change_stop}
use Rattle.nl_namespace.proofs.Chains.{then-graph, then-reads, then-runs}
use Rattle.nl_namespace.proofs.MakeDone.{empty-path, held-then, not-empty-root}
use Rattle.nl_namespace.proofs.MakeReady.{fits-then, leaves-after, placed-then}
use Rattle.nl_namespace.proofs.RemoveDone.{no-target, removal-is}
use Rattle.nl_namespace.proofs.removing.remove.Goals as goal

pub returns-then-is_long-clause-formed : goal.returns-then-is_long-clause-formed
returns-then-is_long-clause-formed g c = c.requires.formed

pub returns-then-is_long-clause-answer : goal.returns-then-is_long-clause-answer
returns-then-is_long-clause-answer g c = removal-is c.args.kind (graph_of (g.D.Counts.shape c.args.device.now) (running_on g.D.Counts c.args.device.now c.args.meta.now)) c.args.path.now true (is_root c.args.path.now) (is_none (node_reached (graph_of (g.D.Counts.shape c.args.device.now) (running_on g.D.Counts c.args.device.now c.args.meta.now)) 0 c.args.path.now)) (walk_refusal (graph_of (g.D.Counts.shape c.args.device.now) (running_on g.D.Counts c.args.device.now c.args.meta.now)) 0 c.args.path.now) (refusal_of_kind c.args.kind (body_at (graph_of (g.D.Counts.shape c.args.device.now) (running_on g.D.Counts c.args.device.now c.args.meta.now)) c.args.path.now)) (ap is_too_long (sym c.names.ensures) ∙ sym c.is_long.ensures ∙ c.if-is_long.true) refl refl refl refl

pub returns-then-is_long-clause-left : goal.returns-then-is_long-clause-left
returns-then-is_long-clause-left g c = (none-runs g.D.Counts c.args.device.now c.args.meta.now c.requires.runs, refl)

pub returns-then-is_long-clause-reads : goal.returns-then-is_long-clause-reads
returns-then-is_long-clause-reads g c = refl

pub returns-then-len-eq0-clause-formed : goal.returns-then-len-eq0-clause-formed
returns-then-len-eq0-clause-formed g c = c.requires.formed

pub returns-then-len-eq0-clause-answer : goal.returns-then-len-eq0-clause-answer
returns-then-len-eq0-clause-answer g c = removal-is c.args.kind (graph_of (g.D.Counts.shape c.args.device.now) (running_on g.D.Counts c.args.device.now c.args.meta.now)) c.args.path.now false true (is_none (node_reached (graph_of (g.D.Counts.shape c.args.device.now) (running_on g.D.Counts c.args.device.now c.args.meta.now)) 0 c.args.path.now)) (walk_refusal (graph_of (g.D.Counts.shape c.args.device.now) (running_on g.D.Counts c.args.device.now c.args.meta.now)) 0 c.args.path.now) (refusal_of_kind c.args.kind (body_at (graph_of (g.D.Counts.shape c.args.device.now) (running_on g.D.Counts c.args.device.now c.args.meta.now)) c.args.path.now)) (ap is_too_long (sym c.names.ensures) ∙ sym c.is_long.ensures ∙ c.if-is_long.false) (ap is_root (empty-path c.args.path.now (sym c.len.ensures.count ∙ c.if-len-eq0.true))) refl refl refl ∙ ap (λ (r : Refusal). Some r) (sym c.refused_root.ensures)

pub returns-then-len-eq0-clause-left : goal.returns-then-len-eq0-clause-left
returns-then-len-eq0-clause-left g c = (none-runs g.D.Counts c.args.device.now c.args.meta.now c.requires.runs, refl)

pub returns-then-len-eq0-clause-reads : goal.returns-then-len-eq0-clause-reads
returns-then-len-eq0-clause-reads g c = refl

pub locate-requires-clause-formed : goal.locate-requires-clause-formed
locate-requires-clause-formed g c = c.requires.formed

pub locate-requires-clause-runs : goal.locate-requires-clause-runs
locate-requires-clause-runs g c = c.requires.runs

pub locate-requires-clause-not_root : goal.locate-requires-clause-not_root
locate-requires-clause-not_root g c = (λ e. c.if-len-eq0.false (c.len.ensures.count ∙ ap length e))

pub remove_at-requires-clause-formed : goal.remove_at-requires-clause-formed
remove_at-requires-clause-formed g c = c.in-Ok-At.ensures.formed

pub remove_at-requires-clause-runs : goal.remove_at-requires-clause-runs
remove_at-requires-clause-runs g c = then-runs g.D.Counts c.args.device.now c.args.meta.now c.locate.new.device c.locate.new.meta (g.met.D.VirtualPages.numbers c.args.device.now c.requires.formed) c.in-Ok-At.ensures.kept c.requires.runs

pub remove_at-requires-clause-free : goal.remove_at-requires-clause-free
remove_at-requires-clause-free g c = fits-then g.D.Counts c.args.device.now c.args.meta.now c.locate.new.device c.locate.new.meta (g.met.D.VirtualPages.numbers c.args.device.now c.requires.formed) c.in-Ok-At.ensures.kept c.args.nodes.now c.requires.free

pub remove_at-requires-clause-room : goal.remove_at-requires-clause-room
remove_at-requires-clause-room g c = let e = ap (λ (ds : List ℕ). length (besides_0 ds)) c.in-Ok-At.ensures.kept.dirty in let r = c.requires.room in omega (arith, e, r)

pub remove_at-requires-clause-place : goal.remove_at-requires-clause-place
remove_at-requires-clause-place g c = placed-then g.D.Counts c.args.device.now c.args.meta.now (g.met.D.VirtualPages.numbers c.args.device.now c.requires.formed) c.requires.runs c.args.path.now c.in-Ok-At.place (subst (IsNameSpot g.D.Counts c.args.device.now c.args.meta.now c.args.path.now) c.in-Ok-At.field-0-is c.in-Ok-At.ensures.spot) c.locate.new.device c.locate.new.meta c.in-Ok-At.ensures.kept

pub remove_at-requires-clause-held : goal.remove_at-requires-clause-held
remove_at-requires-clause-held g c = let at = (subst (IsNameSpot g.D.Counts c.args.device.now c.args.meta.now c.args.path.now) c.in-Ok-At.field-0-is c.in-Ok-At.ensures.spot) in held-then g.D.Counts c.args.device.now c.args.meta.now c.locate.new.device c.locate.new.meta (g.met.D.VirtualPages.numbers c.args.device.now c.requires.formed) c.in-Ok-At.ensures.kept c.in-Ok-At.place.dir c.in-Ok-At.place.rec at.is_node at.is_dir (subst (IfHeld g.D.Counts c.args.device.now c.args.meta.now c.locate.new.meta) c.in-Ok-At.field-0-is c.in-Ok-At.ensures.held)

pub remove_at-requires-clause-there : goal.remove_at-requires-clause-there
remove_at-requires-clause-there g c = c.in-Some.is

pub remove_at-requires-clause-short : goal.remove_at-requires-clause-short
remove_at-requires-clause-short g c = (ap is_too_long (sym c.names.ensures) ∙ sym c.is_long.ensures ∙ c.if-is_long.false)

pub remove_at-requires-clause-used : goal.remove_at-requires-clause-used
remove_at-requires-clause-used g c = c.requires.used

pub returns-in-Some-clause-formed : goal.returns-in-Some-clause-formed
returns-in-Some-clause-formed g c = c.remove_at.ensures.formed

pub returns-in-Some-clause-answer : goal.returns-in-Some-clause-answer
returns-in-Some-clause-answer g c = subst (λ (z : Graph). RemovesName c.args.kind z (graph_of (g.D.Counts.shape c.remove_at.new.device) (running_on g.D.Counts c.remove_at.new.device c.remove_at.new.meta)) c.args.path.now c.remove_at.result) (then-graph g.D.Counts c.args.device.now c.args.meta.now c.locate.new.device c.locate.new.meta (g.met.D.VirtualPages.numbers c.args.device.now c.requires.formed) c.in-Ok-At.ensures.kept) c.remove_at.ensures.answer

pub returns-in-Some-clause-left : goal.returns-in-Some-clause-left
returns-in-Some-clause-left g c = leaves-after g.D.Counts c.args.device.now c.args.meta.now c.locate.new.device c.locate.new.meta (g.met.D.VirtualPages.numbers c.args.device.now c.requires.formed) c.in-Ok-At.ensures.kept c.remove_at.new.device c.remove_at.new.meta c.args.nodes.now c.remove_at.new.nodes c.remove_at.result c.remove_at.ensures.left

pub returns-in-Some-clause-reads : goal.returns-in-Some-clause-reads
returns-in-Some-clause-reads g c = then-reads g.D.Counts c.args.device.now c.args.meta.now c.locate.new.device c.locate.new.meta (g.met.D.VirtualPages.numbers c.args.device.now c.requires.formed) c.in-Ok-At.ensures.kept c.remove_at.new.device (change_stop c.remove_at.result) c.in-Ok-At.ensures.reads c.remove_at.ensures.reads

pub returns-in-None-clause-formed : goal.returns-in-None-clause-formed
returns-in-None-clause-formed g c = c.in-Ok-At.ensures.formed

pub returns-in-None-clause-answer : goal.returns-in-None-clause-answer
returns-in-None-clause-answer g c = no-target g.D.Counts c.args.device.now c.args.meta.now (g.met.D.VirtualPages.numbers c.args.device.now c.requires.formed) c.requires.runs c.args.path.now c.in-Ok-At.place (subst (IsNameSpot g.D.Counts c.args.device.now c.args.meta.now c.args.path.now) c.in-Ok-At.field-0-is c.in-Ok-At.ensures.spot) c.args.kind c.in-None.is (ap is_too_long (sym c.names.ensures) ∙ sym c.is_long.ensures ∙ c.if-is_long.false)

pub returns-in-None-clause-left : goal.returns-in-None-clause-left
returns-in-None-clause-left g c = (c.in-Ok-At.ensures.kept, refl)

pub returns-in-None-clause-reads : goal.returns-in-None-clause-reads
returns-in-None-clause-reads g c = c.in-Ok-At.ensures.reads

pub returns-in-Ok-No-clause-formed : goal.returns-in-Ok-No-clause-formed
returns-in-Ok-No-clause-formed g c = c.in-Ok-No.ensures.formed

pub returns-in-Ok-No-clause-answer : goal.returns-in-Ok-No-clause-answer
returns-in-Ok-No-clause-answer g c = removal-is c.args.kind (graph_of (g.D.Counts.shape c.args.device.now) (running_on g.D.Counts c.args.device.now c.args.meta.now)) c.args.path.now false false (is_none (node_reached (graph_of (g.D.Counts.shape c.args.device.now) (running_on g.D.Counts c.args.device.now c.args.meta.now)) 0 c.args.path.now)) (Some c.in-Ok-No.refusal) (refusal_of_kind c.args.kind (body_at (graph_of (g.D.Counts.shape c.args.device.now) (running_on g.D.Counts c.args.device.now c.args.meta.now)) c.args.path.now)) (ap is_too_long (sym c.names.ensures) ∙ sym c.is_long.ensures ∙ c.if-is_long.false) (not-empty-root c.args.path.now (λ e. c.if-len-eq0.false (c.len.ensures.count ∙ ap length e))) (subst (IsNameSpot g.D.Counts c.args.device.now c.args.meta.now c.args.path.now) c.in-Ok-No.field-0-is c.in-Ok-No.ensures.spot) refl refl

pub returns-in-Ok-No-clause-left : goal.returns-in-Ok-No-clause-left
returns-in-Ok-No-clause-left g c = (c.in-Ok-No.ensures.kept, refl)

pub returns-in-Ok-No-clause-reads : goal.returns-in-Ok-No-clause-reads
returns-in-Ok-No-clause-reads g c = c.in-Ok-No.ensures.reads

pub returns-in-Err-Fault-clause-formed : goal.returns-in-Err-Fault-clause-formed
returns-in-Err-Fault-clause-formed g c = c.in-Err-Fault.ensures.formed

pub returns-in-Err-Fault-clause-left : goal.returns-in-Err-Fault-clause-left
returns-in-Err-Fault-clause-left g c = (c.in-Err-Fault.ensures.kept, refl)

pub returns-in-Err-Lost-clause-formed : goal.returns-in-Err-Lost-clause-formed
returns-in-Err-Lost-clause-formed g c = c.in-Err-Lost.ensures.formed

pub returns-in-Err-Lost-clause-left : goal.returns-in-Err-Lost-clause-left
returns-in-Err-Lost-clause-left g c = (c.in-Err-Lost.ensures.kept, refl)

pub returns-in-Err-Fault-clause-reads : goal.returns-in-Err-Fault-clause-reads
returns-in-Err-Fault-clause-reads g c = subst (λ (x : Stop). ReadsExplainStop g.D.Counts c.args.device.now c.locate.new.device (Some x)) c.in-Err-Fault.field-0-is c.in-Err-Fault.ensures.reads

pub returns-in-Err-Lost-clause-reads : goal.returns-in-Err-Lost-clause-reads
returns-in-Err-Lost-clause-reads g c = search rules
