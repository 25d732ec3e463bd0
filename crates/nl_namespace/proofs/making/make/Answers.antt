use Rattle.std.proofs.Common.{◌≡◌, ℕ, ◌-◌, List, length, refl, sym, ap, subst, ◌∙◌, Some, None, is_some, inl, true, false, arith, rules}
use Rattle.std.specs.Prelude.{slice_get}
use Rattle.nl_field.specs.Graph.{Graph}
use Rattle.nl_meta.specs.Nodes.{graph_of}
use Rattle.nl_meta.specs.Pages.{besides_0}
use Rattle.nl_tree.specs.Represents.{node_reached}
use Rattle.nl_tree.specs.Step.{is_too_long}
use Rattle.nl_tree.specs.Tree.{is_root}
use Rattle.nl_meta_running.specs.Reading.{ReadsExplainStop}
use Rattle.nl_meta_running.specs.Running.{running_on}
use Rattle.nl_meta_running.specs.declared.answer.Stop.{Stop}
use Rattle.nl_meta_running.proofs.Holds.{none-runs}
use Rattle.nl_namespace.specs.Making.{empty_node}
use Rattle.nl_namespace.specs.Naming.{refusal_of_name}
use Rattle.nl_namespace.specs.Paths.{walk_refusal}
use Rattle.nl_namespace.specs.Placing.{IfHeld, IsNameSpot}
use Rattle.nl_namespace.specs.Reading.{change_stop}
use Rattle.nl_namespace.proofs.Chains.{then-graph, then-reads, then-runs}
use Rattle.nl_namespace.proofs.MakeDone.{empty-path, held-then, last-is-name, not-empty-root}
use Rattle.nl_namespace.proofs.MakeReady.{exists, fits-then, leaves-after, makes-after, placed-then, refusal-is, unrefused}
use Rattle.nl_namespace.proofs.making.make.Goals as goal

pub returns-then-is_long-clause-formed : goal.returns-then-is_long-clause-formed
returns-then-is_long-clause-formed g c = c.requires.formed

pub returns-then-is_long-clause-answer : goal.returns-then-is_long-clause-answer
returns-then-is_long-clause-answer g c =
    inl (refusal-is (graph_of (g.D.Counts.shape c.args.device.now) (running_on g.D.Counts c.args.device.now c.args.meta.now)) c.args.path.now true (is_root c.args.path.now) (is_some (node_reached (graph_of (g.D.Counts.shape c.args.device.now) (running_on g.D.Counts c.args.device.now c.args.meta.now)) 0 c.args.path.now)) (walk_refusal (graph_of (g.D.Counts.shape c.args.device.now) (running_on g.D.Counts c.args.device.now c.args.meta.now)) 0 c.args.path.now) (ap is_too_long (sym c.names.ensures) ∙ sym c.is_long.ensures ∙ c.if-is_long.true) refl refl refl)

pub returns-then-is_long-clause-left : goal.returns-then-is_long-clause-left
returns-then-is_long-clause-left g c = (none-runs g.D.Counts c.args.device.now c.args.meta.now c.requires.runs, refl)

pub returns-then-is_long-clause-reads : goal.returns-then-is_long-clause-reads
returns-then-is_long-clause-reads g c = refl

pub returns-then-len-eq0-clause-formed : goal.returns-then-len-eq0-clause-formed
returns-then-len-eq0-clause-formed g c = c.requires.formed

pub returns-then-len-eq0-clause-answer : goal.returns-then-len-eq0-clause-answer
returns-then-len-eq0-clause-answer g c =
    inl (refusal-is (graph_of (g.D.Counts.shape c.args.device.now) (running_on g.D.Counts c.args.device.now c.args.meta.now)) c.args.path.now false true (is_some (node_reached (graph_of (g.D.Counts.shape c.args.device.now) (running_on g.D.Counts c.args.device.now c.args.meta.now)) 0 c.args.path.now)) (walk_refusal (graph_of (g.D.Counts.shape c.args.device.now) (running_on g.D.Counts c.args.device.now c.args.meta.now)) 0 c.args.path.now) (ap is_too_long (sym c.names.ensures) ∙ sym c.is_long.ensures ∙ c.if-is_long.false) (ap is_root (empty-path c.args.path.now (sym c.len.ensures.count ∙ c.if-len-eq0.true))) refl refl)

pub returns-then-len-eq0-clause-left : goal.returns-then-len-eq0-clause-left
returns-then-len-eq0-clause-left g c = (none-runs g.D.Counts c.args.device.now c.args.meta.now c.requires.runs, refl)

pub returns-then-len-eq0-clause-reads : goal.returns-then-len-eq0-clause-reads
returns-then-len-eq0-clause-reads g c = refl

pub locate-requires-clause-formed : goal.locate-requires-clause-formed
locate-requires-clause-formed g c = c.requires.formed

pub locate-requires-clause-runs : goal.locate-requires-clause-runs
locate-requires-clause-runs g c = c.requires.runs

pub locate-requires-clause-not_root : goal.locate-requires-clause-not_root
locate-requires-clause-not_root g c = (λ e. c.if-len-eq0.false (c.len.ensures.count ∙ ap length e))

pub overflow_sub-len : goal.overflow_sub-len
overflow_sub-len g c =
    let n = c.len.ensures.count in
    let k = c.len-in-None.ensures.count in
    let f = c.if-len-eq0.false in
    omega (arith, n, k, f)

pub get-last-requires : goal.get-last-requires
get-last-requires g c =
    let n = c.len.ensures.count in
    let k = c.len-in-None.ensures.count in
    let f = c.if-len-eq0.false in
    omega (arith, n, k, f)

pub make_at-requires-clause-formed : goal.make_at-requires-clause-formed
make_at-requires-clause-formed g c = c.in-Ok-At.ensures.formed

pub make_at-requires-clause-runs : goal.make_at-requires-clause-runs
make_at-requires-clause-runs g c = then-runs g.D.Counts c.args.device.now c.args.meta.now c.locate.new.device c.locate.new.meta (g.met.D.VirtualPages.numbers c.args.device.now c.requires.formed) c.in-Ok-At.ensures.kept c.requires.runs

pub make_at-requires-clause-free : goal.make_at-requires-clause-free
make_at-requires-clause-free g c = fits-then g.D.Counts c.args.device.now c.args.meta.now c.locate.new.device c.locate.new.meta (g.met.D.VirtualPages.numbers c.args.device.now c.requires.formed) c.in-Ok-At.ensures.kept c.args.nodes.now c.requires.free

pub make_at-requires-clause-room : goal.make_at-requires-clause-room
make_at-requires-clause-room g c =
    let e = ap (λ (ds : List ℕ). length (besides_0 ds)) c.in-Ok-At.ensures.kept.dirty in
    let r = c.requires.room in
    omega (arith, e, r)

pub make_at-requires-clause-named : goal.make_at-requires-clause-named
make_at-requires-clause-named g c = last-is-name c.args.path.now (c.len-in-None.result - 1) c.bytes.result.now c.requires.names (ap is_too_long (sym c.names.ensures) ∙ sym c.is_long.ensures ∙ c.if-is_long.false) (c.get-last.ensures ∙ ap (λ (x : List ℕ). Some x) (sym c.bytes.ensures))

pub make_at-requires-clause-last : goal.make_at-requires-clause-last
make_at-requires-clause-last g c =
    ap (λ (k : ℕ). slice_get c.args.path.now (k - 1)) (sym c.len-in-None.ensures.count) ∙ c.get-last.ensures ∙ ap (λ (x : List ℕ). Some x) (sym c.bytes.ensures)

pub make_at-requires-clause-place : goal.make_at-requires-clause-place
make_at-requires-clause-place g c = placed-then g.D.Counts c.args.device.now c.args.meta.now (g.met.D.VirtualPages.numbers c.args.device.now c.requires.formed) c.requires.runs c.args.path.now c.in-Ok-At.place (subst (IsNameSpot g.D.Counts c.args.device.now c.args.meta.now c.args.path.now) c.in-Ok-At.field-0-is c.in-Ok-At.ensures.spot) c.locate.new.device c.locate.new.meta c.in-Ok-At.ensures.kept

pub make_at-requires-clause-held : goal.make_at-requires-clause-held
make_at-requires-clause-held g c =
    let at = (subst (IsNameSpot g.D.Counts c.args.device.now c.args.meta.now c.args.path.now) c.in-Ok-At.field-0-is c.in-Ok-At.ensures.spot) in
    held-then g.D.Counts c.args.device.now c.args.meta.now c.locate.new.device c.locate.new.meta (g.met.D.VirtualPages.numbers c.args.device.now c.requires.formed) c.in-Ok-At.ensures.kept c.in-Ok-At.place.dir c.in-Ok-At.place.rec at.is_node at.is_dir (subst (IfHeld g.D.Counts c.args.device.now c.args.meta.now c.locate.new.meta) c.in-Ok-At.field-0-is c.in-Ok-At.ensures.held)

pub make_at-requires-clause-absent : goal.make_at-requires-clause-absent
make_at-requires-clause-absent g c = c.in-None.is

pub make_at-requires-clause-unrefused : goal.make_at-requires-clause-unrefused
make_at-requires-clause-unrefused g c =
    subst (λ (z : Graph). refusal_of_name z c.args.path.now ≡ None) (sym (then-graph g.D.Counts c.args.device.now c.args.meta.now c.locate.new.device c.locate.new.meta (g.met.D.VirtualPages.numbers c.args.device.now c.requires.formed) c.in-Ok-At.ensures.kept)) (unrefused g.D.Counts c.args.device.now c.args.meta.now (g.met.D.VirtualPages.numbers c.args.device.now c.requires.formed) c.requires.runs c.args.path.now c.in-Ok-At.place (subst (IsNameSpot g.D.Counts c.args.device.now c.args.meta.now c.args.path.now) c.in-Ok-At.field-0-is c.in-Ok-At.ensures.spot) c.in-None.is (ap is_too_long (sym c.names.ensures) ∙ sym c.is_long.ensures ∙ c.if-is_long.false))

pub make_at-requires-clause-used : goal.make_at-requires-clause-used
make_at-requires-clause-used g c = c.requires.used

pub returns-in-Some-clause-formed : goal.returns-in-Some-clause-formed
returns-in-Some-clause-formed g c = c.in-Ok-At.ensures.formed

pub returns-in-Some-clause-answer : goal.returns-in-Some-clause-answer
returns-in-Some-clause-answer g c = inl (exists g.D.Counts c.args.device.now c.args.meta.now (g.met.D.VirtualPages.numbers c.args.device.now c.requires.formed) c.requires.runs c.args.path.now c.in-Ok-At.place (subst (IsNameSpot g.D.Counts c.args.device.now c.args.meta.now c.args.path.now) c.in-Ok-At.field-0-is c.in-Ok-At.ensures.spot) c.in-Some.field-0 c.in-Some.is (ap is_too_long (sym c.names.ensures) ∙ sym c.is_long.ensures ∙ c.if-is_long.false))

pub returns-in-Some-clause-left : goal.returns-in-Some-clause-left
returns-in-Some-clause-left g c = (c.in-Ok-At.ensures.kept, refl)

pub returns-in-Some-clause-reads : goal.returns-in-Some-clause-reads
returns-in-Some-clause-reads g c = c.in-Ok-At.ensures.reads

pub returns-in-None-clause-formed : goal.returns-in-None-clause-formed
returns-in-None-clause-formed g c = c.make_at.ensures.formed

pub returns-in-None-clause-answer : goal.returns-in-None-clause-answer
returns-in-None-clause-answer g c =
    makes-after g.D.Counts c.args.device.now c.args.meta.now c.locate.new.device c.locate.new.meta (g.met.D.VirtualPages.numbers c.args.device.now c.requires.formed) c.in-Ok-At.ensures.kept c.args.nodes.now (graph_of (g.D.Counts.shape c.make_at.new.device) (running_on g.D.Counts c.make_at.new.device c.make_at.new.meta)) c.args.path.now (empty_node c.args.kind) c.make_at.result c.make_at.ensures.answer

pub returns-in-None-clause-left : goal.returns-in-None-clause-left
returns-in-None-clause-left g c = leaves-after g.D.Counts c.args.device.now c.args.meta.now c.locate.new.device c.locate.new.meta (g.met.D.VirtualPages.numbers c.args.device.now c.requires.formed) c.in-Ok-At.ensures.kept c.make_at.new.device c.make_at.new.meta c.args.nodes.now c.make_at.new.nodes c.make_at.result c.make_at.ensures.left

pub returns-in-None-clause-reads : goal.returns-in-None-clause-reads
returns-in-None-clause-reads g c = then-reads g.D.Counts c.args.device.now c.args.meta.now c.locate.new.device c.locate.new.meta (g.met.D.VirtualPages.numbers c.args.device.now c.requires.formed) c.in-Ok-At.ensures.kept c.make_at.new.device (change_stop c.make_at.result) c.in-Ok-At.ensures.reads c.make_at.ensures.reads

pub returns-in-Ok-No-clause-formed : goal.returns-in-Ok-No-clause-formed
returns-in-Ok-No-clause-formed g c = c.in-Ok-No.ensures.formed

pub returns-in-Ok-No-clause-answer : goal.returns-in-Ok-No-clause-answer
returns-in-Ok-No-clause-answer g c =
    inl (refusal-is (graph_of (g.D.Counts.shape c.args.device.now) (running_on g.D.Counts c.args.device.now c.args.meta.now)) c.args.path.now false false (is_some (node_reached (graph_of (g.D.Counts.shape c.args.device.now) (running_on g.D.Counts c.args.device.now c.args.meta.now)) 0 c.args.path.now)) (Some c.in-Ok-No.refusal) (ap is_too_long (sym c.names.ensures) ∙ sym c.is_long.ensures ∙ c.if-is_long.false) (not-empty-root c.args.path.now (λ e. c.if-len-eq0.false (c.len.ensures.count ∙ ap length e)))
    (subst (IsNameSpot g.D.Counts c.args.device.now c.args.meta.now c.args.path.now) c.in-Ok-No.field-0-is c.in-Ok-No.ensures.spot) refl)

pub returns-in-Ok-No-clause-left : goal.returns-in-Ok-No-clause-left
returns-in-Ok-No-clause-left g c = (c.in-Ok-No.ensures.kept, refl)

pub returns-in-Ok-No-clause-reads : goal.returns-in-Ok-No-clause-reads
returns-in-Ok-No-clause-reads g c = c.in-Ok-No.ensures.reads

pub returns-in-Err-Fault-clause-formed : goal.returns-in-Err-Fault-clause-formed
returns-in-Err-Fault-clause-formed g c = c.in-Err-Fault.ensures.formed

pub returns-in-Err-Fault-clause-left : goal.returns-in-Err-Fault-clause-left
returns-in-Err-Fault-clause-left g c = (c.in-Err-Fault.ensures.kept, refl)

pub returns-in-Err-Fault-clause-reads : goal.returns-in-Err-Fault-clause-reads
returns-in-Err-Fault-clause-reads g c = subst (λ (x : Stop). ReadsExplainStop g.D.Counts c.args.device.now c.locate.new.device (Some x)) c.in-Err-Fault.field-0-is c.in-Err-Fault.ensures.reads

pub returns-in-Err-Lost-clause-formed : goal.returns-in-Err-Lost-clause-formed
returns-in-Err-Lost-clause-formed g c = c.in-Err-Lost.ensures.formed

pub returns-in-Err-Lost-clause-left : goal.returns-in-Err-Lost-clause-left
returns-in-Err-Lost-clause-left g c = (c.in-Err-Lost.ensures.kept, refl)

pub returns-in-Err-Lost-clause-reads : goal.returns-in-Err-Lost-clause-reads
returns-in-Err-Lost-clause-reads g c = search rules
