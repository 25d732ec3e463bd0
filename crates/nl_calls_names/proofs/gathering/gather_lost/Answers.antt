use Rattle.std.proofs.Common.{ℕ, List, [], Option, Some, sym, ap, subst, ◌∙◌}
use Rattle.std.specs.Prelude.{IfSome}
use Rattle.nl_field.specs.Graph.{Graph}
use Rattle.nl_field.specs.declared.pointer.Pointer.{Pointer}
use Rattle.nl_meta_running.specs.Reading.{stop_of}
use Rattle.nl_meta_running.specs.Running.{IsUsedNode}
use Rattle.nl_calls_names.specs.Gathering.{GathersOn, OpensNode, graph_on, pointers_of_node}
use Rattle.nl_calls_names.proofs.Gathered.{gathers_none, on_err, on_ok, same_graph, then_gathers, then_opens, then_reads, then_used}
use Rattle.nl_calls_names.proofs.gathering.gather_lost.Goals as goal

pub gather_node-requires-clause-used : goal.gather_node-requires-clause-used
gather_node-requires-clause-used g c =
    let G = g.D.Counts in
    let v = c.args.core.now in
    let e = c.in-Ok.ensures in
    then_used G v c.find_lost.new.core c.device_stands.ensures.volume e.same c.in-Some.ino (subst (λ (o : Option ℕ). IfSome o (IsUsedNode G v.device v.meta)) c.in-Some.is e.used)

pub returns-in-Some-clause-done : goal.returns-in-Some-clause-done
returns-in-Some-clause-done g c =
    let G = g.D.Counts in
    let v = c.args.core.now in
    let w = c.find_lost.new.core in
    let u = c.gather_node.new.core in
    let e = c.in-Ok.ensures in
    let n = c.in-Some.ino in
    let xs = ap (λ (z : Graph). pointers_of_node z (Some n)) (same_graph G v w c.device_stands.ensures.volume e.same) ∙ ap (λ (o : Option ℕ). pointers_of_node (graph_on G v) o) (sym c.in-Some.is ∙ e.node) in
    on_ok c.gather_node.result (λ h. subst (λ (l : List Pointer). GathersOn G v u l) xs (then_gathers G v w c.device_stands.ensures.volume e.same u (pointers_of_node (graph_on G w) (Some n)) h)) c.gather_node.ensures.done

pub returns-in-Some-clause-opened : goal.returns-in-Some-clause-opened
returns-in-Some-clause-opened g c =
    let G = g.D.Counts in
    let v = c.args.core.now in
    let u = c.gather_node.new.core in
    let e = c.in-Ok.ensures in
    on_ok c.gather_node.result (λ h. subst (λ (o : Option ℕ). IfSome o (OpensNode G v u)) (sym c.in-Some.is ∙ e.node)
    (then_opens G v c.find_lost.new.core c.device_stands.ensures.volume e.same u c.in-Some.ino (subst (λ (o : Option ℕ). IfSome o (IsUsedNode G v.device v.meta)) c.in-Some.is e.used) h)) c.gather_node.ensures.opened

pub returns-in-Some-clause-stopped : goal.returns-in-Some-clause-stopped
returns-in-Some-clause-stopped g c =
    let G = g.D.Counts in
    on_err c.gather_node.result (λ h. then_gathers G c.args.core.now c.find_lost.new.core c.device_stands.ensures.volume c.in-Ok.ensures.same c.gather_node.new.core [] h) c.gather_node.ensures.stopped

pub returns-in-Some-clause-reads : goal.returns-in-Some-clause-reads
returns-in-Some-clause-reads g c =
    let G = g.D.Counts in
    let e = c.in-Ok.ensures in
    then_reads G c.args.core.now.device c.find_lost.new.core.device c.gather_node.new.core.device e.same.runs.reads.medium.virtual.same_stamps (stop_of c.gather_node.result) e.reads c.gather_node.ensures.reads

pub returns-in-None-clause-done : goal.returns-in-None-clause-done
returns-in-None-clause-done g c =
    let G = g.D.Counts in
    let v = c.args.core.now in
    let w = c.find_lost.new.core in
    let e = c.in-Ok.ensures in
    subst (λ (o : Option ℕ). GathersOn G v w (pointers_of_node (graph_on G v) o)) (sym c.in-None.is ∙ e.node) (gathers_none G v w c.device_stands.ensures.volume e.same)

pub returns-in-None-clause-opened : goal.returns-in-None-clause-opened
returns-in-None-clause-opened g c =
    let G = g.D.Counts in
    subst (λ (o : Option ℕ). IfSome o (OpensNode G c.args.core.now c.find_lost.new.core)) (sym c.in-None.is ∙ c.in-Ok.ensures.node) tt

pub returns-in-Err-clause-stopped : goal.returns-in-Err-clause-stopped
returns-in-Err-clause-stopped g c =
    let G = g.D.Counts in
    gathers_none G c.args.core.now c.find_lost.new.core c.device_stands.ensures.volume c.in-Err.ensures.same
