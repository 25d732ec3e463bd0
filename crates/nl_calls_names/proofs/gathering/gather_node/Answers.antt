use Rattle.std.proofs.Common.{List, [], Some, is_some, sym, ap, subst, ◌∙◌}
use Rattle.nl_field.specs.Graph.{Graph}
use Rattle.nl_field.specs.declared.inode.Kind.TheVariants.{Dir, Unused}
use Rattle.nl_field.specs.declared.pointer.Pointer.{Pointer}
use Rattle.nl_inode.specs.Nodes.{page_of_node}
use Rattle.nl_meta_running.specs.Reading.{stop_of}
use Rattle.nl_calls_names.specs.Gathering.{GathersOn, pointers_of_node}
use Rattle.nl_calls_names.proofs.Gathered.{gathers_none, of_file, of_other, on_err, on_ok, same_graph, then_gathers, then_reads}
use Rattle.nl_calls_names.proofs.gathering.gather_node.Goals as goal

pub returns-in-File-clause-done : goal.returns-in-File-clause-done
returns-in-File-clause-done g c =
    let G = g.D.Counts in
    let v = c.args.core.now in
    let w = c.open_node.new.core in
    let u = c.gather_file.new.core in
    let n = c.args.ino in
    let e = c.in-Ok.ensures in
    let xs = of_file G w n c.in-Ok.rec e.node.after e.core.journaled.runs c.in-File.is ∙ ap (λ (z : Graph). pointers_of_node z (Some n)) (same_graph G v w c.device_stands.ensures.volume e.same) in
    on_ok c.gather_file.result (λ h. subst (λ (l : List Pointer). GathersOn G v u l) xs (then_gathers G v w c.device_stands.ensures.volume e.same u _ h)) c.gather_file.ensures.done

pub returns-in-File-clause-opened : goal.returns-in-File-clause-opened
returns-in-File-clause-opened g c =
    let e = c.in-Ok.ensures in
    on_ok c.gather_file.result (λ h. record { used = c.requires.used; there = ap is_some (h.reads.runs.stays (page_of_node c.args.ino) e.node.there) ∙ e.node.there }) c.gather_file.ensures.done

pub returns-in-File-clause-stopped : goal.returns-in-File-clause-stopped
returns-in-File-clause-stopped g c =
    let G = g.D.Counts in
    on_err c.gather_file.result (λ h. then_gathers G c.args.core.now c.open_node.new.core c.device_stands.ensures.volume c.in-Ok.ensures.same c.gather_file.new.core [] h) c.gather_file.ensures.stopped

pub returns-in-File-clause-reads : goal.returns-in-File-clause-reads
returns-in-File-clause-reads g c =
    let G = g.D.Counts in
    let e = c.in-Ok.ensures in
    then_reads G c.args.core.now.device c.open_node.new.core.device c.gather_file.new.core.device e.same.runs.reads.medium.virtual.same_stamps (stop_of c.gather_file.result) e.reads c.gather_file.ensures.reads

pub returns-in-Dir-clause-done : goal.returns-in-Dir-clause-done
returns-in-Dir-clause-done g c =
    let G = g.D.Counts in
    let v = c.args.core.now in
    let w = c.open_node.new.core in
    let e = c.in-Ok.ensures in
    subst (λ (l : List Pointer). GathersOn G v w l) (sym (of_other G v c.args.ino c.in-Ok.rec e.node.before Dir c.in-Dir.is (λ z. cc))) (gathers_none G v w c.device_stands.ensures.volume e.same)

pub returns-in-Dir-clause-opened : goal.returns-in-Dir-clause-opened
returns-in-Dir-clause-opened g c = record { used = c.requires.used; there = c.in-Ok.ensures.node.there }

pub returns-in-Unused-clause-done : goal.returns-in-Unused-clause-done
returns-in-Unused-clause-done g c =
    let G = g.D.Counts in
    let v = c.args.core.now in
    let w = c.open_node.new.core in
    let e = c.in-Ok.ensures in
    subst (λ (l : List Pointer). GathersOn G v w l) (sym (of_other G v c.args.ino c.in-Ok.rec e.node.before Unused c.in-Unused.is (λ z. cc))) (gathers_none G v w c.device_stands.ensures.volume e.same)

pub returns-in-Unused-clause-opened : goal.returns-in-Unused-clause-opened
returns-in-Unused-clause-opened g c = record { used = c.requires.used; there = c.in-Ok.ensures.node.there }

pub returns-in-Err-clause-stopped : goal.returns-in-Err-clause-stopped
returns-in-Err-clause-stopped g c =
    let G = g.D.Counts in
    gathers_none G c.args.core.now c.open_node.new.core c.device_stands.ensures.volume c.in-Err.ensures.same
