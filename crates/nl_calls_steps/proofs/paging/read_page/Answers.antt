use Rattle.std.proofs.Common.{Some}
use Rattle.std.specs.Prelude.{Err, Ok, OnOk, Result}
use Rattle.nl_meta_running.specs.Reading.{stop_of}
use Rattle.nl_calls_steps.proofs.paging.read_page.Goals as goal
use Rattle.nl_calls_steps.proofs.Early.{early-then, read-early}
use Rattle.nl_calls_steps.proofs.OnlyReads.{opened-file, page-back}
use Rattle.nl_calls_steps.proofs.ReadCores.{reads-then}

on-ok : {X E P Q : Type 0} → (P → Q) → (r : Result X E) → OnOk r P → OnOk r Q
on-ok f (Ok x) p = f p
on-ok f (Err e) p = p

pub read_head-requires-clause-file : goal.read_head-requires-clause-file
read_head-requires-clause-file g c = opened-file g.D.Counts c.args.core.now c.open_node.new.core c.args.ino c.in-Ok.rec c.requires.file c.in-Ok.ensures.node

pub returns-in-Ok-clause-same : goal.returns-in-Ok-clause-same
returns-in-Ok-clause-same g c =
    reads-then g.D.Counts c.args.core.now c.open_node.new.core c.device_stands.ensures.volume c.in-Ok.ensures.same c.read_head.new.core c.read_head.ensures.same

pub returns-in-Ok-clause-page : goal.returns-in-Ok-clause-page
returns-in-Ok-clause-page g c =
    on-ok (page-back g.D.Counts c.args.core.now c.open_node.new.core c.device_stands.ensures.volume c.in-Ok.ensures.same c.args.ino c.args.index c.read_head.new.out)
    c.read_head.result c.read_head.ensures.page

pub returns-in-Ok-clause-early : goal.returns-in-Ok-clause-early
returns-in-Ok-clause-early g c =
    early-then g.D.Counts c.args.core.now c.open_node.new.core c.read_head.new.core (stop_of c.read_head.result) c.in-Ok.ensures.same c.read_head.ensures.early

pub returns-in-Err-clause-early : goal.returns-in-Err-clause-early
returns-in-Err-clause-early g c = read-early g.D.Counts c.args.core.now c.open_node.new.core (Some c.in-Err.stop) c.in-Err.ensures.reads
