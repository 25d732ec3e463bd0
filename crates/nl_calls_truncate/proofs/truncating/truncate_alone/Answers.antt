use Rattle.std.proofs.Common.{◌∙◌, ap, arith}
use Rattle.nl_field.specs.Graph.{Graph}
use Rattle.nl_tree.specs.Represents.{node_reached}
use Rattle.nl_calls_truncate.proofs.CutEnds.{fault_ends, lost_ends, path_answers, refused_ends, truncates_before}
use Rattle.nl_calls_truncate.proofs.CutReads.{can_on, flight_on}
use Rattle.nl_calls_steps.proofs.Going.{files_on, others_same}
use Rattle.nl_calls_steps.proofs.LeavesTree.{reads_go}
use Rattle.nl_calls_steps.proofs.OnlyReads.{file-on, same-nodes}
use Rattle.nl_calls_steps.proofs.LastCommitOn.{reads_commit, reads_through}
use Rattle.nl_calls_truncate.proofs.truncating.truncate_alone.Goals as goal

pub truncate_found-requires-clause-stamp : goal.truncate_found-requires-clause-stamp
truncate_found-requires-clause-stamp g c =
    let same = c.find_there.ensures.same.runs.reads.medium.next_stamp in
    let low = c.requires.stamp in
    omega (arith, same, low)

pub truncate_found-requires-clause-can : goal.truncate_found-requires-clause-can
truncate_found-requires-clause-can g c =
    let G = g.D.Counts in
    let u = c.args.core.now in
    let v = c.find_there.new.core in
    let e = c.find_there.ensures in
    can_on G u v c.args.worker c.args.line (reads_go G u v c.requires.core e.volume e.core.formed e.stores e.same) e.same c.requires.can

pub truncate_found-requires-clause-short : goal.truncate_found-requires-clause-short
truncate_found-requires-clause-short g c =
    let G = g.D.Counts in
    let found = rw c.in-Ok-File.field-0-is at c.in-Ok-File.ensures.found in
    found.0

pub truncate_found-requires-clause-leads : goal.truncate_found-requires-clause-leads
truncate_found-requires-clause-leads g c =
    let G = g.D.Counts in
    let u = c.args.core.now in
    let v = c.find_there.new.core in
    let found = rw c.in-Ok-File.field-0-is at c.in-Ok-File.ensures.found in
    ap (λ (graph : Graph). node_reached graph 0 c.args.path.now) (same-nodes G u v c.find_there.ensures.volume c.find_there.ensures.same) ∙ found.1

pub truncate_found-requires-clause-file : goal.truncate_found-requires-clause-file
truncate_found-requires-clause-file g c =
    let G = g.D.Counts in
    let u = c.args.core.now in
    let v = c.find_there.new.core in
    let found = rw c.in-Ok-File.field-0-is at c.in-Ok-File.ensures.found in
    (found.2.0, file-on G u v c.find_there.ensures.volume c.find_there.ensures.same c.in-Ok-File.ino found.2.0 found.2.1)

pub truncate_found-requires-clause-files : goal.truncate_found-requires-clause-files
truncate_found-requires-clause-files g c =
    let G = g.D.Counts in
    let u = c.args.core.now in
    let v = c.find_there.new.core in
    files_on G 0 u v (reads_go G u v c.requires.core c.find_there.ensures.volume c.find_there.ensures.core.formed c.find_there.ensures.stores c.find_there.ensures.same) c.args.files c.requires.files

pub returns-in-Ok-File-clause-truncates : goal.returns-in-Ok-File-clause-truncates
returns-in-Ok-File-clause-truncates g c =
    let G = g.D.Counts in
    let u = c.args.core.now in
    let v = c.find_there.new.core in
    let same = c.find_there.ensures.same in
    truncates_before G u v c.truncate_found.new.core c.args.worker c.args.path.now c.args.size (reads_go G u v c.requires.core c.find_there.ensures.volume c.find_there.ensures.core.formed c.find_there.ensures.stores same)
    (others_same c.args.worker u.flight v.flight (flight_on G u v same)) c.truncate_found.result c.truncate_found.ensures.truncates

pub returns-in-Ok-No-clause-truncates : goal.returns-in-Ok-No-clause-truncates
returns-in-Ok-No-clause-truncates g c =
    let G = g.D.Counts in
    let u = c.args.core.now in
    let v = c.find_there.new.core in
    let same = c.find_there.ensures.same in
    refused_ends G u v c.args.worker c.args.path.now c.args.size 0 (omega arith) c.find_there.ensures.core (reads_go G u v c.requires.core c.find_there.ensures.volume c.find_there.ensures.core.formed c.find_there.ensures.stores same)
    (others_same c.args.worker u.flight v.flight (flight_on G u v same)) c.in-Ok-No.refusal
    (path_answers G u c.args.path.now c.args.size c.in-Ok-No.refusal (rw c.in-Ok-No.field-0-is at c.in-Ok-No.ensures.found))

pub returns-in-Err-Fault-clause-truncates : goal.returns-in-Err-Fault-clause-truncates
returns-in-Err-Fault-clause-truncates g c =
    let G = g.D.Counts in
    let u = c.args.core.now in
    let v = c.find_there.new.core in
    let same = c.find_there.ensures.same in
    fault_ends G u v c.args.worker c.args.path.now c.args.size 0 (omega arith) c.find_there.ensures.core (reads_go G u v c.requires.core c.find_there.ensures.volume c.find_there.ensures.core.formed c.find_there.ensures.stores same)
    (others_same c.args.worker u.flight v.flight (flight_on G u v same)) (rw c.in-Err-Fault.field-0-is at c.in-Err-Fault.ensures.early)

pub returns-in-Err-Lost-clause-truncates : goal.returns-in-Err-Lost-clause-truncates
returns-in-Err-Lost-clause-truncates g c =
    let G = g.D.Counts in
    let u = c.args.core.now in
    let v = c.find_there.new.core in
    let same = c.find_there.ensures.same in
    lost_ends G u v c.args.worker c.args.path.now c.args.size 0 (omega arith) c.find_there.ensures.core (reads_go G u v c.requires.core c.find_there.ensures.volume c.find_there.ensures.core.formed c.find_there.ensures.stores same)
    (others_same c.args.worker u.flight v.flight (flight_on G u v same)) c.in-Err-Lost.wanted c.in-Err-Lost.found (rw c.in-Err-Lost.field-0-is at c.in-Err-Lost.ensures.early)

-- ---- nothing is committed

pub returns-in-Ok-File-clause-commit : goal.returns-in-Ok-File-clause-commit
returns-in-Ok-File-clause-commit g c =
    reads_through g.D.Counts c.args.core.now c.find_there.new.core c.find_there.ensures.same 4 1 c.truncate_found.new.core c.truncate_found.ensures.commit

pub returns-in-Ok-No-clause-commit : goal.returns-in-Ok-No-clause-commit
returns-in-Ok-No-clause-commit g c room = reads_commit g.D.Counts c.args.core.now c.find_there.new.core c.find_there.ensures.same

pub returns-in-Err-Fault-clause-commit : goal.returns-in-Err-Fault-clause-commit
returns-in-Err-Fault-clause-commit g c room = reads_commit g.D.Counts c.args.core.now c.find_there.new.core c.find_there.ensures.same

pub returns-in-Err-Lost-clause-commit : goal.returns-in-Err-Lost-clause-commit
returns-in-Err-Lost-clause-commit g c room = reads_commit g.D.Counts c.args.core.now c.find_there.new.core c.find_there.ensures.same
