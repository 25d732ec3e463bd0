use Rattle.std.proofs.Common.{◌^◌, arith}
use Rattle.nl_tree.specs.declared.reply.Refusal.TheVariants.{Efbig}
use Rattle.nl_core.proofs.Onward.{goes_none}
use Rattle.nl_calls_truncate.proofs.CutEnds.{done_ends, far_answers, fault_ends, lost_ends, refused_ends}
use Rattle.nl_calls_steps.proofs.Going.{others_none}
use Rattle.nl_core.proofs.LastCommits.{commit_none}
use Rattle.nl_calls_truncate.proofs.truncating.truncate_found.Goals as goal

pub returns-then-size-gt-MOST-clause-truncates : goal.returns-then-size-gt-MOST-clause-truncates
returns-then-size-gt-MOST-clause-truncates g c =
    let G = g.D.Counts in
    let u = c.args.core.now in
    let r = c.requires in
    refused_ends G u u c.args.worker c.args.path.now c.args.size 0 (omega arith) r.core (goes_none G u r.core) (others_none c.args.worker u.flight) Efbig
    (far_answers G u c.args.path.now c.args.size c.looks_in_tree.ensures r.short c.args.ino r.leads r.file c.if-size-gt-MOST.true)

pub returns-in-Ok-clause-truncates : goal.returns-in-Ok-clause-truncates
returns-in-Ok-clause-truncates g c =
    let G = g.D.Counts in
    let r = c.requires in
    let t = c.truncate_file.ensures in
    done_ends G c.args.core.now c.truncate_file.new.core c.looks_in_tree.ensures r.core t.core c.args.worker r.can.known c.args.path.now c.args.size c.if-size-gt-MOST.false r.short c.args.ino r.leads r.file (2 ^ 31) (omega arith)
    c.in-Ok.ensures.cut c.in-Ok.now c.in-Ok.ensures.files t.others

pub returns-in-Err-Fault-clause-truncates : goal.returns-in-Err-Fault-clause-truncates
returns-in-Err-Fault-clause-truncates g c =
    let G = g.D.Counts in
    let t = c.truncate_file.ensures in
    fault_ends G c.args.core.now c.truncate_file.new.core c.args.worker c.args.path.now c.args.size (2 ^ 31) (omega arith) t.core c.in-Err-Fault.ensures.uncut t.others (rw c.in-Err-Fault.field-0-is at c.in-Err-Fault.ensures.early)

pub returns-in-Err-Lost-clause-truncates : goal.returns-in-Err-Lost-clause-truncates
returns-in-Err-Lost-clause-truncates g c =
    let G = g.D.Counts in
    let t = c.truncate_file.ensures in
    lost_ends G c.args.core.now c.truncate_file.new.core c.args.worker c.args.path.now c.args.size (2 ^ 31) (omega arith) t.core c.in-Err-Lost.ensures.uncut t.others c.in-Err-Lost.wanted c.in-Err-Lost.found
    (rw c.in-Err-Lost.field-0-is at c.in-Err-Lost.ensures.early)

-- ---- nothing is committed

pub returns-then-size-gt-MOST-clause-commit : goal.returns-then-size-gt-MOST-clause-commit
returns-then-size-gt-MOST-clause-commit g c room = commit_none c.args.core.now

pub returns-in-Ok-clause-commit : goal.returns-in-Ok-clause-commit
returns-in-Ok-clause-commit g c = c.truncate_file.ensures.commit

pub returns-in-Err-Fault-clause-commit : goal.returns-in-Err-Fault-clause-commit
returns-in-Err-Fault-clause-commit g c = c.truncate_file.ensures.commit

pub returns-in-Err-Lost-clause-commit : goal.returns-in-Err-Lost-clause-commit
returns-in-Err-Lost-clause-commit g c = c.truncate_file.ensures.commit
