use Rattle.std.proofs.Common.{ℕ, [], sym, subst}
use Rattle.nl_dir.proofs.Records.{spelled-dir}
use Rattle.nl_meta.proofs.AddressProofs.{inode_spelled}
use Rattle.nl_tree.specs.Replay.{Answers}
use Rattle.nl_tree.specs.Step.{step}
use Rattle.nl_tree.specs.declared.call.Call.TheVariants.{Stat}
use Rattle.nl_tree.specs.declared.reply.Reply.TheVariants.{Dir, No}
use Rattle.nl_core.specs.Core.{running_of}
use Rattle.nl_calls_read.proofs.Answers.{stat-directory, stat-refused}
use Rattle.nl_calls_steps.proofs.ReadCores.{node-back, reads-then}
use Rattle.nl_calls_read.proofs.Due.{stat-due}
use Rattle.nl_calls_read.proofs.Ending.{ends-after, ends-replied, stop-fault, stop-lost}
use Rattle.nl_calls_read.proofs.Replies.{plain-file}
use Rattle.nl_calls_read.proofs.stating.stat_path.Goals as goal

pub stat_file-requires-clause-file : goal.stat_file-requires-clause-file
stat_file-requires-clause-file g c = (c.in-File.field-0, record { is_node = c.in-File.ensures.node.0; is_file = c.in-File.ensures.node.1 })

pub entries_in-requires : goal.entries_in-requires
entries_in-requires g c =
    let d = c.in-Dir.ensures.node in
    (spelled-dir c.in-Dir.rec d.1 (inode_spelled _ _ c.in-Dir.field-0 c.in-Dir.rec d.0)).few

pub returns-in-File-clause-same : goal.returns-in-File-clause-same
returns-in-File-clause-same g c =
    reads-then g.D.Counts c.args.core.now c.find_spot.new.core c.device_stands.ensures.volume c.in-File.ensures.same c.stat_file.new.core c.stat_file.ensures.same

pub returns-in-File-clause-answer : goal.returns-in-File-clause-answer
returns-in-File-clause-answer g c =
    let G = g.D.Counts in
    let v = c.args.core.now in
    λ tells page_of_stamp tree runs. stat-due G v c.find_spot.new.core c.device_stands.ensures.volume c.in-File.ensures.same tells page_of_stamp tree runs c.args.path.now c.in-File.field-0 c.in-File.rec c.stat_file.result
    (c.in-File.ensures.spot page_of_stamp tree runs) c.stat_file.ensures.file

pub returns-in-File-clause-plain : goal.returns-in-File-clause-plain
returns-in-File-clause-plain g c = plain-file c.stat_file.result _ c.stat_file.ensures.file

pub returns-in-File-clause-ends : goal.returns-in-File-clause-ends
returns-in-File-clause-ends g c =
    ends-after g.D.Counts c.args.core.now.device c.find_spot.new.core.device c.stat_file.new.core.device c.stat_file.result c.in-File.ensures.reads c.stat_file.ensures.ends

pub returns-in-Dir-clause-answer : goal.returns-in-Dir-clause-answer
returns-in-Dir-clause-answer g c =
    let G = g.D.Counts in
    let v = c.args.core.now in
    let d = c.in-Dir.ensures.node in
    λ tells page_of_stamp tree runs. (
    let s = c.in-Dir.ensures.spot page_of_stamp tree runs in
    subst (λ (k : ℕ). Answers (step (G.shape v.device) tree (Stat c.args.path.now)) (Dir k) []) (sym c.entries_in.ensures)
    (stat-directory (G.shape v.device) (running_of G v) page_of_stamp tree runs.runs c.args.path.now c.in-Dir.field-0 c.in-Dir.rec s.0 s.1 s.2
    (node-back G v c.find_spot.new.core c.device_stands.ensures.volume c.in-Dir.ensures.same c.in-Dir.field-0 c.in-Dir.rec d.0) d.1)
    )

pub returns-in-Dir-clause-ends : goal.returns-in-Dir-clause-ends
returns-in-Dir-clause-ends g c =
    ends-replied g.D.Counts c.args.core.now.device c.find_spot.new.core.device (Dir c.entries_in.result) c.in-Dir.ensures.reads

pub returns-in-No-clause-answer : goal.returns-in-No-clause-answer
returns-in-No-clause-answer g c =
    let G = g.D.Counts in
    let v = c.args.core.now in
    λ tells page_of_stamp tree runs. stat-refused (G.shape v.device) (running_of G v) page_of_stamp tree runs.runs c.args.path.now c.in-No.refusal (c.in-No.ensures.spot page_of_stamp tree runs)

pub returns-in-No-clause-ends : goal.returns-in-No-clause-ends
returns-in-No-clause-ends g c =
    ends-replied g.D.Counts c.args.core.now.device c.find_spot.new.core.device (No c.in-No.refusal) c.in-No.ensures.reads

pub returns-in-Lost-clause-ends : goal.returns-in-Lost-clause-ends
returns-in-Lost-clause-ends g c =
    stop-lost g.D.Counts c.args.core.now.device c.find_spot.new.core.device c.in-Lost.wanted c.in-Lost.found c.in-Lost.ensures.reads

pub returns-in-Fault-clause-ends : goal.returns-in-Fault-clause-ends
returns-in-Fault-clause-ends g c = stop-fault g.D.Counts c.args.core.now.device c.find_spot.new.core.device c.in-Fault.ensures.reads
