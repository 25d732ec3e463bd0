use Rattle.std.proofs.Common.{◌∙◌}
use Rattle.nl_tree.specs.declared.reply.Refusal.TheVariants.{Eisdir}
use Rattle.nl_tree.specs.declared.reply.Reply.TheVariants.{No}
use Rattle.nl_core.specs.Core.{running_of}
use Rattle.nl_calls_read.proofs.Answers.{read-directory, read-refused}
use Rattle.nl_calls_steps.proofs.ReadCores.{node-back, reads-then}
use Rattle.nl_calls_read.proofs.Due.{read-due}
use Rattle.nl_calls_read.proofs.Ending.{ends-after, ends-replied, stop-fault, stop-lost}
use Rattle.nl_calls_read.proofs.Replies.{plain-content}
use Rattle.nl_calls_read.proofs.reading.read_path.Goals as goal

pub read_bytes-requires-clause-file : goal.read_bytes-requires-clause-file
read_bytes-requires-clause-file g c = record { is_node = c.in-File.ensures.node.0; is_file = c.in-File.ensures.node.1 }

pub returns-in-File-clause-same : goal.returns-in-File-clause-same
returns-in-File-clause-same g c =
    reads-then g.D.Counts c.args.core.now c.find_spot.new.core c.device_stands.ensures.volume c.in-File.ensures.same c.read_bytes.new.core c.read_bytes.ensures.same

pub returns-in-File-clause-answer : goal.returns-in-File-clause-answer
returns-in-File-clause-answer g c =
    let G = g.D.Counts in
    let v = c.args.core.now in
    let w = c.find_spot.new.core in
    let is_node = node-back G v w c.device_stands.ensures.volume c.in-File.ensures.same c.in-File.ino c.in-File.rec c.in-File.ensures.node.0 in
    let is_file = c.in-File.ensures.node.1 in
    λ tells page_of_stamp tree runs. read-due G v w c.device_stands.ensures.volume c.in-File.ensures.same tells page_of_stamp tree runs c.args.path.now c.in-File.ino c.in-File.rec c.read_bytes.result c.requires.core
    (record { is_node = is_node; is_file = is_file }) (c.in-File.ensures.spot page_of_stamp tree runs) c.args.from c.args.len c.read_bytes.new.out c.read_bytes.ensures.content (c.read_bytes.ensures.bytes tells)

pub returns-in-File-clause-plain : goal.returns-in-File-clause-plain
returns-in-File-clause-plain g c = plain-content c.read_bytes.result _ c.read_bytes.ensures.content

pub returns-in-File-clause-ends : goal.returns-in-File-clause-ends
returns-in-File-clause-ends g c =
    ends-after g.D.Counts c.args.core.now.device c.find_spot.new.core.device c.read_bytes.new.core.device c.read_bytes.result c.in-File.ensures.reads c.read_bytes.ensures.ends

pub returns-in-Dir-clause-answer : goal.returns-in-Dir-clause-answer
returns-in-Dir-clause-answer g c =
    let G = g.D.Counts in
    let v = c.args.core.now in
    λ tells page_of_stamp tree runs. (
    let s = c.in-Dir.ensures.spot page_of_stamp tree runs in
    let answers = read-directory (G.shape v.device) (running_of G v) page_of_stamp tree runs.runs c.args.path.now c.args.from c.args.len s.0 s.1 in
    (answers.0, c.requires.nothing ∙ answers.1)
    )

pub returns-in-Dir-clause-ends : goal.returns-in-Dir-clause-ends
returns-in-Dir-clause-ends g c =
    ends-replied g.D.Counts c.args.core.now.device c.find_spot.new.core.device (No Eisdir) c.in-Dir.ensures.reads

pub returns-in-No-clause-answer : goal.returns-in-No-clause-answer
returns-in-No-clause-answer g c =
    let G = g.D.Counts in
    let v = c.args.core.now in
    λ tells page_of_stamp tree runs. (
    let answers = read-refused (G.shape v.device) (running_of G v) page_of_stamp tree runs.runs c.args.path.now c.args.from c.args.len c.in-No.refusal (c.in-No.ensures.spot page_of_stamp tree runs) in
    (answers.0, c.requires.nothing ∙ answers.1)
    )

pub returns-in-No-clause-ends : goal.returns-in-No-clause-ends
returns-in-No-clause-ends g c =
    ends-replied g.D.Counts c.args.core.now.device c.find_spot.new.core.device (No c.in-No.refusal) c.in-No.ensures.reads

pub returns-in-Lost-clause-ends : goal.returns-in-Lost-clause-ends
returns-in-Lost-clause-ends g c =
    stop-lost g.D.Counts c.args.core.now.device c.find_spot.new.core.device c.in-Lost.wanted c.in-Lost.found c.in-Lost.ensures.reads

pub returns-in-Fault-clause-ends : goal.returns-in-Fault-clause-ends
returns-in-Fault-clause-ends g c = stop-fault g.D.Counts c.args.core.now.device c.find_spot.new.core.device c.in-Fault.ensures.reads
