use Rattle.std.proofs.Common.{◌∙◌}
use Rattle.nl_tree.specs.declared.reply.Refusal.TheVariants.{Enotdir}
use Rattle.nl_tree.specs.declared.reply.Reply.TheVariants.{No}
use Rattle.nl_core.specs.Core.{running_of}
use Rattle.nl_calls_files.specs.FileTrees.{held_content}
use Rattle.nl_calls_read.proofs.Answers.{list-file, list-refused}
use Rattle.nl_calls_steps.proofs.ReadCores.{reads-then}
use Rattle.nl_calls_read.proofs.Due.{list-due}
use Rattle.nl_calls_read.proofs.Ending.{ends-after, ends-replied, stop-fault, stop-lost}
use Rattle.nl_calls_read.proofs.Replies.{plain-names}
use Rattle.nl_calls_read.proofs.listing.list_path.Goals as goal

pub list_directory-requires-clause-directory : goal.list_directory-requires-clause-directory
list_directory-requires-clause-directory g c = (c.in-Dir.field-1, c.in-Dir.ensures.node.0, c.in-Dir.ensures.node.1)

pub returns-in-File-clause-answer : goal.returns-in-File-clause-answer
returns-in-File-clause-answer g c =
    let G = g.D.Counts in
    let v = c.args.core.now in
    λ tells page_of_stamp tree runs. (
    let s = c.in-File.ensures.spot page_of_stamp tree runs in
    let answers = list-file (G.shape v.device) (running_of G v) page_of_stamp tree runs.runs c.args.path.now (held_content page_of_stamp (running_of G v) c.in-File.field-1) s.0 s.1 in
    (answers.0, c.requires.nothing ∙ answers.1)
    )

pub returns-in-File-clause-ends : goal.returns-in-File-clause-ends
returns-in-File-clause-ends g c =
    ends-replied g.D.Counts c.args.core.now.device c.find_spot.new.core.device (No Enotdir) c.in-File.ensures.reads

pub returns-in-Dir-clause-same : goal.returns-in-Dir-clause-same
returns-in-Dir-clause-same g c =
    reads-then g.D.Counts c.args.core.now c.find_spot.new.core c.device_stands.ensures.volume c.in-Dir.ensures.same c.list_directory.new.core c.list_directory.ensures.same

pub returns-in-Dir-clause-answer : goal.returns-in-Dir-clause-answer
returns-in-Dir-clause-answer g c =
    let G = g.D.Counts in
    let v = c.args.core.now in
    λ tells page_of_stamp tree runs. list-due G v c.find_spot.new.core c.device_stands.ensures.volume c.in-Dir.ensures.same tells page_of_stamp tree runs c.args.path.now c.in-Dir.ino c.in-Dir.field-1 c.list_directory.result
    (c.in-Dir.ensures.spot page_of_stamp tree runs) c.list_directory.new.out c.list_directory.ensures.names

pub returns-in-Dir-clause-plain : goal.returns-in-Dir-clause-plain
returns-in-Dir-clause-plain g c = plain-names c.list_directory.result _ c.list_directory.ensures.names

pub returns-in-Dir-clause-ends : goal.returns-in-Dir-clause-ends
returns-in-Dir-clause-ends g c =
    ends-after g.D.Counts c.args.core.now.device c.find_spot.new.core.device c.list_directory.new.core.device c.list_directory.result c.in-Dir.ensures.reads c.list_directory.ensures.ends

pub returns-in-No-clause-answer : goal.returns-in-No-clause-answer
returns-in-No-clause-answer g c =
    let G = g.D.Counts in
    let v = c.args.core.now in
    λ tells page_of_stamp tree runs. (
    let answers = list-refused (G.shape v.device) (running_of G v) page_of_stamp tree runs.runs c.args.path.now c.in-No.refusal (c.in-No.ensures.spot page_of_stamp tree runs) in
    (answers.0, c.requires.nothing ∙ answers.1)
    )

pub returns-in-No-clause-ends : goal.returns-in-No-clause-ends
returns-in-No-clause-ends g c =
    ends-replied g.D.Counts c.args.core.now.device c.find_spot.new.core.device (No c.in-No.refusal) c.in-No.ensures.reads

pub returns-in-Lost-clause-ends : goal.returns-in-Lost-clause-ends
returns-in-Lost-clause-ends g c =
    stop-lost g.D.Counts c.args.core.now.device c.find_spot.new.core.device c.in-Lost.wanted c.in-Lost.found c.in-Lost.ensures.reads

pub returns-in-Fault-clause-ends : goal.returns-in-Fault-clause-ends
returns-in-Fault-clause-ends g c = stop-fault g.D.Counts c.args.core.now.device c.find_spot.new.core.device c.in-Fault.ensures.reads
