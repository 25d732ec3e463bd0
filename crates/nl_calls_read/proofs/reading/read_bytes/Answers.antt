use Rattle.nl_tree.specs.declared.reply.Reply.TheVariants.{Content}
use Rattle.nl_calls_read.proofs.Ending.{file-done, file-fault, file-lost}
use Rattle.nl_calls_read.proofs.reading.read_bytes.Goals as goal

pub returns-in-Done-clause-ends : goal.returns-in-Done-clause-ends
returns-in-Done-clause-ends g c = file-done g.D.Counts c.args.core.now.device c.read_pieces.new.core.device Content c.in-Done.ensures.faults

pub returns-in-Lost-clause-ends : goal.returns-in-Lost-clause-ends
returns-in-Lost-clause-ends g c =
    let e = c.in-Lost.ensures in
    file-lost g.D.Counts c.args.core.now.device c.read_pieces.new.core.device c.in-Lost.wanted c.in-Lost.found e.faults e.lost.1 (λ tells. e.told tells tt)

pub returns-in-Fault-clause-ends : goal.returns-in-Fault-clause-ends
returns-in-Fault-clause-ends g c = file-fault g.D.Counts c.args.core.now.device c.read_pieces.new.core.device c.in-Fault.ensures.faults
