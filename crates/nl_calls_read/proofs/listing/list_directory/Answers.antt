use Rattle.nl_tree.specs.declared.reply.Reply.TheVariants.{Names}
use Rattle.nl_calls_read.proofs.Ending.{ends-replied, stop-fault, stop-lost}
use Rattle.nl_calls_read.proofs.listing.list_directory.Goals as goal

pub returns-in-Listed-clause-ends : goal.returns-in-Listed-clause-ends
returns-in-Listed-clause-ends g c =
    ends-replied g.D.Counts c.args.core.now.device c.list_names.new.core.device (Names c.in-Listed.count) c.in-Listed.ensures.reads

pub returns-in-Lost-clause-ends : goal.returns-in-Lost-clause-ends
returns-in-Lost-clause-ends g c =
    stop-lost g.D.Counts c.args.core.now.device c.list_names.new.core.device c.in-Lost.wanted c.in-Lost.found c.in-Lost.ensures.reads

pub returns-in-Fault-clause-ends : goal.returns-in-Fault-clause-ends
returns-in-Fault-clause-ends g c = stop-fault g.D.Counts c.args.core.now.device c.list_names.new.core.device c.in-Fault.ensures.reads
