use Rattle.nl_inode.proofs.FreeLists.{node-back}
use Rattle.nl_namespace.proofs.free.least_node.Goals as goal

pub returns-in-Some-clause-same : goal.returns-in-Some-clause-same
returns-in-Some-clause-same c = node-back c.in-Some.ino c.args.nodes.now c.take_node-least.new.self c.give_node.new.self c.in-Some.ensures.least.free_itself c.in-Some.ensures.taken c.give_node.ensures
