use Rattle.std.proofs.Common.{arith}
use Rattle.nl_recover.proofs.FreeFacts.{node-taken}
use Rattle.nl_recover.proofs.free.use_both.Goals as goal

pub use_node-requires : goal.use_node-requires
use_node-requires c = let h = c.requires.below in let n = c.use_addresses.ensures.spaces.nodes in omega (arith, h, n)

pub returns : goal.returns
returns c = node-taken c.args.shape.now c.args.ino c.args.addresses.now c.args.nodes.now c.use_addresses.new.nodes c.use_node.new.self c.use_addresses.ensures c.use_node.ensures
