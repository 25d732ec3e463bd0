use Rattle.std.proofs.Common.{arith}
use Rattle.nl_meta.specs.Pages.{page_of}
use Rattle.nl_recover.proofs.FreeFacts.{are-free, free-more, free-none}
use Rattle.nl_recover.proofs.free.free_lists.Goals as goal

pub loop-ino-init : goal.loop-ino-init
loop-ino-init c =
    free-none c.args.shape.now (page_of c.args.meta.now) c.in_ok-nodes.nodes (record { nodes = c.in_ok-nodes.ensures.nodes; first = c.in_ok-nodes.ensures.first; pool = c.in_ok-nodes.ensures.pool })
    c.in_ok-nodes.ensures.free c.in_ok-nodes.ensures.free_pool

pub use_node-requires-clause-spaces : goal.use_node-requires-clause-spaces
use_node-requires-clause-spaces c = c.loop-ino.invariant.spaces

pub loop-ino-preserved : goal.loop-ino-preserved
loop-ino-preserved c = free-more c.args.shape.now (page_of c.args.meta.now) c.loop-ino.ino c.loop-ino.nodes c.use_node.new.nodes c.loop-ino.invariant c.use_node.ensures

pub returns-clause-free : goal.returns-clause-free
returns-clause-free c =
    let past = c.loop-ino-test.false in
    let most = c.loop-ino.auto.ino-end in
    are-free c.args.shape.now (page_of c.args.meta.now) c.loop-ino.ino c.loop-ino.nodes (omega (arith, past, most)) c.loop-ino.invariant

pub returns-clause-spaces : goal.returns-clause-spaces
returns-clause-spaces c = c.loop-ino.invariant.spaces
