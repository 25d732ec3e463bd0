use Rattle.std.proofs.Common.{arith, rules}
use Rattle.nl_blocks.proofs.TableProofs.{live_fits}
use Rattle.nl_blocks.proofs.row.Block.mark.Goals as goal

pub overflow_add-self : goal.overflow_add-self
overflow_add-self c =
    let few = live_fits c.self.inside.pages.items c.args.at c.index.result.now c.index.ensures (search rules) c.in-Live-Dead.is-0 in
    omega (arith, c.self.invariant.0, c.self.invariant.1)
