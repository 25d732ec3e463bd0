use Rattle.std.proofs.Common.{◌≡◌, ◌+◌, ◌*◌, ◌∙◌, None, arith}
use Rattle.std.proofs.lemmas.List.{get_or_read, length-set}
use Rattle.nl_blocks.specs.Tournament.{better, entrant_at}
use Rattle.nl_blocks.proofs.Tournaments.{climbs, leaves-stay}
use Rattle.nl_blocks.proofs.tournament.climb.Goals as goal

pub loop-node-preserved : goal.loop-node-preserved
loop-node-preserved c =
    let tree = c.loop-node.tree.items in
    let node = c.loop-node.node in
    let size = c.loop-node.invariant.size in
    let inner = c.loop-node.invariant.inner in
    let some = c.loop-node-test.true in
    let l = get_or_read tree (2 * node) c.index.result.now (omega arith) c.index.ensures None in
    let r = get_or_read tree (2 * node + 1) c.index-in-loop-node.result.now (omega arith) c.index-in-loop-node.ensures None in
    let winner : c.better-winner.result ≡ better (entrant_at tree (2 * node)) (entrant_at tree (2 * node + 1)) = c.better-winner.ensures ∙ (λ j. better (l j) (r j)) in
    record {
      winners = climbs c.args.count tree node c.better-winner.result winner (omega arith) inner size c.loop-node.invariant.winners;
      size = length-set tree node c.better-winner.result ∙ size;
      inner = omega arith;
      leaves = leaves-stay c.args.count c.args.tree.now.items tree node c.better-winner.result c.loop-node.invariant.leaves inner;
    }
