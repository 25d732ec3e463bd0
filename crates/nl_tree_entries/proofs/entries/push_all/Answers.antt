use Rattle.nl_tree_content.proofs.LoopProofs.{pushed_behind}
use Rattle.nl_tree_entries.proofs.entries.push_all.Goals as goal

pub entries-preserved : goal.entries-preserved
entries-preserved c =
    pushed_behind c.args.kept.now.items c.args.entries.now c.entries.kept.items c.push.new.kept.items c.entries.entry-index c.entry-item.result c.entries-test.true c.entry-item.is c.in_ok-push.ensures c.entries.invariant
