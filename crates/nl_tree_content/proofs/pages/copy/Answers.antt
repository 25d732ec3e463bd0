use Rattle.nl_tree_content.proofs.LoopProofs.{pushed}
use Rattle.nl_tree_content.proofs.pages.copy.Goals as goal

pub pages-preserved : goal.pages-preserved
pages-preserved c = pushed c.args.pages.now c.pages.copied.items c.push.new.kept.items c.pages.page-index c.page-item.result c.pages-test.true c.page-item.is c.in_ok-push.ensures c.pages.invariant
