use Rattle.nl_inode.proofs.NodeSlots.{puts-node}
use Rattle.nl_inode.proofs.nodes.Nodes.put.Goals as goal

pub returns-in-Some-clause-done : goal.returns-in-Some-clause-done
returns-in-Some-clause-done c = λ e. puts-node c.args.meta.now c.args.ino c.args.rec.now c.in-Some.page.now.main c.write.new.page.main c.in-Some.ensures.value c.write.ensures.whole c.write.ensures.width c.write.ensures.main c.write.ensures.back
