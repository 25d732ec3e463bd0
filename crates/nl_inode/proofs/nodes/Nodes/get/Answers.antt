use Rattle.std.proofs.Common.{◌∙◌, sym, ap, is_some}
use Rattle.nl_inode.proofs.NodeSlots.{spelled-at}
use Rattle.nl_inode.proofs.nodes.Nodes.get.Goals as goal

pub spelled_at-requires-clause-spelled : goal.spelled_at-requires-clause-spelled
spelled_at-requires-clause-spelled c = sym (ap is_some (spelled-at c.args.meta.now c.args.ino c.page.result.now.main c.page.ensures)) ∙ c.requires.spelled

pub returns : goal.returns
returns c = spelled-at c.args.meta.now c.args.ino c.page.result.now.main c.page.ensures ∙ c.spelled_at.ensures
