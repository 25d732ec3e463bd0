use Rattle.std.proofs.Common.{sym, subst, arith}
use Rattle.nl_tree_model.specs.PlainTree.{IsRoomy}
use Rattle.nl_tree_model.proofs.RoomProofs.{roomy}
use Rattle.nl_tree_model.proofs.plain.reply_in.Goals as goal

pub reply_of-requires-clause-roomy : goal.reply_of-requires-clause-roomy
reply_of-requires-clause-roomy c = subst IsRoomy (sym c.deref.ensures.value) (roomy c.args.shape c.args.tree.now.items (omega arith) c.requires.plain)
