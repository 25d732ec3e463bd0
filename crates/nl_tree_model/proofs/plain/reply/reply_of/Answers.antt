use Rattle.nl_tree_model.proofs.CallProofs.{stat_there, list_there}
use Rattle.nl_tree_model.proofs.plain.reply.reply_of.Goals as goal

pub status_at-requires-clause-there : goal.status_at-requires-clause-there
status_at-requires-clause-there c = stat_there c.args.tree.now c.args.call.now c.in-Stat.path c.requires.passes c.in-Stat.is

pub names_at-requires-clause-there : goal.names_at-requires-clause-there
names_at-requires-clause-there c = list_there c.args.tree.now c.args.call.now c.in-List.path c.requires.passes c.in-List.is
