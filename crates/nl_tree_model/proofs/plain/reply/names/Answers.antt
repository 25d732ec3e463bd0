use Rattle.std.proofs.Common.{arith, ap, length}
use Rattle.nl_tree_model.proofs.RoomProofs.{listing_fits}
use Rattle.nl_tree_model.proofs.plain.reply.names.Goals as goal

pub push_names-requires : goal.push_names-requires
push_names-requires c = omega (arith, listing_fits c.args.tree.now c.args.path.now c.requires.roomy c.requires.there, ap length c.requires.empty)
