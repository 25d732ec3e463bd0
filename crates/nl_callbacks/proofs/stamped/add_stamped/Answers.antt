use Rattle.std.proofs.Common.{rules}
use Rattle.nl_callbacks.proofs.StampProofs.{stamped_add}
use Rattle.nl_callbacks.proofs.stamped.add_stamped.Goals as goal

pub returns-clause-stamped : goal.returns-clause-stamped
returns-clause-stamped c = stamped_add c.args.entries.now.items c.add_entry.new.entries.items c.args.stamps.now.items c.put.new.links.items c.place-at.result c.args.callback
    c.requires.stamped c.requires.fresh (search rules) c.place-at.ensures c.put.ensures.items c.add_entry.ensures.items
