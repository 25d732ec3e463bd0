use Rattle.nl_callbacks.proofs.StampProofs.{stamped_mark}
use Rattle.nl_callbacks.proofs.stamped.mark_stamped.Goals as goal

pub returns-clause-stamped : goal.returns-clause-stamped
returns-clause-stamped c = stamped_mark c.args.entries.now.items c.mark_entry.new.entries.items c.args.stamps.now.items c.args.at c.args.transaction c.requires.stamped c.requires.within c.mark_entry.ensures.items
