use Rattle.std.proofs.Common.{rules}
use Rattle.nl_callbacks.proofs.StampProofs.{stamp_found, stamped_drop}
use Rattle.nl_callbacks.proofs.stamped.drop_stamped.Goals as goal

pub remove-requires : goal.remove-requires
remove-requires c =
    let found = stamp_found c.args.entries.now.items c.args.stamps.now.items c.args.at c.place-link.result c.index-entry.result.now c.requires.stamped c.requires.within c.index-entry.ensures c.place-link.ensures in
    search rules

pub returns-clause-stamped : goal.returns-clause-stamped
returns-clause-stamped c = stamped_drop c.args.entries.now.items c.drop_entry.new.entries.items c.args.stamps.now.items c.remove.new.self.items c.args.at c.place-link.result c.index-entry.result.now
    c.requires.stamped c.requires.kept.rising c.requires.within c.index-entry.ensures c.place-link.ensures c.remove.ensures.items c.drop_entry.ensures.items
