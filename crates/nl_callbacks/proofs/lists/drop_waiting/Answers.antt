use Rattle.std.proofs.Common.{rules}
use Rattle.nl_callbacks.proofs.IndexProofs.{kept_drop_waiting, name_found, waiting_found}
use Rattle.nl_callbacks.proofs.lists.drop_waiting.Goals as goal

pub remove-requires : goal.remove-requires
remove-requires c =
    let found = name_found c.args.entries.now.items c.args.names.now.items c.args.waiting.now.items c.args.done.now.items c.args.at c.place-name.result c.index-entry.result.now c.requires.kept c.requires.within c.index-entry.ensures c.place-name.ensures in
    search rules

pub remove-requires-2 : goal.remove-requires-2
remove-requires-2 c =
    let found = waiting_found c.args.entries.now.items c.args.names.now.items c.args.waiting.now.items c.args.done.now.items c.args.at c.place-wait.result c.index-entry.result.now c.requires.kept c.requires.within c.index-entry.ensures c.requires.waits c.place-wait.ensures in
    search rules

pub returns-clause-kept : goal.returns-clause-kept
returns-clause-kept c = kept_drop_waiting c.args.entries.now.items c.remove-3.new.self.items c.args.names.now.items c.remove.new.self.items c.args.waiting.now.items c.remove-2.new.self.items c.args.done.now.items
    c.args.at c.place-name.result c.place-wait.result c.index-entry.result.now c.requires.kept c.requires.within c.index-entry.ensures c.requires.waits
    c.place-name.ensures c.remove.ensures.items c.place-wait.ensures c.remove-2.ensures.items c.remove-3.ensures.items
