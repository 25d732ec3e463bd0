use Rattle.std.proofs.Common.{rules}
use Rattle.nl_callbacks.proofs.IndexProofs.{kept_mark, waiting_found}
use Rattle.nl_callbacks.proofs.lists.mark_entry.Goals as goal

pub remove-requires : goal.remove-requires
remove-requires c =
    let found = waiting_found c.args.entries.now.items c.args.names.now.items c.args.waiting.now.items c.args.done.now.items c.args.at c.place-wait.result c.index-entry.result.now c.requires.kept c.requires.within c.index-entry.ensures c.requires.waits c.place-wait.ensures in
    search rules

pub returns-clause-kept : goal.returns-clause-kept
returns-clause-kept c = kept_mark c.args.entries.now.items c.args.names.now.items c.args.waiting.now.items c.remove.new.self.items c.args.done.now.items c.put.new.links.items
    c.args.at c.place-wait.result c.place-handled.result c.args.transaction c.index-entry.result.now c.requires.kept c.requires.within c.index-entry.ensures c.requires.waits
    c.place-wait.ensures c.remove.ensures.items c.place-handled.ensures c.put.ensures.items
