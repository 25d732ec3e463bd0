use Rattle.std.proofs.Common.{rules, sym, ◌∙◌, ap, insert, None}
use Rattle.nl_callbacks.specs.declared.entry.Entry.{Entry}
use Rattle.nl_callbacks.proofs.IndexProofs.{kept_add, place_counts}
use Rattle.nl_callbacks.proofs.lists.add_entry.Goals as goal

pub returns-clause-kept : goal.returns-clause-kept
returns-clause-kept c = kept_add c.args.entries.now.items c.put_entry.new.entries.items c.args.names.now.items c.put.new.links.items c.args.waiting.now.items c.put-2.new.links.items c.args.done.now.items
    c.entry_place-at.result c.place-name.result c.place-wait.result c.args.callback c.requires.kept c.requires.fresh (search rules)
    c.place-name.ensures c.put.ensures.items c.place-wait.ensures c.put-2.ensures.items c.entry_place-at.ensures c.put_entry.ensures.items

pub returns-clause-items : goal.returns-clause-items
returns-clause-items c = c.put_entry.ensures.items
    ∙ ap (λ k. let new : Entry = record { callback = c.args.callback; transaction = None } in insert c.args.entries.now.items k new) (sym (place_counts c.args.entries.now.items c.args.callback.number c.entry_place-at.result c.entry_place-at.ensures))
