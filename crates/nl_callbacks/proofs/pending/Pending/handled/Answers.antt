use Rattle.std.proofs.Common.{rules, ap, ◌∙◌, ◌-◌, length}
use Rattle.nl_callbacks.specs.declared.entry.Entry.{Entry}
use Rattle.nl_callbacks.specs.Pending.{no_entry}
use Rattle.nl_callbacks.proofs.ListsProofs.{at_is}
use Rattle.nl_callbacks.proofs.IndexProofs.{place_counts}
use Rattle.nl_callbacks.proofs.PendingProofs.{handled_view, kept_view}
use Rattle.nl_callbacks.proofs.pending.Pending.handled.Goals as goal

pub returns-in-None-clause-handled : goal.returns-in-None-clause-handled
returns-in-None-clause-handled c =
    let here = at_is no_entry c.self.inside.entries.items c.entry_place-at.result c.index-entry.result.now (search rules) c.index-entry.ensures in
    rw (← c.self.view_is) (handled_view c.self.inside.entries.items c.mark_stamped.new.entries.items c.self.inside.room c.self.inside.posted c.entry_place-at.result c.args.number c.args.transaction c.mark_stamped.ensures.items
    (ap (λ (e : Entry). e.transaction) here ∙ c.in-None.is) (place_counts c.self.inside.entries.items c.args.number c.entry_place-at.result c.entry_place-at.ensures))

pub returns-in-Some-clause-handled : goal.returns-in-Some-clause-handled
returns-in-Some-clause-handled c =
    let here = at_is no_entry c.self.inside.entries.items c.entry_place-at.result c.index-entry.result.now (search rules) c.index-entry.ensures in
    rw (← c.self.view_is) (kept_view c.self.inside.entries.items (c.self.inside.room - length c.self.inside.entries.items) c.self.inside.posted c.entry_place-at.result c.args.number c.args.transaction c.in-Some.field-0
    (ap (λ (e : Entry). e.transaction) here ∙ c.in-Some.is) (place_counts c.self.inside.entries.items c.args.number c.entry_place-at.result c.entry_place-at.ensures))
