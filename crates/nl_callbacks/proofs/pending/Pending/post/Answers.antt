use Rattle.std.proofs.Common.{rules, ◌≡◌, ◌+◌, ◌≤◌, ◌∷◌, ◌++◌, [], sym, ◌∙◌, ap, subst}
use Rattle.nl_callbacks.specs.declared.entry.Entry.{Entry}
use Rattle.nl_callbacks.specs.Pending.{PendingTable, callback_of, new_entry}
use Rattle.nl_callbacks.proofs.Filters.{appended}
use Rattle.nl_callbacks.proofs.StampProofs.{inside_add}
use Rattle.nl_callbacks.proofs.pending.Pending.post.Goals as goal

pub returns-clause-appends : goal.returns-clause-appends
returns-clause-appends c small =
    let number = c.next_number-number.result in
    let entry : Entry = new_entry (callback_of number c.args.old c.args.new c.args.tag c.args.stamp) in
    let next : number ≡ c.self.inside.posted + 1 = c.next_number-number.ensures.next small ∙ ap (λ (t : PendingTable). t.posted + 1) (sym c.self.view_is) in
    subst (λ (t : PendingTable). c.add_stamped.new.entries.items ≡ t.callbacks ++ entry ∷ []) c.self.view_is
    (c.add_stamped.ensures.items ∙ appended c.self.inside.entries.items c.self.inside.posted number entry c.self.invariant.table next)

pub invariant_of-self : goal.invariant_of-self
invariant_of-self c =
    let number = c.next_number-number.result in
    inside_add c.self.inside.room c.self.inside.posted c.saturating_add-self-inside.result c.self.inside.entries.items c.add_stamped.new.entries.items c.self.inside.names.items c.add_stamped.new.names.items
    c.self.inside.waiting.items c.add_stamped.new.waiting.items c.self.inside.done.items c.self.inside.stamps.items c.add_stamped.new.stamps.items (callback_of number c.args.old c.args.new c.args.tag c.args.stamp)
    _ _ _ _ _ _ _ _ _ c.self.invariant (search rules) c.add_stamped.ensures.kept c.add_stamped.ensures.stamped c.add_stamped.ensures.items (search rules) c.next_number-number.ensures.some (search rules)
    c.add_stamped.ensures.entries_capacity c.add_stamped.ensures.names_capacity c.add_stamped.ensures.waiting_capacity c.add_stamped.ensures.stamps_capacity

pub returns-clause-table : goal.returns-clause-table
returns-clause-table c = (invariant_of-self c).table
