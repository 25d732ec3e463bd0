use Rattle.std.proofs.Common.{arith, rules}
use Rattle.nl_callbacks.proofs.Filters.{acknowledged_over, none_over}
use Rattle.nl_callbacks.proofs.PendingProofs.{acknowledge_at, acknowledge_empty, acknowledge_none, acknowledged, inside_drop}
use Rattle.nl_callbacks.proofs.pending.Pending.acknowledge_next.Goals as goal

pub returns-then-len-eq0-clause-none : goal.returns-then-len-eq0-clause-none
returns-then-len-eq0-clause-none c =
    rw (← c.self.view_is) (λ i transaction within by. absurd (acknowledge_empty c.self.inside.entries.items c.self.inside.names.items c.self.inside.waiting.items c.self.inside.done.items i transaction c.self.invariant.kept (omega (arith, c.self.inside.done.ok)) within by))

pub returns-then-link-upto-clause-none : goal.returns-then-link-upto-clause-none
returns-then-link-upto-clause-none c =
    rw (← c.self.view_is) (λ i transaction within by. acknowledge_none c.self.inside.entries.items c.self.inside.names.items c.self.inside.waiting.items c.self.inside.done.items c.index-link.result.now c.args.upto i transaction c.self.invariant.kept (omega (arith, c.self.inside.done.ok)) c.index-link.ensures c.if-link-upto.true within by)

pub index-requires : goal.index-requires
index-requires c =
    let found = acknowledge_at c.self.inside.entries.items c.self.inside.names.items c.self.inside.waiting.items c.self.inside.done.items c.index-link.result.now c.entry_place-at.result c.self.invariant.kept (omega (arith, c.self.inside.done.ok)) c.index-link.ensures c.entry_place-at.ensures in
    search rules

pub drop_stamped-requires-clause-within : goal.drop_stamped-requires-clause-within
drop_stamped-requires-clause-within c =
    let found = acknowledge_at c.self.inside.entries.items c.self.inside.names.items c.self.inside.waiting.items c.self.inside.done.items c.index-link.result.now c.entry_place-at.result c.self.invariant.kept (omega (arith, c.self.inside.done.ok)) c.index-link.ensures c.entry_place-at.ensures in
    found.0

pub invariant_of-self : goal.invariant_of-self
invariant_of-self c =
    let found = acknowledge_at c.self.inside.entries.items c.self.inside.names.items c.self.inside.waiting.items c.self.inside.done.items c.index-link.result.now c.entry_place-at.result c.self.invariant.kept (omega (arith, c.self.inside.done.ok)) c.index-link.ensures c.entry_place-at.ensures in
    inside_drop c.self.inside.room c.self.inside.posted c.entry_place-at.result c.self.inside.entries.items c.drop_stamped.new.entries.items c.self.inside.names.items c.drop_stamped.new.names.items c.self.inside.waiting.items c.drop_stamped.new.waiting.items c.self.inside.done.items c.drop_stamped.new.done.items c.self.inside.stamps.items c.drop_stamped.new.stamps.items
    _ _ _ _ _ _ _ _ _ _ c.self.invariant found.0 c.drop_stamped.ensures.kept c.drop_stamped.ensures.stamped c.drop_stamped.ensures.items c.drop_stamped.ensures.entries_capacity c.drop_stamped.ensures.names_capacity c.drop_stamped.ensures.waiting_capacity c.drop_stamped.ensures.done_capacity c.drop_stamped.ensures.stamps_capacity

pub returns-clause-some : goal.returns-clause-some
returns-clause-some c =
    rw (← c.self.view_is) (acknowledged c.self.inside.entries.items c.drop_stamped.new.entries.items c.self.inside.names.items c.self.inside.waiting.items c.self.inside.done.items c.index-link.result.now c.index.result.now c.self.inside.room c.self.inside.posted c.args.upto c.entry_place-at.result
    c.self.invariant.kept (omega (arith, c.self.inside.done.ok)) c.index-link.ensures c.entry_place-at.ensures c.if-link-upto.false c.index.ensures c.drop_stamped.ensures.items c.self.invariant.few)

pub returns-then-len-eq0-clause-all : goal.returns-then-len-eq0-clause-all
returns-then-len-eq0-clause-all c = none_over c.args.self.now.callbacks c.args.upto (returns-then-len-eq0-clause-none c)

pub returns-then-link-upto-clause-all : goal.returns-then-link-upto-clause-all
returns-then-link-upto-clause-all c = none_over c.args.self.now.callbacks c.args.upto (returns-then-link-upto-clause-none c)

pub returns-clause-over : goal.returns-clause-over
returns-clause-over c = acknowledged_over (returns-clause-some c)

pub returns-clause-table : goal.returns-clause-table
returns-clause-table c = (invariant_of-self c).table
