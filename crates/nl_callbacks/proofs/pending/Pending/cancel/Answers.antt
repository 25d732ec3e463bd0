use Rattle.std.proofs.Common.{arith, rules, ◌≡◌, ◌∙◌, subst, refl}
use Rattle.std.proofs.lemmas.Bool.{false≢true}
use Rattle.nl_callbacks.specs.declared.links.Link.{Link}
use Rattle.nl_callbacks.specs.Links.{no_link}
use Rattle.nl_callbacks.proofs.Filters.{cancelled_beside, none_named}
use Rattle.nl_callbacks.proofs.ListsProofs.{at_is}
use Rattle.nl_callbacks.proofs.PendingProofs.{cancel_at, cancel_found, cancelled, inside_drop}
use Rattle.nl_callbacks.proofs.pending.Pending.cancel.Goals as goal

pub returns-then-here-len-clause-found : goal.returns-then-here-len-clause-found
returns-then-here-len-clause-found c = rw (← c.self.view_is) (
  λ yes_so. absurd (false≢true yes_so),
  λ named.
      let found = cancel_found c.self.inside.entries.items c.self.inside.names.items c.self.inside.waiting.items c.self.inside.done.items c.args.name c.place-here.result named.0 c.self.invariant.kept c.place-here.ensures named.1 named.2 in
      absurd (omega (arith, found.0, c.self.inside.names.ok)),
)

pub returns-then-link-name-clause-found : goal.returns-then-link-name-clause-found
returns-then-link-name-clause-found c = rw (← c.self.view_is) (
  λ yes_so. absurd (false≢true yes_so),
  λ named.
      let found = cancel_found c.self.inside.entries.items c.self.inside.names.items c.self.inside.waiting.items c.self.inside.done.items c.args.name c.place-here.result named.0 c.self.invariant.kept c.place-here.ensures named.1 named.2 in
      absurd (c.if-link-name.true (subst (λ (l : Link). l.key ≡ c.args.name) (at_is no_link c.self.inside.names.items c.place-here.result c.index-link.result.now found.0 c.index-link.ensures) found.1)),
)

pub drop_stamped-requires-clause-within : goal.drop_stamped-requires-clause-within
drop_stamped-requires-clause-within c =
    let found = cancel_at c.self.inside.entries.items c.self.inside.names.items c.self.inside.waiting.items c.self.inside.done.items c.place-here.result c.entry_place-at.result c.index-link.result.now c.self.invariant.kept (search rules) c.index-link.ensures c.entry_place-at.ensures in
    found.0

pub invariant_of-self : goal.invariant_of-self
invariant_of-self c =
    let found = cancel_at c.self.inside.entries.items c.self.inside.names.items c.self.inside.waiting.items c.self.inside.done.items c.place-here.result c.entry_place-at.result c.index-link.result.now c.self.invariant.kept (search rules) c.index-link.ensures c.entry_place-at.ensures in
    inside_drop c.self.inside.room c.self.inside.posted c.entry_place-at.result c.self.inside.entries.items c.drop_stamped.new.entries.items c.self.inside.names.items c.drop_stamped.new.names.items c.self.inside.waiting.items c.drop_stamped.new.waiting.items c.self.inside.done.items c.drop_stamped.new.done.items c.self.inside.stamps.items c.drop_stamped.new.stamps.items
    _ _ _ _ _ _ _ _ _ _ c.self.invariant found.0 c.drop_stamped.ensures.kept c.drop_stamped.ensures.stamped c.drop_stamped.ensures.items c.drop_stamped.ensures.entries_capacity c.drop_stamped.ensures.names_capacity c.drop_stamped.ensures.waiting_capacity c.drop_stamped.ensures.done_capacity c.drop_stamped.ensures.stamps_capacity

pub returns-clause-found : goal.returns-clause-found
returns-clause-found c =
    let found = cancel_at c.self.inside.entries.items c.self.inside.names.items c.self.inside.waiting.items c.self.inside.done.items c.place-here.result c.entry_place-at.result c.index-link.result.now c.self.invariant.kept (search rules) c.index-link.ensures c.entry_place-at.ensures in
    rw (← c.self.view_is) (λ _. (c.entry_place-at.result, found.0, found.1 ∙ c.if-link-name.false), λ _. refl)

pub returns-clause-cancelled : goal.returns-clause-cancelled
returns-clause-cancelled c =
    rw (← c.self.view_is) (cancelled c.self.inside.entries.items c.drop_stamped.new.entries.items c.self.inside.names.items c.self.inside.waiting.items c.self.inside.done.items c.index-link.result.now c.self.inside.room c.self.inside.posted c.args.name c.place-here.result c.entry_place-at.result
    c.self.invariant.kept c.place-here.ensures (search rules) c.index-link.ensures c.if-link-name.false c.entry_place-at.ensures c.drop_stamped.ensures.items c.self.invariant.few)

pub returns-clause-beside : goal.returns-clause-beside
returns-clause-beside c = cancelled_beside (returns-clause-cancelled c)

pub returns-then-here-len-clause-all : goal.returns-then-here-len-clause-all
returns-then-here-len-clause-all c = none_named c.args.self.now.callbacks c.args.name (λ named. false≢true ((returns-then-here-len-clause-found c).1 named))

pub returns-then-link-name-clause-all : goal.returns-then-link-name-clause-all
returns-then-link-name-clause-all c = none_named c.args.self.now.callbacks c.args.name (λ named. false≢true ((returns-then-link-name-clause-found c).1 named))

pub returns-clause-table : goal.returns-clause-table
returns-clause-table c = (invariant_of-self c).table
