use Rattle.std.proofs.Common.{arith, rules, ◌≡◌, ◌∙◌, ap, subst}
use Rattle.nl_iface.specs.declared.Callback.{Callback}
use Rattle.nl_callbacks.specs.declared.entry.Entry.{Entry}
use Rattle.nl_callbacks.specs.declared.links.Link.{Link}
use Rattle.nl_callbacks.specs.Links.{no_link}
use Rattle.nl_callbacks.specs.Pending.{no_entry}
use Rattle.nl_callbacks.proofs.Filters.{none_stamped}
use Rattle.nl_callbacks.proofs.ListsProofs.{at_is}
use Rattle.nl_callbacks.proofs.PendingProofs.{keyed_at, keyed_found}
use Rattle.nl_callbacks.proofs.pending.Pending.of_stamp.Goals as goal

pub returns-then-here-len-clause-none : goal.returns-then-here-len-clause-none
returns-then-here-len-clause-none c = rw (← c.self.view_is) (none_stamped c.self.inside.entries.items c.args.stamp (λ i within is.
    let found = keyed_found (λ e. e.callback.stamp) c.self.inside.entries.items c.self.inside.stamps.items c.self.invariant.kept.rising c.self.invariant.stamped.by_stamp c.args.stamp c.place-here.result i c.place-here.ensures within is in
    omega (arith, found.0, c.self.inside.stamps.ok)))

pub returns-then-link-stamp-clause-none : goal.returns-then-link-stamp-clause-none
returns-then-link-stamp-clause-none c = rw (← c.self.view_is) (none_stamped c.self.inside.entries.items c.args.stamp (λ i within is.
    let found = keyed_found (λ e. e.callback.stamp) c.self.inside.entries.items c.self.inside.stamps.items c.self.invariant.kept.rising c.self.invariant.stamped.by_stamp c.args.stamp c.place-here.result i c.place-here.ensures within is in
    c.if-link-stamp.true (subst (λ (l : Link). l.key ≡ c.args.stamp) (at_is no_link c.self.inside.stamps.items c.place-here.result c.index-link.result.now found.0 c.index-link.ensures) found.1)))

pub index-requires : goal.index-requires
index-requires c =
    let found = keyed_at (λ e. e.callback.stamp) c.self.inside.entries.items c.self.inside.stamps.items c.self.invariant.kept.rising c.self.invariant.stamped.by_stamp c.place-here.result c.entry_place-at.result c.index-link.result.now (search rules) c.index-link.ensures c.entry_place-at.ensures in
    search rules

pub returns-clause-some : goal.returns-clause-some
returns-clause-some c =
    let found = keyed_at (λ e. e.callback.stamp) c.self.inside.entries.items c.self.inside.stamps.items c.self.invariant.kept.rising c.self.invariant.stamped.by_stamp c.place-here.result c.entry_place-at.result c.index-link.result.now (search rules) c.index-link.ensures c.entry_place-at.ensures in
    rw (← c.self.view_is) (c.entry_place-at.result, found.0, ap (λ (e : Entry). e.callback) (at_is no_entry c.self.inside.entries.items c.entry_place-at.result c.index.result.now found.0 c.index.ensures))

pub returns-clause-stamp : goal.returns-clause-stamp
returns-clause-stamp c =
    let found = keyed_at (λ e. e.callback.stamp) c.self.inside.entries.items c.self.inside.stamps.items c.self.invariant.kept.rising c.self.invariant.stamped.by_stamp c.place-here.result c.entry_place-at.result c.index-link.result.now (search rules) c.index-link.ensures c.entry_place-at.ensures in
    subst (λ (e : Entry). e.callback.stamp ≡ c.args.stamp) (at_is no_entry c.self.inside.entries.items c.entry_place-at.result c.index.result.now found.0 c.index.ensures) (found.1 ∙ c.if-link-stamp.false)

pub returns-clause-least : goal.returns-clause-least
returns-clause-least c = rw (← c.self.view_is) (λ i within is.
    let key = λ (e : Entry). e.callback.stamp in
    let found = keyed_at key c.self.inside.entries.items c.self.inside.stamps.items c.self.invariant.kept.rising c.self.invariant.stamped.by_stamp c.place-here.result c.entry_place-at.result c.index-link.result.now (search rules) c.index-link.ensures c.entry_place-at.ensures in
    let first = keyed_found key c.self.inside.entries.items c.self.inside.stamps.items c.self.invariant.kept.rising c.self.invariant.stamped.by_stamp c.args.stamp c.place-here.result i c.place-here.ensures within is in
    let here = ap (λ (e : Entry). e.callback.number) (at_is no_entry c.self.inside.entries.items c.entry_place-at.result c.index.result.now found.0 c.index.ensures) in
    let standing = ap (λ (l : Link). l.number) (at_is no_link c.self.inside.stamps.items c.place-here.result c.index-link.result.now first.0 c.index-link.ensures) in
    omega (arith, first.2, found.2, here, standing))
