use Rattle.nl_remap.proofs.TableProofs.{led_view, pair_place, place_counts}
use Rattle.nl_remap.proofs.remap.Remap.lead_on.Goals as goal

pub returns-clause-place : goal.returns-clause-place
returns-clause-place c =
    let has = rw (← c.self.view_is) at c.requires.has in
    let found = pair_place c.self.inside.by_old.items c.place-at.result c.args.name c.args.old c.self.invariant.0.table c.place-at.ensures has in
    rw (← c.self.view_is, place_counts c.self.inside.by_old.items c.args.name c.place-at.result c.self.invariant.0.table c.place-at.ensures) found.0

pub returns-clause-pair : goal.returns-clause-pair
returns-clause-pair c =
    let has = rw (← c.self.view_is) at c.requires.has in
    let found = pair_place c.self.inside.by_old.items c.place-at.result c.args.name c.args.old c.self.invariant.0.table c.place-at.ensures has in
    rw (← c.self.view_is, place_counts c.self.inside.by_old.items c.args.name c.place-at.result c.self.invariant.0.table c.place-at.ensures) found.1

pub returns-clause-led : goal.returns-clause-led
returns-clause-led c =
    let has = rw (← c.self.view_is) at c.requires.has in
    let found = pair_place c.self.inside.by_old.items c.place-at.result c.args.name c.args.old c.self.invariant.0.table c.place-at.ensures has in
    rw (← c.self.view_is) (led_view c.self.inside.by_old.items c.lead_pair.new.by_old.items c.self.inside.room c.place-at.result c.args.name c.args.old c.args.new c.lead_pair.ensures.items found.1
    (place_counts c.self.inside.by_old.items c.args.name c.place-at.result c.self.invariant.0.table c.place-at.ensures))
