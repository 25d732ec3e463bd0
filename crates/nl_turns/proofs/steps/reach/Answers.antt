use Rattle.std.proofs.Common.{rules, ap, ◌∙◌}
use Rattle.nl_turns.specs.Rule.{by_entries}
use Rattle.nl_turns.proofs.Begins.{lock_draws, lock_looks}
use Rattle.nl_turns.proofs.steps.reach.Goals as goal

pub fetch_add-ticket-requires : goal.fetch_add-ticket-requires
fetch_add-ticket-requires g c =
    let stands = by_entries (g.V.Kept.stands c.args.top.now.key.value.value) in
    (search rules, search rules, lock_draws stands _ _ _ _ _ c.requires.idle.0)

pub load-passed-requires : goal.load-passed-requires
load-passed-requires g c =
    let stands = by_entries (g.V.Kept.stands c.args.top.now.key.value.value) in
    let d = c.fetch_add-ticket.ensures.2 in
    let waiting = ap (λ m. m.0.role) (c.loop.invariant.2 ∙ d.1) in
    (search rules, search rules, rw (c.requires.told) (lock_looks stands _ _ _ _ _ d.0 waiting))
