use Rattle.std.proofs.Common.{rules, ◌∷◌, Some, sym, ap, ◌∙◌}
use Rattle.atomic_table.specs.Table.{rest}
use Rattle.nl_turns.proofs.turns.Turns.take.Goals as goal

pub exchange-requires : goal.exchange-requires
exchange-requires g c =
    let r = c.reach.ensures.reached.1 in
    let slots = ap (λ m. m.1) r.2 in
    (search rules, (Some r.1, slots ∙ ap (λ xs. (0, Some r.1) ∷ rest xs) (sym slots)))
