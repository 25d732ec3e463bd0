use Rattle.std.proofs.Common.{rules}
use Rattle.nl_turns.specs.Rule.{by_entries}
use Rattle.nl_turns.proofs.Begins.{lock_parks}
use Rattle.nl_turns.proofs.steps.put_home.Goals as goal

pub load-requires : goal.load-requires
load-requires g c =
    let stands = by_entries (g.V.Kept.stands c.args.top.now.key.value.value) in
    let t = c.requires.turn in
    (search rules, search rules, lock_parks stands _ _ _ _ _ _ t.1 t.2)
