use Rattle.std.proofs.Common.{rules}
use Rattle.nl_turns.specs.Rule.{by_entries}
use Rattle.nl_turns.proofs.Begins.{lock_settles}
use Rattle.nl_turns.proofs.steps.settle.Goals as goal

pub load-requires : goal.load-requires
load-requires g c =
    let stands = by_entries (g.V.Kept.stands c.args.top.now.key.value.value) in
    let h = c.requires.hosts in
    (search rules, search rules, lock_settles stands _ _ _ _ _ _ _ _ h.3)
