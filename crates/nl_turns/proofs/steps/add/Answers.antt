use Rattle.std.proofs.Common.{rules}
use mathlib.Core.List.{map-append}
use Rattle.nl_turns.specs.Seat.{Passed}
use Rattle.nl_turns.specs.Rule.{by_entries}
use Rattle.nl_turns.proofs.Begins.{lock_adds}
use Rattle.nl_turns.proofs.steps.add.Goals as goal

pub fetch_add-passed-requires : goal.fetch_add-passed-requires
fetch_add-passed-requires g c =
    let stands = by_entries (g.V.Kept.stands c.args.top.now.key.value.value) in
    let t = c.requires.turn in (
      search rules,
      search rules,
      lock_adds stands _ _ _ _ _ g.E.Says.entry _ _ t.2 t.3 (rw (c.requires.said, map-append (λ (p : Passed). p.entry)) t.4),
    )
