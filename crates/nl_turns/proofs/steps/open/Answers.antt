use Rattle.nl_turns.specs.Rule.{by_entries}
use Rattle.nl_turns.proofs.Begins.{lock_start}
use Rattle.nl_turns.proofs.steps.open.Goals as goal

pub new-requires : goal.new-requires
new-requires g c = rw (c.of.ensures, c.push_reserved.ensures.items, c.in-Ok.ensures.items) (lock_start (by_entries (g.V.Kept.stands c.args.value)) c.args.value c.args.seats c.requires.seats.0 c.requires.seats.1)
