use Rattle.std.proofs.Common.{rules}
use Rattle.nl_turns.specs.Rule.{by_entries}
use Rattle.nl_turns.proofs.Begins.{begin_keeps}
use Rattle.nl_turns.proofs.steps.begin.Goals as goal

pub load-requires : goal.load-requires
load-requires g c = (search rules, search rules, begin_keeps (by_entries (g.V.Kept.stands c.args.top.now.key.value.value)) _ _ _ _ _ g.O.Opens.opening c.requires.blank c.requires.stands)
