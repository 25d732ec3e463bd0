use Rattle.std.proofs.Common.{◌≡◌, replicate, None}
use Rattle.nl_blocks.proofs.tournament.Tournament.new.Given as goal

abbrev pub invariant-made : goal.invariant-made
invariant-made l = l.tree.items ≡ replicate l.counter None
