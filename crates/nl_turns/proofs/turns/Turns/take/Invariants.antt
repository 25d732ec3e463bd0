use Rattle.std.specs.Prelude.{Some}
use Rattle.nl_turns.proofs.turns.Turns.take.Given as goal

-- the origin of this lock
abbrev pub ghosts-reach : goal.ghosts-reach
ghosts-reach g a = record { origin = Some a.top.now.key.value.value }
