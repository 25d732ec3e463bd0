-- What a cleaning is to a round.
use Rattle.std.specs.Prelude.{◌≡◌, ◌⊎◌}
use Rattle.nl_core_clean.specs.Spaces.{CleansVictim}
use Rattle.nl_core_clean.specs.declared.cleaning.Cleaned.{Cleaned}
use Rattle.nl_core_clean.specs.declared.cleaning.Cleaned.TheVariants as the
use Rattle.nl_iface.specs.Rounds.{Cleans}
use Rattle.nl_iface.specs.Space.{Space}

-- A cleaning that is done, or that finds nothing to clean, is one of a round, so that rounds gain and end.
abbrev pub IsOfReclaimPass : Type 0
IsOfReclaimPass = (answer : Cleaned) (s t : Space) → (answer ≡ the.Done) ⊎ (answer ≡ the.Nothing) → CleansVictim answer s t → Cleans s t
