-- The numbers of the space after a cleaning.
use Rattle.std.specs.Prelude.{◌≡◌, ◌⊎◌}
use Rattle.nl_core_clean.specs.declared.cleaning.Cleaned.{Cleaned}
use Rattle.nl_core_clean.specs.declared.cleaning.Cleaned.TheVariants as the
use Rattle.nl_iface.specs.declared.moving.Copying.{Copying}
use Rattle.nl_iface.specs.declared.moving.Copying.TheVariants as copy
use Rattle.nl_iface.specs.Moves.{HasNothingToCopy}
use Rattle.nl_iface.specs.Rounds.{MovesSomePages}
use Rattle.nl_iface.specs.Space.{Erased, NoneRetired, SameSegment, Space}

-- pages of a victim were moved, or none
abbrev pub HasMoved : Space → Space → Type 0
HasMoved s m = (m ≡ s) ⊎ MovesSomePages s m

-- A victim is in hand afterwards. As many pages are live.
pub record StaysInHand (s t : Space) : Type 0 where
  pub same : SameSegment s t
  pub bad : NoneRetired s t
  pub victim : t.victim ≡ 1
  pub live : t.live ≡ s.live

-- A victim was moved and erased: it was in hand, or was begun with a dead page. Or there was none to begin. Where the cleaning stopped
-- short, the victim is in hand.
abbrev pub CleansVictim : Cleaned → Space → Space → Type 0
CleansVictim the.Done s t = (m : Space) × HasMoved s m × Erased m t
CleansVictim the.Nothing s t = HasNothingToCopy s × (s.victim ≡ 0) × (t ≡ s)
CleansVictim (the.Lost w f) s t = StaysInHand s t
CleansVictim the.Fault s t = StaysInHand s t

-- All live pages of the victim were moved, or a move failed.
abbrev pub HasEmptied : Copying → Space → Space → Type 0
HasEmptied copy.Did s t = ⊥
HasEmptied copy.Nothing s t = HasMoved s t × HasNothingToCopy t
HasEmptied (copy.Lost w f) s t = StaysInHand s t
HasEmptied copy.Fault s t = StaysInHand s t
