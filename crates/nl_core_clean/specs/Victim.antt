-- Which block is cleaned, and what is left of it.
use Rattle.std.specs.Prelude.{◌≡◌, ◌⊎◌, ℕ, Some, None}
use Rattle.nl_core_clean.specs.declared.cleaning.Cleaned.{Cleaned}
use Rattle.nl_core_clean.specs.declared.cleaning.Cleaned.TheVariants as the
use Rattle.nl_iface.specs.Calls.{stored}
use Rattle.nl_iface.specs.Victims.{IsWiped, StaysOrTakes}
use Rattle.nl_iface.specs.declared.counts.Counts.{Ghosts}
use Rattle.nl_iface.specs.declared.moving_pages.MovingPages.{Ghosts as Moving}

-- The block was in hand; or none was, and it was one with the most dead pages.
abbrev pub IsVictimOrMostDead : {D : Type 0} → Moving D → D → ℕ → Type 0
IsVictimOrMostDead m old block = (m.victim old ≡ Some block) ⊎ ((m.victim old ≡ None) × m.most_dead old block)

-- One block was erased, each page of it, and none is in hand now.
pub record WipesBlock {D : Type 0} (g : Ghosts D) (m : Moving D) (old new : D) : Type 0 where
  pub block : ℕ
  pub chosen : IsVictimOrMostDead m old block
  pub none : m.victim new ≡ None
  pub wiped : g.tells → IsWiped (m.blank new) (g.shape old).pages block (stored g new)

-- Where a cleaning was not done, the victim is the one that was in hand, or one with the most dead pages from now on.
abbrev pub CleansBlock : {D : Type 0} → Ghosts D → Moving D → Cleaned → D → D → Type 0
CleansBlock g m the.Done old new = WipesBlock g m old new
CleansBlock g m the.Nothing old new = m.victim new ≡ m.victim old
CleansBlock g m (the.Lost w f) old new = StaysOrTakes (m.most_dead old) (m.victim old) (m.victim new)
CleansBlock g m the.Fault old new = StaysOrTakes (m.most_dead old) (m.victim old) (m.victim new)
