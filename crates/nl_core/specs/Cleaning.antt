-- What the cleaning of one victim does to a core.
use Rattle.std.specs.Prelude.{◌≡◌, ◌≢◌, ◌↔◌, ◌⊎◌, ℕ, ◌<◌, None}
use Rattle.nl_field.specs.CrashStates.{top}
use Rattle.nl_core_clean.specs.Spaces.{CleansVictim}
use Rattle.nl_core_clean.specs.Victim.{CleansBlock}
use Rattle.nl_core_clean.specs.declared.cleaning.Cleaned.{Cleaned}
use Rattle.nl_core_clean.specs.declared.cleaning.Cleaned.TheVariants as cleaned
use Rattle.nl_iface.specs.Moves.{HasNothingToCopy}
use Rattle.nl_iface.specs.Names.{Has, Names}
use Rattle.nl_iface.specs.declared.Callback.{Callback}
use Rattle.nl_iface.specs.declared.counts.Counts.{Ghosts}
use Rattle.nl_iface.specs.declared.moving_pages.MovingPages.{Ghosts as Moving}
use Rattle.nl_core.specs.Core.{names_of}
use Rattle.nl_core.specs.declared.state.Core.{Core}

-- The callback is new: no transaction has handled it, and its number is above the last one of before, as long as numbers last.
abbrev pub IsNewCallback : Names → Names → Callback → Type 0
IsNewCallback old new c = (new.handled c.number ≡ None) × (new.posted < top → old.posted < c.number)

-- Nothing comes exactly where no victim is in hand and none can be begun, and the space changes as the answer says. Callbacks that were
-- pending still are, and others are new. All but the device and the sum of a first failure stays. The block is the one that was in hand, or
-- else one with the most dead pages, and once it is done each page of it is erased.
pub record CleansDevice {D : Type 0} (g : Ghosts D) (m : Moving D) (old new : Core D) (answer : Cleaned) : Type 0 where
  pub block : CleansBlock g m answer old.device new.device
  pub nothing : (answer ≡ cleaned.Nothing) ↔ (HasNothingToCopy (names_of g old).space × ((names_of g old).space.victim ≡ 0))
  pub space : CleansVictim answer (names_of g old).space (names_of g new).space
  pub pending : (c : Callback) → Has (names_of g old).pending c
      → Has (names_of g new).pending c × ((names_of g new).handled c.number ≡ (names_of g old).handled c.number)
  pub posted : (c : Callback) → Has (names_of g new).pending c
      → Has (names_of g old).pending c ⊎ IsNewCallback (names_of g old) (names_of g new) c
  pub others : new ≡ record old { device = new.device; stopped = new.stopped }
  pub lost : (w found : ℕ) → answer ≡ cleaned.Lost w found → (found ≢ w) × (g.tells → ⊥)
