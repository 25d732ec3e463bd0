-- A device on which a new volume can be begun.
use Rattle.std.specs.Prelude.{◌≡◌, ℕ, ◌+◌, ◌<◌, None}
use Rattle.nl_field.specs.CrashStates.{top}
use Rattle.nl_iface.specs.Names.{Has}
use Rattle.nl_iface.specs.Space.{CanLand}
use Rattle.nl_iface.specs.declared.Callback.{Callback}
use Rattle.nl_iface.specs.declared.counts.Counts.{Ghosts}
use Rattle.nl_spec_commits.specs.Standing.{IsFirm}

-- No page is live, and no callback is pending. One Free block is kept for the cleaner, a victim's pages can land, and the virtual segment
-- keeps a spare block. One more write that fails can be counted.
pub record IsIdle {D : Type 0} (g : Ghosts D) (s : D) : Type 0 where
  pub formed : g.formed s
  pub no_live : (p : ℕ) → (g.names s).live p ≡ None
  pub no_pending : (c : Callback) → Has (g.names s).pending c → ⊥
  pub one_kept : (g.names s).space.keep + (g.names s).space.bad ≡ 1
  pub lands : CanLand (g.names s).space
  pub spare : g.keeps_spare s
  pub counts : g.write_faults s < top

-- What is stored can be opened wherever the device is formed.
abbrev pub IsAlwaysFirm : {D : Type 0} → Ghosts D → Type 0
IsAlwaysFirm {D} g = (s : D) → g.tells → g.formed s → IsFirm g s
