-- What writes of the journal pass on of the device.
use Rattle.std.specs.Prelude.{◌⊎◌, ℕ, ◌+◌, ◌<◌, ◌≤◌}
use Rattle.nl_field.specs.CrashStates.{Rose, top}
use Rattle.nl_iface.specs.Calls.{KeepsNamed, KeepsSpare}
use Rattle.nl_iface.specs.Stored.{Value}
use Rattle.nl_iface.specs.declared.counts.Counts.{Ghosts}

-- The next stamp does not fall, rises by so many at most, and by no more than the clock and the count of failed writes while these stand
-- below their end.
pub record StampsRise {D : Type 0} (g : Ghosts D) (most : ℕ) (old new : D) : Type 0 where
  pub never_falls : g.next_stamp old ≤ g.next_stamp new
  pub at_most : g.next_stamp new ≤ g.next_stamp old + most
  pub paid : g.clock new < top → g.write_faults new < top
      → g.next_stamp new + g.clock old + g.write_faults old ≤ g.next_stamp old + g.clock new + g.write_faults new

-- Only addresses change: the physical segment has what it had, the spare block stays but where a write failed in it, so many stamps at
-- most are taken, and more writes that failed may be shown only where one failed in it.
pub record ChangesAddressesOnly {D : Type 0} (g : Ghosts D) (done : Type 0) (most : ℕ) (old new : D) : Type 0 where
  pub named : KeepsNamed g old new
  pub spare : KeepsSpare g done old new
  pub stamps : StampsRise g most old new
  pub failed : g.tells → (v : ℕ) (x : Value) → g.failed new v x
      → g.failed old v x ⊎ ((done → ⊥) × Rose (g.write_faults old) (g.write_faults new))
