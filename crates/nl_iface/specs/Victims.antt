-- Which block is the victim, and what an erase leaves of it.
use Rattle.std.specs.Prelude.{◌≡◌, ◌⊎◌, ℕ, ◌+◌, ◌*◌, ◌/◌, ◌≤◌, ⊤, Option, Some, None}
use Rattle.nl_field.specs.CrashStates.{Earlier, saturated}
use Rattle.nl_iface.specs.Counting.{FailuresCounted}
use Rattle.nl_iface.specs.Moves.{MovesPage}
use Rattle.nl_iface.specs.Space.{Space}
use Rattle.nl_iface.specs.Stored.{Stored}
use Rattle.nl_iface.specs.declared.counts.Counts.{Ghosts}

-- a block of this kind is the victim now
abbrev pub TakesVictimOf : (ℕ → Type 0) → Option ℕ → Type 0
TakesVictimOf kind now = (block : ℕ) × kind block × (now ≡ Some block)

-- The victim is that of before; or none was in hand, and a block of this kind is.
abbrev pub StaysOrTakes : (ℕ → Type 0) → Option ℕ → Option ℕ → Type 0
StaysOrTakes kind was now = (now ≡ was) ⊎ ((was ≡ None) × TakesVictimOf kind now)

-- None is in hand, the pairs are few, and a block is Free: a victim can be begun, where there is one.
abbrev pub CanBeginVictim : Space → Type 0
CanBeginVictim s = (s.victim ≡ 0) × (s.pairs ≤ 2 * s.block) × (1 ≤ s.free)

-- Each page of the block is blank, and holds nothing.
abbrev pub IsWiped : (blank : ℕ → Type 0) (pages block : ℕ) → Stored → Type 0
IsWiped blank pages block c = (p : ℕ) → p / pages ≡ block → blank p × (c.named p ≡ None)

-- the count of failed writes, of a call that makes one
abbrev pub WritesCounted : {D : Type 0} → Ghosts D → Type 0 → D → D → Type 0
WritesCounted g failed old new = FailuresCounted ⊤ (g.write_faults old) (g.write_faults new) failed

-- A page that was moved took its program, and an erase at most: that of the Free block which copies go to next. Where none has to be
-- erased before its use, it took the program alone, and a copy that moved no page finished nothing.
pub record CopyTicks {D : Type 0} (g : Ghosts D) (old new : D) : Type 0 where
  pub never_falls : g.clock old ≤ g.clock new
  pub at_most_two : g.clock new ≤ g.clock old + 2
  pub moved : MovesPage g old new → Earlier (g.clock old) (g.clock new)
  pub program_alone : g.clean old → MovesPage g old new → g.clock new ≡ saturated (g.clock old + 1)
  pub none_moved : g.clean old → (MovesPage g old new → ⊥) → g.clock new ≡ g.clock old
