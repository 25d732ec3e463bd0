-- What calls on files change of a core beside its pages.
use Rattle.std.specs.Prelude.{◌≡◌, ℕ, ◌+◌, ◌-◌, length, take, Some}
use Rattle.nl_field.specs.CrashStates.{saturated}
use Rattle.nl_flight.specs.Flight.{InFlight, with_line}
use Rattle.nl_iface.specs.declared.counts.Counts.{Ghosts}
use Rattle.nl_core.specs.Programming.{line_of}
use Rattle.nl_core.specs.Units.{goal_or}
use Rattle.nl_core.specs.declared.state.Core.{Core}

-- The worker's line, which begins where it has none, keeps the sum of both fault counts.
abbrev pub notes_fault : {D : Type 0} → Ghosts D → ℕ → ℕ → Core D → Core D
notes_fault g worker line v =
    record v { flight = with_line v.flight worker (record (line_of v.flight worker line) { fault = saturated (g.read_faults v.device + g.write_faults v.device) }) }

-- the line with a goal: the one that it had, and else this count of calls
abbrev pub with_goal : InFlight → ℕ → InFlight
with_goal now count = record now { goal = Some (goal_or now.goal count) }

-- The worker's line, which begins where it has none, has a goal: the one that it had, and else all calls so far.
abbrev pub fixes_goal : {D : Type 0} → ℕ → ℕ → Core D → Core D
fixes_goal worker line v = record v { flight = with_line v.flight worker (with_goal (line_of v.flight worker line) v.count) }

-- Only the first pointers go on to await their free. There is room again for the others.
pub record Withdraws {D : Type 0} (first : ℕ) (old new : Core D) : Type 0 where
  pub items : new.freeing.items ≡ take first old.freeing.items
  pub room : new.freeing.room ≡ old.freeing.room + (length old.freeing.items - first)
  pub others : new ≡ record old { freeing = new.freeing }
