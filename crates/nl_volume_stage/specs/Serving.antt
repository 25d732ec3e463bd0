-- What a volume shows to those that take turns with it.
use Rattle.std.specs.Prelude.{ℕ, ◌+◌, ◌-◌, ◌==◌, if◌then◌else◌, List, length, Option, Some, None}
use Rattle.nl_tree.specs.Causes.{FaultState}
use Rattle.nl_flight.specs.Flight.{InFlight, of_worker}
use Rattle.nl_iface.specs.declared.counts.Counts.{Ghosts}
use Rattle.nl_core.specs.Units.{most_units, units_for}
use Rattle.nl_core.specs.declared.state.Core.{Core}

-- a number, where it is not 0
abbrev pub some_number : ℕ → Option ℕ
some_number n = if n == 0 then None else Some n

-- the number with which a staging of the worker's line failed
abbrev pub staged_fault : List InFlight → ℕ → ℕ → Option ℕ
staged_fault flight worker line = if (of_worker flight worker).line == line then some_number (of_worker flight worker).fault else None

-- what refuses a line of a worker before it is tried
abbrev pub refusing_of : {D : Type 0} → Ghosts D → Core D → ℕ → ℕ → FaultState
refusing_of g v worker line =
    record { staged = staged_fault v.flight worker line; read_only = some_number v.stopped; next_stamp = g.next_stamp v.device }

-- How many units a line with this goal or none has left to stage at most, where it is a sync. Without a goal it is as many as any sync has.
abbrev pub units_to_stage : {D : Type 0} → Core D → Option ℕ → ℕ
units_to_stage v None = most_units
units_to_stage v (Some goal) = units_for v goal

-- How much a line in flight has left to stage at most: it has room for sixteen pages, less those that are in flight for it, and the units
-- of a sync.
abbrev pub left_in_flight : {D : Type 0} → Core D → InFlight → ℕ
left_in_flight v now = (16 - length now.pages) + units_to_stage v now.goal

-- How much a line of a worker has left to stage at most, whatever it calls for: all of that where it is not in flight.
abbrev pub to_stage_of : {D : Type 0} → Core D → ℕ → ℕ → ℕ
to_stage_of v worker line =
    if (of_worker v.flight worker).line == line then left_in_flight v (of_worker v.flight worker) else 16 + most_units
