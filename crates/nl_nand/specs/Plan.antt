-- Which calls of a medium in memory fail.
use Rattle.std.specs.Prelude.{◌⊎◌, ℕ, ◌+◌, ◌==◌, if◌then◌else◌, List, Option, Some, None, IsSome}
use Rattle.std.specs.Option.{option_map}
use Rattle.std.specs.List.{Contains}
use Rattle.nl_field.specs.Page.{Page}
use Rattle.nl_field.specs.CrashStates.{saturated}
use Rattle.nl_nand.specs.Stop.{CutShort}
use Rattle.nl_nand.specs.declared.stop.Cut.{Cut}
use Rattle.nl_nand.specs.declared.stop.Stop.{Stop}

-- the numbers of the reads and of the operations that fail, the stop that is to come, the reads and the operations that were
-- begun, and the operation that the stop cut short once it has come
pub record Plan : Type 0 where
  pub reads : List ℕ
  pub writes : List ℕ
  pub stop : Option Stop
  pub read_calls : ℕ
  pub operations : ℕ
  pub stopped : Option CutShort

abbrev pub next_read : Plan → ℕ
next_read plan = saturated (plan.read_calls + 1)

abbrev pub next_operation : Plan → ℕ
next_operation plan = saturated (plan.operations + 1)

-- the next read fails exactly where its number is in the list or the stop has come
abbrev pub ReadFails : Plan → Type 0
ReadFails plan = IsSome plan.stopped ⊎ Contains plan.reads (next_read plan)

-- the cut of a stop within the operation of that number
abbrev pub cut_at : Option Stop → ℕ → Option Cut
cut_at None number = None
cut_at (Some stop) number = if stop.operation == number then Some stop.cut else None

-- the next operation fails, once it is begun, exactly where its number is in the list or the stop comes within it
abbrev pub OperationFails : Plan → Type 0
OperationFails plan = IsSome (cut_at plan.stop (next_operation plan)) ⊎ Contains plan.writes (next_operation plan)

abbrev pub after_read : Plan → Plan
after_read plan = record plan { read_calls = next_read plan }

-- an operation on a range was begun
abbrev pub begun : ℕ → ℕ → Page → Plan → Plan
begun low high value plan = record plan {
  operations = next_operation plan;
  stopped = option_map (λ how. record { low = low; high = high; value = value; how = how }) (cut_at plan.stop (next_operation plan));
}

-- nothing was begun yet
abbrev pub fresh : List ℕ → List ℕ → Option Stop → Plan
fresh reads writes stop = record { reads = reads; writes = writes; stop = stop; read_calls = 0; operations = 0; stopped = None }
