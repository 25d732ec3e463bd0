-- For which opening and history a volume stands that answers each call with a failed read.
use Rattle.std.specs.Prelude.{None, ◌≡◌, ℕ, ◌+◌, ◌==◌, if◌then◌else◌, slice_index_or, List, []}
use Rattle.nl_field.specs.CrashStates.{saturated}
use Rattle.nl_tree.specs.Tree.{empty_tree}
use Rattle.nl_tree.specs.Causes.{Counts, FaultState, NeverFall}
use Rattle.nl_turns.specs.History.{Opening, effects, opening_counts}
use Rattle.nl_turns.specs.declared.entry.Entry.{Entry}

-- of its counts of calls and of failed reads
abbrev pub failing_opening : ℕ → ℕ → Opening
failing_opening calls faults =
    record {
      shape = record { blocks = 0; pages = 0; nodes = 0; inode_pages = 0; meta = 0; vaddrs = 0; vblocks = 0; pblocks = 0; cap = 0 };
      count = calls;
      tree = empty_tree;
      clock = 0;
      read_faults = faults;
      write_faults = 0;
      next_stamp = 1;
      lines = [];
    }

abbrev pub failing_counts : ℕ → Counts
failing_counts faults = record { clock = 0; read_faults = faults; write_faults = 0 }

-- the volume counts its calls and its effects, and its failed reads only grow
pub record FailingStands (opening : Opening) (history : List Entry) (calls done faults : ℕ) : Type 0 where
  pub count : calls ≡ saturated (opening.count + effects history)
  pub done_is : done ≡ saturated (effects history)
  pub since : NeverFall (opening_counts opening) (failing_counts faults)

-- one page of each line, or none of the line that the worker has staged
abbrev pub pages_to_stage : List ℕ → ℕ → ℕ → ℕ
pages_to_stage staged worker line = if slice_index_or staged worker 0 == line then 0 else 1

-- the volume refuses no line before it is tried
abbrev pub refuses_none : FaultState
refuses_none = record { staged = None; read_only = None; next_stamp = 1 }
