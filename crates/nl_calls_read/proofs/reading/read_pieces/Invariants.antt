use Rattle.std.proofs.Common.{◌≡◌, ◌-◌, ◌≤◌, length}
use Rattle.nl_core.specs.Core.{IsCore, running_of}
use Rattle.nl_files.specs.Reading.{AreBytesFrom, file_page}
use Rattle.nl_calls_steps.specs.Steps.{ReadsOn}
use Rattle.nl_calls_read.proofs.reading.read_pieces.Given as goal

abbrev pub decreases-loop-done : goal.decreases-loop-done
decreases-loop-done g l = l.count - l.done

abbrev pub invariant-loop-done : goal.invariant-loop-done
invariant-loop-done g l = record {
  core : IsCore g.D.Counts l.core;
  same : ReadsOn g.D.Counts l.initial.core l.core;
  faults : g.D.Counts.read_faults l.core.device ≡ g.D.Counts.read_faults l.initial.core.device;
  len : length l.out ≡ l.done;
  most : l.done ≤ l.count;
  bytes : g.D.Counts.tells
      → AreBytesFrom (file_page g.D.Counts l.initial.core.device (running_of g.D.Counts l.initial.core) l.rec) l.from l.out;
}
