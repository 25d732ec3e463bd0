use Rattle.std.proofs.Common.{◌-◌, length}
use Rattle.nl_files.proofs.Filling.{IsFilled}
use Rattle.nl_files.proofs.reading.read.Given as goal

abbrev pub decreases-loop-done : goal.decreases-loop-done
decreases-loop-done g l = length l.out - l.done

abbrev pub invariant-loop-done : goal.invariant-loop-done
invariant-loop-done g l =
    IsFilled g.D.Counts l.initial.device l.device l.initial.meta l.meta l.rec l.at (length l.initial.out) l.done l.out
