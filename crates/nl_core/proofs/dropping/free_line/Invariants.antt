use Rattle.std.proofs.Common.{◌≡◌, take}
use Rattle.nl_journal_commit.specs.Freeing.{FreesEach}
use Rattle.nl_flight.specs.Flight.{of_worker}
use Rattle.nl_iface.specs.Calls.{KeepsMedium}
use Rattle.nl_core.specs.Dropping.{pointers_of}
use Rattle.nl_core.proofs.dropping.free_line.Given as goal

abbrev pub invariant-loop-i : goal.invariant-loop-i
invariant-loop-i g l = record {
  formed : g.D.Counts.formed l.device;
  freed : FreesEach (take l.i (pointers_of (of_worker l.flight l.worker))) (g.D.Counts.names l.initial.device) (g.D.Counts.names l.device);
  kept : KeepsMedium g.D.Counts l.initial.device l.device;
  read_faults : g.D.Counts.read_faults l.device ≡ g.D.Counts.read_faults l.initial.device;
}
