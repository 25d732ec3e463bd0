use Rattle.std.proofs.Common.{◌≡◌, ◌≤◌}
use Rattle.nl_core.specs.Core.{IsCore}
use Rattle.nl_calls_steps.specs.Steps.{ReadsOn}
use Rattle.nl_volume_list.specs.Next.{IsOnWay}
use Rattle.nl_cmd_print.proofs.Lines.{LinesSoFar}
use Rattle.nl_cmd_print.proofs.paths.print_paths.Given as goal

-- the lines of the paths so far are taken
abbrev pub invariant-paths : goal.invariant-paths
invariant-paths g l = record {
  core : IsCore g.D.Counts l.core;
  same : ReadsOn g.D.Counts l.initial.core l.core;
  way : IsOnWay g.D.Counts l.core l.walk;
  faults : g.D.Counts.read_faults l.core.device ≡ g.D.Counts.read_faults l.initial.core.device;
  later : g.K.Sink.faults l.initial.sink ≤ g.K.Sink.faults l.sink;
  lines : LinesSoFar g.D.Counts l.initial.core l.walk l.at (g.K.Sink.taken l.initial.sink) (g.K.Sink.taken l.sink);
}
