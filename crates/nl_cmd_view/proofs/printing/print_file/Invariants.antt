use Rattle.std.proofs.Common.{◌≡◌, ◌≤◌, ◌*◌}
use Rattle.nl_calls_steps.specs.Steps.{ReadsOn}
use Rattle.nl_core.specs.Core.{IsCore}
use Rattle.nl_tree.specs.Calls.{IsBounded}
use Rattle.nl_cmd_view.specs.Pieces.{ReadsPiece, read_path}
use Rattle.nl_cmd_view.proofs.Printed.{PrintedSoFar}
use Rattle.nl_cmd_view.proofs.printing.print_file.Given as goal

-- the pieces so far are taken
abbrev pub invariant-pieces : goal.invariant-pieces
invariant-pieces g l = record {
  core : IsCore g.D.Counts l.core;
  same : ReadsOn g.D.Counts l.initial.core l.core;
  faults : g.D.Counts.read_faults l.core.device ≡ g.D.Counts.read_faults l.initial.core.device;
  call : ReadsPiece l.call;
  bounded : IsBounded l.call;
  path : read_path l.call ≡ read_path l.initial.call;
  untouched : l.piece ≡ 0 → l.sink ≡ l.initial.sink;
  later : g.K.Sink.faults l.initial.sink ≤ g.K.Sink.faults l.sink;
  printed : PrintedSoFar g.D.Counts l.initial.core (read_path l.initial.call) (l.piece * 65536) (g.K.Sink.taken l.initial.sink) (g.K.Sink.taken l.sink);
}
