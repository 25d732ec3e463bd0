use Rattle.std.proofs.Common.{◌≡◌, ◌≤◌, length}
use Rattle.std.specs.Prelude.{All}
use Rattle.nl_tree.specs.Calls.{AreLines}
use Rattle.nl_tree.specs.declared.call.Line.{Line}
use Rattle.nl_test_workers.proofs.script.sync_script.Given as goal

abbrev pub invariant-loop-at : goal.invariant-loop-at
invariant-loop-at l = record {
  count_is : length l.lines ≡ l.at;
  lines_are : AreLines l.lines;
  below : All (λ (x : Line). (x.line ≤ l.at) × (x.round ≡ 0)) l.lines;
}
