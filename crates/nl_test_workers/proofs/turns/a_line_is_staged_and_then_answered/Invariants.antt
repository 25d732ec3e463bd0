use Rattle.nl_turns.specs.History.{with_lines}
use Rattle.nl_test_workers.specs.Failing.{failing_opening}
use Rattle.nl_test_workers.proofs.turns.a_line_is_staged_and_then_answered.Given as goal

abbrev pub ghosts-new : goal.ghosts-new
ghosts-new g a = record { opening = with_lines (failing_opening a.value.calls a.value.faults) a.lines.now }
