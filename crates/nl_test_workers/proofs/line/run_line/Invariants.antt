use Rattle.std.proofs.Common.{◌≡◌, ℕ, ◌++◌, replicate}
use mathlib.Core.List.{IsPrefix}
use Rattle.nl_tree.specs.declared.turn.Stage.TheVariants.{Staged}
use Rattle.nl_turns.specs.Served.{stage_entry}
use Rattle.nl_test_workers.specs.Work.{entries_of}
use Rattle.nl_test_workers.proofs.line.run_line.Given as goal

abbrev pub invariant-loop : goal.invariant-loop
invariant-loop g l = record {
  same : l.seat ≡ record l.initial.seat { seen = l.seat.seen };
  grows : IsPrefix l.initial.seat.seen l.seat.seen;
  own : (k : ℕ) × (entries_of l.initial.seat.number l.seat.seen ≡ entries_of l.initial.seat.number l.initial.seat.seen ++ replicate k (stage_entry l.line.line Staged));
}
