use Rattle.std.proofs.Common.{◌≡◌, ◌++◌}
use Rattle.std.specs.Prelude.{flat_map}
use Rattle.std.specs.List.{range_with_len}
use Rattle.nl_gen.specs.Soak.{mkdir_text}
use Rattle.nl_gen.proofs.soak.push_directories.Given as goal

abbrev pub invariant-loop-worker : goal.invariant-loop-worker
invariant-loop-worker l = l.text.items ≡ l.initial.text.items ++ flat_map mkdir_text (range_with_len 0 l.worker)
