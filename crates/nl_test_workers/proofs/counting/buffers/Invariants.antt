use Rattle.std.proofs.Common.{◌≡◌, vec_len}
use Rattle.nl_test_workers.proofs.counting.buffers.Given as goal

abbrev pub invariant-loop : goal.invariant-loop
invariant-loop l = vec_len l.outs ≡ l.counter
