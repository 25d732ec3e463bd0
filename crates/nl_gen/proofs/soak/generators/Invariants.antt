use Rattle.std.proofs.Common.{◌≡◌, ℕ, ◌<◌, get_or, vec_len}
use Rattle.rand_pcg.specs.Lcg.{Lcg}
use Rattle.nl_gen.specs.Soak.{generator}
use Rattle.nl_gen.proofs.soak.generators.Given as goal

abbrev pub invariant-loop-worker : goal.invariant-loop-worker
invariant-loop-worker l = record {
  count : vec_len l.all ≡ l.worker;
  each : (k : ℕ) (d : Lcg) → k < l.worker → get_or l.all.items k d ≡ generator l.seed k 0;
}
