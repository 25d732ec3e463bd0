use Rattle.std.proofs.Common.{◌≡◌, ℕ, ◌<◌, ◌≤◌, ◌++◌, get_or, vec_len}
use Rattle.std.specs.Prelude.{flat_map}
use Rattle.std.specs.List.{range_with_len}
use Rattle.rand_pcg.specs.Lcg.{Lcg}
use Rattle.nl_gen.specs.Soak.{line_from, after_line}
use Rattle.nl_gen.proofs.soak.push_round.Given as goal

-- the lines of the workers before k are added, and their generators have gone on
abbrev pub invariant-loop-k : goal.invariant-loop-k
invariant-loop-k l = record {
  text : (d : Lcg) → l.text.items ≡ l.initial.text.items ++ flat_map (λ k. line_from k (get_or l.initial.all.items k d)) (range_with_len 0 l.k);
  before : (k : ℕ) (d : Lcg) → k < l.k → get_or l.all.items k d ≡ after_line (get_or l.initial.all.items k d);
  rest : (k : ℕ) (d : Lcg) → l.k ≤ k → get_or l.all.items k d ≡ get_or l.initial.all.items k d;
  count : vec_len l.all ≡ vec_len l.initial.all;
}
