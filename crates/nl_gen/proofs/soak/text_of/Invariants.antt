use Rattle.std.proofs.Common.{◌≡◌, ℕ, ◌<◌, ◌++◌, get_or, vec_len}
use Rattle.std.specs.Prelude.{flat_map}
use Rattle.std.specs.List.{range_with_len}
use Rattle.rand_pcg.specs.Lcg.{Lcg}
use Rattle.nl_gen.specs.Soak.{generator, mkdir_text, round_text}
use Rattle.nl_gen.proofs.soak.text_of.Given as goal

abbrev pub invariant-rounds : goal.invariant-rounds
invariant-rounds l = record {
  text : l.text.items ≡ flat_map mkdir_text (range_with_len 0 l.workers) ++ flat_map (round_text l.seed l.workers) (range_with_len 0 l._round);
  count : vec_len l.all ≡ l.workers;
  each : (k : ℕ) (d : Lcg) → k < l.workers → get_or l.all.items k d ≡ generator l.seed k l._round;
}
