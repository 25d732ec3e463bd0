use Rattle.std.proofs.Common.{ℕ, ◌≤◌, refl, inl, arith}
use Rattle.nl_spec_crashes.proofs.rows.commits_less_than_was_synced.Goals as goal

more : 1 ≤ 0 → ⊥
more h = omega (arith, h)

pub returns : goal.returns
returns c f = more (f _ (inl refl))
