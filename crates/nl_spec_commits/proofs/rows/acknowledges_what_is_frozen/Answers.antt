use Rattle.std.proofs.Common.{◌≤◌, arith}
use Rattle.nl_spec_commits.proofs.rows.acknowledges_what_is_frozen.Goals as goal

more : 4 ≤ 3 → ⊥
more h = omega (arith, h)

pub returns : goal.returns
returns c may = more (may tt)
