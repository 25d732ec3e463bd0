use Rattle.std.proofs.Common.{◌≤◌, arith}
use Rattle.nl_test_script.proofs.order_rows.moments_of_syncs.Goals as goal

high : 5 ≤ 4 → ⊥
high h = omega arith

pub returns-clause-fall : goal.returns-clause-fall
returns-clause-fall c h = high (h.moments_rise 0 1 (record { line = 0; sync = record { upto = 0; moment = 0 } }) (omega arith) (omega arith))
