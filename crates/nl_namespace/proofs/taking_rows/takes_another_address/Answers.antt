use Rattle.std.proofs.Common.{refl, arith}
use Rattle.nl_namespace.proofs.Taking.{true-false}
use Rattle.nl_namespace.proofs.taking_rows.takes_another_address.Goals as goal

pub returns : goal.returns
returns c f = true-false ((f.address 71 (record { was_free = refl; is_used = refl })).least 70 (omega arith))
