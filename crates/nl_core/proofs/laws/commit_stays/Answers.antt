use Rattle.std.proofs.Common.{refl, arith}
use Rattle.nl_core.proofs.laws.commit_stays.Goals as goal

pub returns : goal.returns
returns g c v = (
  record { begun = refl; moment = refl; committed = refl },
  λ k. let moved = k.moment in omega (arith, moved),
  λ k. let moved = k.committed in omega (arith, moved),
)
