use Rattle.std.proofs.Common.{refl}
use Rattle.std.specs.Fmt.{digits}
use Rattle.nl_test_map.proofs.rows.totals.Goals as goal

pub returns-clause-first : goal.returns-clause-first
unfolding digits
returns-clause-first c = refl

pub returns-clause-last : goal.returns-clause-last
unfolding digits
returns-clause-last c = refl
