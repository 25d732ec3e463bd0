use Rattle.std.proofs.Common.{refl}
use Rattle.std.specs.Fmt.{digits}
use Rattle.nl_test_map.proofs.rows.used_block.Goals as goal

pub returns-clause-line : goal.returns-clause-line
unfolding digits
returns-clause-line c = refl

pub returns-clause-dead : goal.returns-clause-dead
unfolding digits
returns-clause-dead c = refl
