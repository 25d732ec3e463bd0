use Rattle.std.proofs.Common.{refl}
use Rattle.std.specs.Fmt.{digits}
use Rattle.nl_test_map.proofs.rows.other_blocks.Goals as goal

pub returns-clause-erased : goal.returns-clause-erased
unfolding digits
returns-clause-erased c = refl

pub returns-clause-free : goal.returns-clause-free
unfolding digits
returns-clause-free c = refl

pub returns-clause-written : goal.returns-clause-written
unfolding digits
returns-clause-written c = refl

pub returns-clause-bad : goal.returns-clause-bad
unfolding digits
returns-clause-bad c = refl
