use Rattle.std.proofs.Common.{refl}
use Rattle.std.specs.Fmt.{digits}
use Rattle.nl_map.specs.Svg.{around, bar_text}
use Rattle.nl_test_map.proofs.pictures.bars.Goals as goal

pub returns-clause-three : goal.returns-clause-three
unfolding digits around bar_text
returns-clause-three c = refl

pub returns-clause-none : goal.returns-clause-none
unfolding digits around bar_text
returns-clause-none c = refl

pub returns-clause-other : goal.returns-clause-other
unfolding digits around bar_text
returns-clause-other c = refl
