use Rattle.std.proofs.Common.{refl}
use Rattle.nl_core_open.specs.Figures.{greatest_seen, least_seen}
use Rattle.nl_test_volume_format.proofs.rows.wears.Goals as goal

pub returns-clause-no_least : goal.returns-clause-no_least
unfolding greatest_seen least_seen
returns-clause-no_least c = refl

pub returns-clause-no_greatest : goal.returns-clause-no_greatest
unfolding greatest_seen least_seen
returns-clause-no_greatest c = refl

pub returns-clause-least : goal.returns-clause-least
unfolding greatest_seen least_seen
returns-clause-least c = refl

pub returns-clause-greatest : goal.returns-clause-greatest
unfolding greatest_seen least_seen
returns-clause-greatest c = refl
