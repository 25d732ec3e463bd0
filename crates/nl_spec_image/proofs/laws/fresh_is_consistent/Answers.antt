use Rattle.nl_spec_image.proofs.FreshProofs.{fresh_is_consistent}
use Rattle.nl_spec_image.proofs.laws.fresh_is_consistent.Goals as goal

pub returns : goal.returns
returns c = fresh_is_consistent
