use Rattle.nl_spec_image.proofs.FreshProofs.{few_fresh_are_consistent}
use Rattle.nl_spec_image.proofs.laws.few_fresh_are_consistent.Goals as goal

pub returns : goal.returns
returns c = few_fresh_are_consistent
