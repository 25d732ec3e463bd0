use Rattle.nl_spec_image.proofs.FormattedProofs.{formatted_is_consistent}
use Rattle.nl_spec_image.proofs.laws.formatted_is_consistent.Goals as goal

pub returns : goal.returns
returns c = formatted_is_consistent
