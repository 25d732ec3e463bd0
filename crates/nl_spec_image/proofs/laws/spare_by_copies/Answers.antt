use Rattle.nl_spec_image.proofs.SpareProofs.{spare_by_copies}
use Rattle.nl_spec_image.proofs.laws.spare_by_copies.Goals as goal

pub returns : goal.returns
returns c = spare_by_copies
