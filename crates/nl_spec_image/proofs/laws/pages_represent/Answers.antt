use Rattle.nl_spec_image.proofs.SoundProofs.{represented_is_one, right_charges, right_represents}
use Rattle.nl_spec_image.proofs.laws.pages_represent.Goals as goal

pub returns-clause-some : goal.returns-clause-some
returns-clause-some c = right_represents

pub returns-clause-one : goal.returns-clause-one
returns-clause-one c = represented_is_one

pub returns-clause-charges : goal.returns-clause-charges
returns-clause-charges c = right_charges
