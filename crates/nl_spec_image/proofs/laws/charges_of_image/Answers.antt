use Rattle.nl_spec_image.proofs.SoundProofs.{charges_of_image}
use Rattle.nl_spec_image.proofs.laws.charges_of_image.Goals as goal

pub returns : goal.returns
returns c = charges_of_image
