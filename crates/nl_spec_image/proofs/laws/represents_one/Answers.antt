use Rattle.nl_spec_image.proofs.SoundProofs.{represents_one}
use Rattle.nl_spec_image.proofs.laws.represents_one.Goals as goal

pub returns : goal.returns
returns c = represents_one
