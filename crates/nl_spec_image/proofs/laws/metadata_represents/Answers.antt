use Rattle.nl_spec_image.proofs.SoundProofs.{metadata_represents}
use Rattle.nl_spec_image.proofs.laws.metadata_represents.Goals as goal

pub returns : goal.returns
returns c = metadata_represents
