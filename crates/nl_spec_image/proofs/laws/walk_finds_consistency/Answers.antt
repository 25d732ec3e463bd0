use Rattle.nl_spec_image.proofs.SoundProofs.{walk_finds_consistency}
use Rattle.nl_spec_image.proofs.laws.walk_finds_consistency.Goals as goal

pub returns : goal.returns
returns c = walk_finds_consistency
