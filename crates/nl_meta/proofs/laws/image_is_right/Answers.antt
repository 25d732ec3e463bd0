use Rattle.nl_meta.proofs.ImageProofs.{image_is_right}
use Rattle.nl_meta.proofs.laws.image_is_right.Goals as goal

pub returns : goal.returns
returns c = image_is_right
