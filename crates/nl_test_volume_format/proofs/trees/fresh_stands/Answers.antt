use Rattle.nl_spec_image.proofs.FreshImage.{fresh_stands}
use Rattle.nl_test_volume_format.proofs.trees.fresh_stands.Goals as goal

pub returns : goal.returns
returns c = fresh_stands
