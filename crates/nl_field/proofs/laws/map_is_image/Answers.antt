use Rattle.nl_field.proofs.Beyond.{map_is_image}
use Rattle.nl_field.proofs.laws.map_is_image.Goals as goal

pub returns : goal.returns
returns c = map_is_image
