use Rattle.nl_spec_image.proofs.ReadableProofs.{pages_are_readable}
use Rattle.nl_spec_image.proofs.laws.pages_are_readable.Goals as goal

pub returns : goal.returns
returns c = pages_are_readable
