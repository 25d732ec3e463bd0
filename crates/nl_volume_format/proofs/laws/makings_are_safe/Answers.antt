use Rattle.nl_volume_format.proofs.Safe.{makings_are_safe}
use Rattle.nl_volume_format.proofs.laws.makings_are_safe.Goals as goal

pub returns : goal.returns
returns c = makings_are_safe
