use Rattle.nl_core.proofs.Renamed.{as_many}
use Rattle.nl_core.proofs.laws.pages_stay_as_many.Goals as goal

pub returns : goal.returns
returns c = as_many
