use Rattle.nl_namespace.proofs.Crowded.{crowded}
use Rattle.nl_namespace.proofs.laws.none_free_is_crowded.Goals as goal

pub returns : goal.returns
returns c = crowded
