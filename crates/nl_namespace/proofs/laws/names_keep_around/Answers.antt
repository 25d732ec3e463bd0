use Rattle.nl_namespace.proofs.Leaving.{names_keep_around}
use Rattle.nl_namespace.proofs.laws.names_keep_around.Goals as goal

pub returns : goal.returns
returns g c = names_keep_around g.D.Counts
