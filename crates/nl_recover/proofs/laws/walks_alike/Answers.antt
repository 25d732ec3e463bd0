use Rattle.nl_recover.proofs.Alike.{walks_alike}
use Rattle.nl_recover.proofs.laws.walks_alike.Goals as goal

pub returns : goal.returns
returns c = walks_alike
