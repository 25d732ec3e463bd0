use Rattle.nl_core_callbacks.proofs.Trees.{trees_stay}
use Rattle.nl_core_callbacks.proofs.laws.trees_stay.Goals as goal

pub returns : goal.returns
returns c = trees_stay
