use Rattle.nl_put_tree.proofs.Whole as whole
use Rattle.nl_put_tree.proofs.laws.put_laws.Goals as goal

pub returns : goal.returns
returns c = whole.put_laws
