use Rattle.nl_meta.proofs.StampProofs.{lists_agree}
use Rattle.nl_meta.proofs.laws.lists_agree.Goals as goal

pub returns : goal.returns
returns c = lists_agree
