use Rattle.nl_spec_holders.proofs.LawProofs as laws
use Rattle.nl_spec_holders.proofs.laws.opening_holds.Goals as goal

pub returns : goal.returns
returns c = laws.opening_holds
