use Rattle.nl_vseg.proofs.Standing.{keeps_stands}
use Rattle.nl_vseg.proofs.laws.kept.Goals as goal

pub returns : goal.returns
returns c pages bound count map old image stands keeps = keeps_stands stands keeps
