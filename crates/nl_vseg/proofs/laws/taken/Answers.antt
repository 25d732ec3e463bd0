use Rattle.nl_vseg.proofs.Standing.{takes_stands}
use Rattle.nl_vseg.proofs.laws.taken.Goals as goal

pub returns : goal.returns
returns c pages bound count v s main map old image stands above takes = takes_stands stands above takes
