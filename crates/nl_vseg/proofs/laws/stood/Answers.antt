use Rattle.nl_vseg.proofs.Newest.{virtual_value}
use Rattle.nl_vseg.proofs.laws.stood.Goals as goal

pub returns : goal.returns
returns c image map v below stands = virtual_value image map v stands below
