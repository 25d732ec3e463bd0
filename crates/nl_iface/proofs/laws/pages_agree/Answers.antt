use Rattle.nl_iface.proofs.Stops.{tried_agree}
use Rattle.nl_iface.proofs.laws.pages_agree.Goals as goal

pub returns : goal.returns
returns c shape names bytes new old after tried agree with_new = tried_agree shape names bytes new old after tried agree with_new
