use Rattle.nl_iface.proofs.Numbered as numbered
use Rattle.nl_iface.proofs.laws.numbers_rise.Goals as goal

pub returns : goal.returns
returns c = numbered.numbers_rise
