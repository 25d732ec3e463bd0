use Rattle.nl_iface.proofs.Beyond.{stores_none_beyond}
use Rattle.nl_iface.proofs.laws.none_beyond.Goals as goal

pub returns : goal.returns
returns c image v beyond = stores_none_beyond image v beyond
