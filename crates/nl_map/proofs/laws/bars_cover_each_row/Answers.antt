use Rattle.nl_map.proofs.Bars.{covers}
use Rattle.nl_map.proofs.laws.bars_cover_each_row.Goals as goal

pub returns : goal.returns
returns c = covers
