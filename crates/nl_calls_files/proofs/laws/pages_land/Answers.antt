use Rattle.nl_calls_files.proofs.laws.pages_land.Goals as goal
use Rattle.nl_calls_files.proofs.Landing.{pages_land}

pub returns : goal.returns
returns c = pages_land
