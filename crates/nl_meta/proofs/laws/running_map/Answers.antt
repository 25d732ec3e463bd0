use Rattle.nl_meta.proofs.RunningProofs.{running_map, admits_page, misses_page}
use Rattle.nl_meta.proofs.laws.running_map.Goals as goal

pub returns-clause-calls : goal.returns-clause-calls
returns-clause-calls c = running_map

pub returns-clause-admits : goal.returns-clause-admits
returns-clause-admits c = admits_page

pub returns-clause-misses : goal.returns-clause-misses
returns-clause-misses c = misses_page
