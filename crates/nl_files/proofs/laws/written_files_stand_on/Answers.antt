use Rattle.nl_files.proofs.StandingOn.{goes-cut, goes-stored, stands-after}
use Rattle.nl_files.proofs.laws.written_files_stand_on.Goals as goal

pub returns-clause-installed : goal.returns-clause-installed
returns-clause-installed g c s index to was is p q t u installs = stands-after g.D.Counts s was is p q (goes-stored index to installs.fresh was is p q installs.stores)

pub returns-clause-cut : goal.returns-clause-cut
returns-clause-cut g c s size partial was is p q t u cuts = stands-after g.D.Counts s was is p q (goes-cut size partial was is p q t u cuts)
