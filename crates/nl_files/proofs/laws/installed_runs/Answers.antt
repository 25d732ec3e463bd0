use Rattle.nl_files.proofs.InstalledOn.{installed_runs}
use Rattle.nl_files.proofs.laws.installed_runs.Goals as goal

pub returns : goal.returns
returns g c = installed_runs g.D.Counts
