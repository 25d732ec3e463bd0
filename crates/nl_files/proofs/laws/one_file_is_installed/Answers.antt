use Rattle.nl_files.proofs.InstallLaw.{one_file_is_installed}
use Rattle.nl_files.proofs.laws.one_file_is_installed.Goals as goal

pub returns : goal.returns
returns c = one_file_is_installed
