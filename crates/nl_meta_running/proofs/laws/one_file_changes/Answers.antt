use Rattle.nl_meta_running.proofs.FileChanges.{one_file_changes}
use Rattle.nl_meta_running.proofs.laws.one_file_changes.Goals as goal

pub returns : goal.returns
returns c = one_file_changes
