use Rattle.nl_files.proofs.CutLaw.{one_file_is_cut}
use Rattle.nl_files.proofs.laws.one_file_is_cut.Goals as goal

pub returns : goal.returns
returns c = one_file_is_cut
