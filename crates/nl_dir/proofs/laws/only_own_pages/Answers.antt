use Rattle.nl_dir.proofs.LawProofs.{only_own_pages}
use Rattle.nl_dir.proofs.laws.only_own_pages.Goals as goal

pub returns : goal.returns
returns c = only_own_pages
