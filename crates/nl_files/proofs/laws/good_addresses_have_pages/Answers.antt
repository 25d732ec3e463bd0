use Rattle.nl_files.proofs.LawProofs.{good_addresses_have_pages}
use Rattle.nl_files.proofs.laws.good_addresses_have_pages.Goals as goal

pub returns : goal.returns
returns c = good_addresses_have_pages
