use Rattle.nl_spec_image.proofs.SpareProofs.{spare_by_few_pages}
use Rattle.nl_spec_image.proofs.laws.spare_by_few_pages.Goals as goal

pub returns : goal.returns
returns c = spare_by_few_pages
