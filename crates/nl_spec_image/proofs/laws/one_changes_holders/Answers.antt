use Rattle.nl_spec_image.proofs.HolderListProofs.{one_changes_holders}
use Rattle.nl_spec_image.proofs.laws.one_changes_holders.Goals as goal

pub returns : goal.returns
returns c = one_changes_holders
