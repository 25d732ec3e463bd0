use Rattle.nl_field.proofs.ScanLists.{lists_tell}
use Rattle.nl_field.proofs.laws.lists_tell.Goals as goal

pub returns : goal.returns
returns c = lists_tell
