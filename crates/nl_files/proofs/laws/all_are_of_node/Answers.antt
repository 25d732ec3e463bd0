use Rattle.nl_files.proofs.LawProofs.{all_are_of_node}
use Rattle.nl_files.proofs.laws.all_are_of_node.Goals as goal

pub returns : goal.returns
returns c = all_are_of_node
