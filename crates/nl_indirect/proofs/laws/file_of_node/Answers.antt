use Rattle.nl_indirect.proofs.LawProofs.{file_of_node, resident_pointers}
use Rattle.nl_indirect.proofs.laws.file_of_node.Goals as goal

pub returns-clause-node : goal.returns-clause-node
returns-clause-node c = file_of_node

pub returns-clause-pages : goal.returns-clause-pages
returns-clause-pages c = resident_pointers
