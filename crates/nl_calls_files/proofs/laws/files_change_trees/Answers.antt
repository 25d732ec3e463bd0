use Rattle.nl_calls_files.proofs.laws.files_change_trees.Goals as goal
use Rattle.nl_calls_files.proofs.FileTrees.{file_changes_tree}
use Rattle.nl_calls_files.proofs.FilesRight.{file_stays_right}

pub returns-clause-tree : goal.returns-clause-tree
returns-clause-tree c = file_changes_tree

pub returns-clause-right : goal.returns-clause-right
returns-clause-right c = file_stays_right
