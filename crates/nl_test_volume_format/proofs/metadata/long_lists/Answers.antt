use Rattle.nl_test_volume_format.proofs.FilledLists.{full_list, over_list}
use Rattle.nl_test_volume_format.proofs.metadata.long_lists.Goals as goal

pub returns-clause-full : goal.returns-clause-full
returns-clause-full c = full_list

pub returns-clause-over : goal.returns-clause-over
returns-clause-over c = over_list
