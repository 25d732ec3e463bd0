use Rattle.std.proofs.Common.{refl}
use Rattle.nl_meta.proofs.OnLiterals.{meta_on_literals}
use Rattle.nl_test_volume_format.proofs.metadata.crowded.Goals as goal

pub returns-clause-room : goal.returns-clause-room
unfolding meta_on_literals
returns-clause-room c = refl

pub returns-clause-no_room : goal.returns-clause-no_room
unfolding meta_on_literals
returns-clause-no_room c = refl

pub returns-clause-data_room : goal.returns-clause-data_room
unfolding meta_on_literals
returns-clause-data_room c = refl

pub returns-clause-no_data_room : goal.returns-clause-no_data_room
unfolding meta_on_literals
returns-clause-no_data_room c = refl

pub returns-clause-few_stale : goal.returns-clause-few_stale
unfolding meta_on_literals
returns-clause-few_stale c = refl

pub returns-clause-many_stale : goal.returns-clause-many_stale
unfolding meta_on_literals
returns-clause-many_stale c = refl
