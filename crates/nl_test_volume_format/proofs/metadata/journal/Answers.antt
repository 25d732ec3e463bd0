use Rattle.std.proofs.Common.{refl}
use Rattle.nl_meta.proofs.OnLiterals.{meta_on_literals}
use Rattle.nl_test_volume_format.proofs.metadata.journal.Goals as goal

pub returns-clause-counts : goal.returns-clause-counts
unfolding meta_on_literals
returns-clause-counts c = refl

pub returns-clause-count : goal.returns-clause-count
unfolding meta_on_literals
returns-clause-count c = refl

pub returns-clause-other_number : goal.returns-clause-other_number
unfolding meta_on_literals
returns-clause-other_number c = refl

pub returns-clause-old_count : goal.returns-clause-old_count
unfolding meta_on_literals
returns-clause-old_count c = refl

pub returns-clause-no_image : goal.returns-clause-no_image
unfolding meta_on_literals
returns-clause-no_image c = refl

pub returns-clause-no_address : goal.returns-clause-no_address
unfolding meta_on_literals
returns-clause-no_address c = refl

pub returns-clause-no_header : goal.returns-clause-no_header
unfolding meta_on_literals
returns-clause-no_header c = refl

pub returns-clause-any_addresses : goal.returns-clause-any_addresses
unfolding meta_on_literals
returns-clause-any_addresses c = refl

pub returns-clause-old_super : goal.returns-clause-old_super
unfolding meta_on_literals
returns-clause-old_super c = refl
