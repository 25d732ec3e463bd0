use Rattle.std.proofs.Common.{refl}
use Rattle.nl_meta.proofs.OnLiterals.{meta_on_literals}
use Rattle.nl_test_volume_format.proofs.metadata.missing_entries.Goals as goal

pub returns-clause-addresses : goal.returns-clause-addresses
unfolding meta_on_literals
returns-clause-addresses c = refl

pub returns-clause-entries : goal.returns-clause-entries
unfolding meta_on_literals
returns-clause-entries c = refl
