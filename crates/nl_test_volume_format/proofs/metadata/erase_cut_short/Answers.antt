use Rattle.std.proofs.Common.{refl}
use Rattle.nl_meta.proofs.OnLiterals.{meta_on_literals}
use Rattle.nl_test_volume_format.proofs.metadata.erase_cut_short.Goals as goal

pub returns : goal.returns
unfolding meta_on_literals
returns c = refl
