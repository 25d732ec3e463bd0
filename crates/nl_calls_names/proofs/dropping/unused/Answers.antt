use Rattle.std.proofs.Common.{refl}
use Rattle.nl_field.specs.Bytes.{zeros}
use Rattle.nl_calls_names.proofs.dropping.unused.Goals as goal

pub returns : goal.returns
unfolding zeros
returns c = refl
