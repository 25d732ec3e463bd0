use Rattle.std.proofs.Common.{refl}
use Rattle.nl_field.specs.Bytes.{zeros}
use Rattle.nl_inode.proofs.nodes.taken.Goals as goal

pub returns : goal.returns
unfolding zeros
returns c = refl
