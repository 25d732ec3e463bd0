use Rattle.nl_inode.proofs.FreeProofs.{free_is_unused}
use Rattle.nl_inode.proofs.laws.free_is_unused.Goals as goal

pub returns : goal.returns
returns c = free_is_unused
