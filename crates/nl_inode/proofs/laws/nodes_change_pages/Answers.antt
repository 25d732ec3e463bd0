use Rattle.nl_inode.proofs.PageProofs.{nodes_change_pages}
use Rattle.nl_inode.proofs.laws.nodes_change_pages.Goals as goal

pub returns : goal.returns
returns g c = nodes_change_pages g.D.Counts
