use Rattle.nl_meta.specs.Nodes.{entries_of_inode}
use Rattle.nl_meta.specs.Pages.{page_of}
use Rattle.nl_volume_list.proofs.Least.{LeastSoFar}
use Rattle.nl_volume_list.proofs.entries.least_place.Given as goal

abbrev pub invariant-loop-place : goal.invariant-loop-place
invariant-loop-place l = LeastSoFar (entries_of_inode (page_of l.meta) l.rec) l.after l.rec.size l.place l.least
