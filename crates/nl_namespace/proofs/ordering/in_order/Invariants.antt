use Rattle.nl_meta.specs.Nodes.{entries_of_inode}
use Rattle.nl_meta.specs.Pages.{page_of}
use Rattle.nl_namespace.specs.Sorting.{IsOrder}
use Rattle.nl_namespace.proofs.ordering.in_order.Given as goal

abbrev pub invariant-loop-place : goal.invariant-loop-place
invariant-loop-place l = IsOrder (entries_of_inode (page_of l.meta) l.rec) l.place l.order.items
