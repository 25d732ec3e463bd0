use Rattle.std.proofs.Common.{◌-◌}
use Rattle.nl_meta.specs.Pages.{page_of}
use Rattle.nl_recover.specs.Reaching.{reached_by}
use Rattle.nl_recover.proofs.ReachFacts.{Reaches}
use Rattle.nl_recover.proofs.reach.reach.Given as goal

abbrev pub invariant-loop-next : goal.invariant-loop-next
invariant-loop-next l = Reaches l.shape (page_of l.meta) l.next (reached_by l.marks.items l.queue.items)

abbrev pub decreases-loop-next : goal.decreases-loop-next
decreases-loop-next l = l.shape.nodes - l.next
