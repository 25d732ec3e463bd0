use Rattle.nl_meta.specs.Pages.{page_of}
use Rattle.nl_recover.proofs.FreeFacts.{FreeBelow}
use Rattle.nl_recover.proofs.free.free_lists.Given as goal

abbrev pub invariant-loop-ino : goal.invariant-loop-ino
invariant-loop-ino l = FreeBelow l.shape (page_of l.meta) l.ino l.nodes
