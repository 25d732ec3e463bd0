use Rattle.nl_meta.specs.Pages.{page_of}
use Rattle.nl_recover.proofs.EntryFacts.{Passed}
use Rattle.nl_recover.proofs.entries.first_fault.Given as goal

abbrev pub invariant-loop-ino : goal.invariant-loop-ino
invariant-loop-ino l = Passed l.shape (page_of l.meta) l.ino l.nodes.items
