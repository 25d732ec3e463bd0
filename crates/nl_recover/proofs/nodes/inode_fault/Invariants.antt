use Rattle.std.proofs.Common.{◌≡◌, ℕ, ◌<◌, false}
use Rattle.nl_meta.specs.Pages.{page_of}
use Rattle.nl_recover.specs.Phases.{is_bad_node}
use Rattle.nl_recover.proofs.nodes.inode_fault.Given as goal

abbrev pub invariant-loop-ino : goal.invariant-loop-ino
invariant-loop-ino l = (k : ℕ) → k < l.ino → is_bad_node l.shape (page_of l.meta) k ≡ false
