use Rattle.std.proofs.Common.{◌≡◌, ℕ, ◌<◌, false, not, ◌&&◌, get_or}
use Rattle.nl_meta.specs.Nodes.{inode_at}
use Rattle.nl_meta.specs.Pages.{page_of}
use Rattle.nl_recover.specs.Reaching.{is_used_record}
use Rattle.nl_recover.proofs.reach.first_unreached.Given as goal

abbrev pub invariant-loop-ino : goal.invariant-loop-ino
invariant-loop-ino l = (k : ℕ) → k < l.ino → (is_used_record (inode_at (page_of l.meta) k) && not (get_or l.marks k false)) ≡ false
