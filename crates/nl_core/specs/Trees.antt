-- For which trees a core stands, and as which it runs.
use Rattle.std.specs.Prelude.{◌≡◌, ℕ, ◌<◌, ◌^◌, length, Option, Some}
use Rattle.nl_tree.specs.Tree.{Tree}
use Rattle.nl_iface.specs.declared.counts.Counts.{Ghosts}
use Rattle.nl_journal.specs.Progress.{HasNumber}
use Rattle.nl_meta.specs.Consistent.{PageOfStamp}
use Rattle.nl_spec_commits.specs.Standing.{ShowsPages}
use Rattle.nl_spec_commits.specs.Trees.{RepresentsTree, RepresentsTrees, Trees}
use Rattle.nl_core.specs.Core.{names_of, running_of}
use Rattle.nl_core.specs.declared.state.Core.{Core}

-- The core runs as this tree, with what the page of each write sequence number holds: each live page is that page, and each number was
-- given.
pub record CoreRepresentsTree {D : Type 0} (g : Ghosts D) (v : Core D) (page_of_stamp : ℕ → Option PageOfStamp) (tree : Tree) : Type 0 where
  pub runs : RepresentsTree (g.shape v.device) (running_of g v) page_of_stamp tree
  pub shows : ShowsPages (names_of g v) (g.bytes v.device) page_of_stamp
  pub given : (stamp : ℕ) (page : PageOfStamp) → page_of_stamp stamp ≡ Some page → stamp < g.next_stamp v.device

-- The core stands for these trees, and runs as the last of them. The counts of what is committed and of what is frozen are those that are kept.
pub record CoreRepresents {D : Type 0} (g : Ghosts D) (v : Core D) (page_of_stamp : ℕ → Option PageOfStamp) (t : Trees) : Type 0 where
  pub stands : RepresentsTrees g v.device v.journal v.meta v.count page_of_stamp t
  pub runs : CoreRepresentsTree g v page_of_stamp t.running
  pub committed : t.committed.0 ≡ v.committed
  pub frozen : t.frozen.0 ≡ v.frozen

-- The medium tells its contents, and counts of calls, numbers of transactions and moments have not ended.
pub record CoreIsObservable {D : Type 0} (g : Ghosts D) (v : Core D) : Type 0 where
  pub tells : g.tells
  pub numbers : HasNumber v.journal (length v.meta.frozen.addresses)
  pub calls : v.count < 2 ^ 63
  pub moments : g.clock v.device < 2 ^ 63
