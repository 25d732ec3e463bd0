-- A core over a new volume, and the device below it.
use Rattle.std.specs.Prelude.{◌≡◌, ℕ, ◌+◌, ◌≤◌, [], length, Option, Some, Result, Ok, Err}
use Rattle.nl_field.specs.declared.inode.InodeRec.{InodeRec}
use Rattle.nl_tree.specs.Tree.{empty_tree}
use Rattle.nl_flight.specs.Flight.{nothing}
use Rattle.nl_iface.specs.declared.counts.Counts.{Ghosts}
use Rattle.nl_meta.specs.Consistent.{PageOfStamp}
use Rattle.nl_meta.specs.Nodes.{inode_at}
use Rattle.nl_meta.specs.Pages.{Pages, page_of}
use Rattle.nl_journal_commit.specs.Holding.{running_holders}
use Rattle.nl_core.specs.Trees.{CoreRepresentsTree}
use Rattle.nl_core.specs.declared.state.Core.{Core}

-- the record of the root counts no entries
abbrev pub HasNoEntries : Pages → Type 0
HasNoEntries meta = (rec : InodeRec) → inode_at (page_of meta) 0 ≡ Some rec → rec.size ≡ 0

-- The core runs as the tree with only the root, it has answered no call, and it can be written to. Nothing is in flight, files have no
-- page, and no pointer awaits its free.
pub record IsNew {D : Type 0} (g : Ghosts D) (v : Core D) : Type 0 where
  pub runs : g.tells → (page_of_stamp : ℕ → Option PageOfStamp) × CoreRepresentsTree g v page_of_stamp empty_tree
  pub flight : v.flight ≡ nothing
  pub no_files : length (running_holders g v.device v.meta) ≡ 0
  pub no_freeing : v.freeing.items ≡ []
  pub count : v.count ≡ 0
  pub stopped : v.stopped ≡ 0

-- A device on which so many pages were written at addresses: its numbers, its live pages and what leads to them are as before, and no write
-- failed.
pub record IsWrittenOn {D : Type 0} (g : Ghosts D) (pages : ℕ) (old new : D) : Type 0 where
  pub shape : g.shape new ≡ g.shape old
  pub names : g.names new ≡ g.names old
  pub stamps : g.next_stamp new ≤ g.next_stamp old + pages
  pub clean : g.clean old → g.clean new
  pub write_faults : g.write_faults new ≡ g.write_faults old

-- The device is formed with the numbers of before, and its counts have not fallen.
pub record StaysFormed {D : Type 0} (g : Ghosts D) (old new : D) : Type 0 where
  pub formed : g.formed new
  pub shape : g.shape new ≡ g.shape old
  pub clock : g.clock old ≤ g.clock new
  pub read_faults : g.read_faults old ≤ g.read_faults new
  pub write_faults : g.write_faults old ≤ g.write_faults new

-- the device of the core, or the one that comes back
abbrev pub device_in : {D : Type 0} → Result (Core D) D → D
device_in (Ok v) = v.device
device_in (Err device) = device
