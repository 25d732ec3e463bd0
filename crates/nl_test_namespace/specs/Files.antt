-- One file over a device, whose pages of pointers are all in memory.
use Rattle.std.specs.Prelude.{◌≡◌, ◌≢◌, ℕ, ◌≤◌, ◌<◌, false, [], length, slice_index, None}
use Rattle.nl_field.specs.declared.inode.InodeRec.{InodeRec}
use Rattle.nl_files.specs.Standing.{PointersLead}
use Rattle.nl_iface.specs.declared.counts.Counts.{Ghosts}
use Rattle.nl_indirect.specs.Ranges.{HasPointers, IsFileRecord}
use Rattle.nl_inode.specs.Nodes.{Spaces, is_free_address}
use Rattle.nl_meta.specs.Committed.{VirtualMap}
use Rattle.nl_meta.specs.Nodes.{slots_of}
use Rattle.nl_meta.specs.Pages.{Pages, page_of}
use Rattle.nl_meta.specs.Running.{CleanIsStored, running_over}

-- a device that stores nothing
abbrev pub nothing : VirtualMap
nothing v = None

-- the pages in memory alone
abbrev pub in_memory : Pages → VirtualMap
in_memory p = running_over nothing p

-- An address of the pool of a volume of 32 blocks of 32 pages, which is not free.
pub record IsTaken (free : Spaces) (a : ℕ) : Type 0 where
  pub low : 71 ≤ a
  pub high : a < 103
  pub taken : is_free_address free a ≡ false

-- The file's addresses are taken and have their pages in memory, its pointers lead to live pages as those of node 1, and nothing of the
-- volume was written. No page was moved.
pub record HasFile {D : Type 0} (g : Ghosts D) (s : D) (p : Pages) (free : Spaces) (rec : InodeRec) : Type 0 where
  pub addresses : (g.shape s).vaddrs ≡ 103
  pub idle : (g.names s).pending ≡ []
  pub count : length p.running ≡ 103
  pub unwritten : CleanIsStored nothing p
  pub file : IsFileRecord rec
  pub resident : (r : ℕ) → slice_index (slots_of rec) r ≢ 0 → HasPointers (page_of p) (slice_index (slots_of rec) r)
  pub taken : (r : ℕ) → slice_index (slots_of rec) r ≢ 0 → IsTaken free (slice_index (slots_of rec) r)
  pub leads : PointersLead (g.names s) 1 rec (in_memory p)
  pub first : free.first ≡ 71
  pub pool : length free.pool ≡ 32
