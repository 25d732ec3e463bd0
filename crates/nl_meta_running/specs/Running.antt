-- When names can be looked up in a volume that runs over a device, and that a call leaves it as it was.
use Rattle.std.specs.Prelude.{◌≡◌, ◌⊎◌, ℕ, true, length, None, IsSome}
use Rattle.nl_field.specs.Virtual.{is_inode_address, map_bytes}
use Rattle.nl_field.specs.declared.inode.InodeRec.{InodeRec}
use Rattle.nl_field.specs.declared.inode.Kind.TheVariants.{Dir}
use Rattle.nl_field.specs.declared.shape.Shape.{Shape}
use Rattle.nl_iface.specs.Calls.{OnlyReads}
use Rattle.nl_iface.specs.declared.counts.Counts.{Ghosts}
use Rattle.nl_inode.specs.FreeLaws.{UsesAddress}
use Rattle.nl_meta.specs.Committed.{VirtualMap}
use Rattle.nl_meta.specs.Consistent.{AddressesRight, EntriesRight, IsNode, NodesRight}
use Rattle.nl_meta.specs.PageLaws.{IsApart}
use Rattle.nl_meta.specs.Pages.{Pages, page_of}
use Rattle.nl_meta.specs.Running.{CleanIsStored, running_over}

-- the main bytes that the device has
abbrev pub stored_on : {D : Type 0} → Ghosts D → D → VirtualMap
stored_on g s = map_bytes (g.shape s) (g.map s)

-- the running map
abbrev pub running_on : {D : Type 0} → Ghosts D → D → Pages → VirtualMap
running_on g s p = running_over (stored_on g s) p

-- The address has nodes, or a used node has it.
abbrev pub IsNeeded : Shape → VirtualMap → ℕ → Type 0
IsNeeded shape pages v = (is_inode_address shape v ≡ true) ⊎ UsesAddress shape pages v

-- Nodes, addresses and entries of the running map are right, and the page of each of their addresses can be had: it is resident, or a
-- device that tells what it stores has it.
pub record RunningIsRight {D : Type 0} (g : Ghosts D) (s : D) (p : Pages) : Type 0 where
  pub count : length p.running ≡ (g.shape s).vaddrs
  pub nodes : NodesRight (g.shape s) (running_on g s p)
  pub addresses : AddressesRight (g.shape s) (running_on g s p)
  pub entries : EntriesRight (g.shape s) (running_on g s p)
  pub absent : (v : ℕ) → IsNeeded (g.shape s) (running_on g s p) v → page_of p v ≡ None → g.tells
  pub clean : g.tells → CleanIsStored (stored_on g s) p

-- The device was only read, and no page changed: each of those addresses has what it had, and so has every other one where the device
-- tells. Each resident page stays, and pages of those addresses may have become resident, none of them the journal's.
pub record PreservesRunning {D : Type 0} (g : Ghosts D) (s : D) (p : Pages) (t : D) (q : Pages) : Type 0 where
  pub reads : OnlyReads g s t
  pub count : length q.running ≡ length p.running
  pub dirty : q.dirty ≡ p.dirty
  pub frozen : q.frozen ≡ p.frozen
  pub needed : (v : ℕ) → IsNeeded (g.shape s) (running_on g s p) v → running_on g t q v ≡ running_on g s p v
  pub told : g.tells → (v : ℕ) → running_on g t q v ≡ running_on g s p v
  pub stays : (v : ℕ) → IsSome (page_of p v) → page_of q v ≡ page_of p v
  pub only : (v : ℕ) → IsSome (page_of q v) → IsSome (page_of p v) ⊎ IsNeeded (g.shape s) (running_on g s p) v
  pub apart : (v : ℕ) → IsSome (page_of q v) → IsSome (page_of p v) ⊎ IsApart v
  pub absent : (v : ℕ) → IsNeeded (g.shape s) (running_on g s p) v → page_of q v ≡ None → g.tells
  pub clean : g.tells → CleanIsStored (stored_on g t) q

-- the node has this record and is used
abbrev pub IsNodeOf : {D : Type 0} → Ghosts D → D → Pages → ℕ → InodeRec → Type 0
IsNodeOf g s p n rec = IsNode (g.shape s) (running_on g s p) n rec

abbrev pub IsUsedNode : {D : Type 0} → Ghosts D → D → Pages → ℕ → Type 0
IsUsedNode g s p n = (rec : InodeRec) × IsNodeOf g s p n rec

-- a directory has this record
abbrev pub IsDirectoryOf : {D : Type 0} → Ghosts D → D → Pages → InodeRec → Type 0
IsDirectoryOf g s p rec = (n : ℕ) × IsNodeOf g s p n rec × (rec.kind ≡ Dir)

-- the node is a directory
abbrev pub IsDirectoryAt : {D : Type 0} → Ghosts D → D → Pages → ℕ → Type 0
IsDirectoryAt g s p n = (rec : InodeRec) × IsNodeOf g s p n rec × (rec.kind ≡ Dir)
