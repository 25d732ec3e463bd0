-- What a call that changes names does to a volume that runs over a device.
use Rattle.std.specs.Prelude.{◌≡◌, ℕ, ◌+◌, ◌≤◌, length, Option, Some, None}
use Rattle.nl_field.specs.declared.inode.InodeRec.{InodeRec}
use Rattle.nl_field.specs.declared.inode.Kind.TheVariants.{File, Unused}
use Rattle.nl_field.specs.declared.shape.Shape.{Shape}
use Rattle.nl_iface.specs.Calls.{OnlyReads}
use Rattle.nl_iface.specs.declared.counts.Counts.{Ghosts}
use Rattle.nl_inode.specs.FreeLaws.{NodeIs, NodesAreFree, PoolIsFree}
use Rattle.nl_inode.specs.Nodes.{Spaces}
use Rattle.nl_meta.specs.Committed.{VirtualMap}
use Rattle.nl_meta.specs.Consistent.{AddressesRight, EntriesRight, NodesRight}
use Rattle.nl_meta.specs.Nodes.{graph_of}
use Rattle.nl_meta.specs.Pages.{Pages, besides_0, page_of}
use Rattle.nl_meta.specs.PointerLists.{tagged_in}
use Rattle.nl_meta.specs.Running.{CleanIsStored}
use Rattle.nl_meta.specs.Steps.{ChangesRunningPages}
use Rattle.nl_meta_running.specs.Running.{IsNeeded, IsNodeOf, PreservesRunning, running_on, stored_on}
use Rattle.nl_namespace.specs.Taking.{TakesLeast}
use Rattle.nl_namespace.specs.declared.answer.Change.{Change}
use Rattle.nl_namespace.specs.declared.answer.Change.TheVariants as change

-- What is free is exactly what the running pages do not use.
pub record FreeFits {D : Type 0} (g : Ghosts D) (s : D) (p : Pages) (free : Spaces) : Type 0 where
  pub count_nodes : length free.nodes ≡ (g.shape s).nodes
  pub count_pool : length free.pool ≡ (g.shape s).meta
  pub nodes : NodesAreFree (g.shape s) (running_on g s p) free
  pub pool : PoolIsFree (g.shape s) (running_on g s p) free

-- Entries are right, once the node that lost its name, if one did, is unused.
abbrev pub EntriesBut : Shape → VirtualMap → Option ℕ → Type 0
EntriesBut shape pages None = EntriesRight shape pages
EntriesBut shape pages (Some n) =
    (rec : InodeRec) (after : VirtualMap) → rec.kind ≡ Unused → NodeIs n rec pages after → EntriesRight shape after

-- Names can be looked up, once that node is unused. Its record is what it was, and so are the pages that it has.
pub record RunningIsRightBut {D : Type 0} (g : Ghosts D) (s : D) (p : Pages) (gone : Option ℕ) : Type 0 where
  pub count : length p.running ≡ (g.shape s).vaddrs
  pub nodes : NodesRight (g.shape s) (running_on g s p)
  pub addresses : AddressesRight (g.shape s) (running_on g s p)
  pub entries : EntriesBut (g.shape s) (running_on g s p) gone
  pub absent : (v : ℕ) → IsNeeded (g.shape s) (running_on g s p) v → page_of p v ≡ None → g.tells
  pub clean : g.tells → CleanIsStored (stored_on g s) p

-- A file has the record and the pointers that it had.
pub record FileStays {D : Type 0} (g : Ghosts D) (s : D) (p : Pages) (t : D) (q : Pages) (n : ℕ) (rec : InodeRec) : Type 0 where
  pub is_node : IsNodeOf g t q n rec
  pub graph : graph_of (g.shape t) (running_on g t q) n ≡ graph_of (g.shape s) (running_on g s p) n

-- Names changed: at most eight pages are dirty that were not, besides address 0. The device was only read, no page was lost, the frozen
-- pages stay, and so does each file, whether it lost its name or not. What is free is the second, and was the first.
pub record Changes {D : Type 0} (g : Ghosts D) (s : D) (p : Pages) (free : Spaces) (t : D) (q : Pages) (after : Spaces)
    (gone : Option ℕ) : Type 0 where
  pub reads : OnlyReads g s t
  pub frozen : q.frozen ≡ p.frozen
  pub pages : ChangesRunningPages p q
  pub few : length (besides_0 q.dirty) ≤ length (besides_0 p.dirty) + 8
  pub runs : RunningIsRightBut g t q gone
  -- the node that lost its name still counts as used
  pub fits : FreeFits g t q after
  pub takes : TakesLeast free after (graph_of (g.shape s) (running_on g s p)) (graph_of (g.shape t) (running_on g t q))
  pub files : (n : ℕ) (rec : InodeRec) → IsNodeOf g s p n rec → rec.kind ≡ File → FileStays g s p t q n rec
  -- the pointers of all files, in their order, are what they were
  pub pointers : tagged_in (g.shape t) (running_on g t q) ≡ tagged_in (g.shape s) (running_on g s p)

-- what a call leaves: all as it was, unless it was done
abbrev pub ChangeLeaves : {D : Type 0} → Ghosts D → D → Pages → Spaces → D → Pages → Spaces → Change → Type 0
ChangeLeaves g s p free t q after (change.Changed gone) = Changes g s p free t q after gone
ChangeLeaves g s p free t q after (change.No refusal) = PreservesRunning g s p t q × (after ≡ free)
ChangeLeaves g s p free t q after change.Fault = PreservesRunning g s p t q × (after ≡ free)
ChangeLeaves g s p free t q after (change.Lost w f) = PreservesRunning g s p t q × (after ≡ free)
