-- What a core keeps between two calls.
use Rattle.std.specs.Prelude.{◌≡◌, ℕ, ◌+◌, ◌*◌, ◌<◌, ◌≤◌, length, IsTrue}
use Rattle.nl_field.specs.CrashStates.{top}
use Rattle.nl_field.specs.Medium.{first_physical}
use Rattle.nl_field.specs.Spelling.{is_stamp}
use Rattle.nl_field.specs.declared.pointer.Pointer.{Pointer}
use Rattle.nl_field.specs.declared.pointer.Tag.{Tag}
use Rattle.nl_field.specs.declared.shape.Shape.{Shape}
use Rattle.nl_flight.specs.Flight.{IsFlight, carried}
use Rattle.nl_spec_holders.specs.Holding.{HandledUpTo}
use Rattle.nl_iface.specs.Holders.{Holders, IsCounted}
use Rattle.nl_iface.specs.Names.{Has, Names}
use Rattle.nl_iface.specs.Space.{CanLand}
use Rattle.nl_iface.specs.declared.counts.Counts.{Ghosts}
use Rattle.nl_inode.specs.FreeLaws.{NodesAreFree, PoolIsFree}
use Rattle.nl_journal.specs.Progress.{begun}
use Rattle.nl_meta.specs.Committed.{VirtualMap}
use Rattle.nl_meta_running.specs.Running.{running_on}
use Rattle.nl_journal_commit.specs.Completing.{AwaitsCommitPage}
use Rattle.nl_journal_commit.specs.Holding.{running_holders}
use Rattle.nl_journal_commit.specs.Standing.{IsJournaled}
use Rattle.nl_spec_commits.specs.Held.{IsHeldVolume}
use Rattle.nl_spec_commits.specs.SettlingLaws.{JournalIsObservable}
use Rattle.nl_spec_commits.specs.Standing.{IsFirm}
use Rattle.nl_core.specs.declared.state.Core.{Core}

-- what is seen of the device: its names, and the metadata as it runs
abbrev pub names_of : {D : Type 0} → Ghosts D → Core D → Names
names_of g v = g.names v.device

abbrev pub running_of : {D : Type 0} → Ghosts D → Core D → VirtualMap
running_of g v = running_on g v.device v.meta

-- the number of the last transaction that was begun
abbrev pub begun_of : {D : Type 0} → Core D → ℕ
begun_of v = begun v.journal (length v.meta.frozen.addresses)

abbrev pub holders_of : {D : Type 0} → Ghosts D → Core D → Holders
holders_of g v = record { running = running_holders g v.device v.meta; flight = carried v.flight; freeing = v.freeing.items }

-- What writes need: the virtual segment keeps a spare block, the live pages of a victim can land, and what is stored can be opened. One
-- more write that fails can be counted.
pub record CanWrite {D : Type 0} (g : Ghosts D) (v : Core D) : Type 0 where
  pub spare : g.keeps_spare v.device
  pub lands : CanLand (names_of g v).space
  pub firm : JournalIsObservable g v.journal v.meta → IsFirm g v.device
  pub counts : g.write_faults v.device < top

-- The free numbers and addresses are those that no used node has.
pub record FreeAreUnused {D : Type 0} (g : Ghosts D) (v : Core D) : Type 0 where
  pub count_nodes : length v.nodes.nodes ≡ (g.shape v.device).nodes
  pub count_pool : length v.nodes.pool ≡ (g.shape v.device).meta
  pub nodes : NodesAreFree (g.shape v.device) (running_of g v) v.nodes
  pub pool : PoolIsFree (g.shape v.device) (running_of g v) v.nodes

-- The live pages are those of the holders, and the files have no more than the volume may have. The other pages of the segment are enough
-- for the cleaner and for what is in flight.
pub record HasSpace {D : Type 0} (g : Ghosts D) (v : Core D) : Type 0 where
  pub counted : IsCounted (names_of g v) (holders_of g v)
  pub few : length (running_holders g v.device v.meta) ≤ (g.shape v.device).cap
  pub all : (names_of g v).space.all
      ≡ (g.shape v.device).cap + ((names_of g v).space.keep + (names_of g v).space.bad + 3) * (names_of g v).space.block + 160
  pub room : (g.shape v.device).pblocks * (g.shape v.device).pages ≤ length v.freeing.items + v.freeing.room

-- the name is one of the physical segment
abbrev pub IsPhysical : Shape → ℕ → Type 0
IsPhysical shape name = (first_physical shape ≤ name) × (name < shape.blocks * shape.pages)

-- The counts of calls that are committed, that are once the frozen transaction is, and that were answered do not fall in this order. Where no
-- commit page is to be written, the first two are the same, and no transaction gives up a page.
pub record CountsInOrder {D : Type 0} (v : Core D) : Type 0 where
  pub later : v.committed ≤ v.frozen
  pub latest : v.frozen ≤ v.count
  pub few : v.count ≤ top
  pub shut : (AwaitsCommitPage v.journal v.meta.frozen → ⊥) → (v.frozen ≡ v.committed) × (v.leaving ≡ 0)

pub record IsCore {D : Type 0} (g : Ghosts D) (v : Core D) : Type 0 where
  -- the device is formed
  pub formed : g.formed v.device
  pub shape : v.shape ≡ g.shape v.device
  -- the metadata runs, and its journal is in order
  pub journaled : IsJournaled g v.device v.journal v.meta
  pub free : FreeAreUnused g v
  -- each live page is held once, and what is committed or frozen keeps its pages
  pub held : IsHeldVolume g v.device v.journal v.meta (carried v.flight) v.freeing.items v.leaving
  pub counts : CountsInOrder v
  -- the pages in flight have names of the physical segment, and write sequence numbers that are spelled
  pub flight : IsFlight v.flight
  pub named : (x : Tag × Pointer) → Has (carried v.flight) x → IsPhysical (g.shape v.device) x.1.name
  pub stamped : (x : Tag × Pointer) → Has (carried v.flight) x → IsTrue (is_stamp x.1.stamp)
  pub space : HasSpace g v
  -- callbacks were handled by the next transaction or an earlier one
  pub marked : HandledUpTo (names_of g v) (begun_of v + 1)
  pub moment : v.moment ≤ g.clock v.device
  -- until a write fails, the next one can be made
  pub writes : v.stopped ≡ 0 → CanWrite g v
