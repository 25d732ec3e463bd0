-- What a step of a file call does to a core: pages of the metadata change in memory, and the device is only read.
use Rattle.std.specs.Prelude.{◌≡◌, ℕ, ◌+◌, ◌≤◌, length, Option}
use Rattle.nl_field.specs.declared.pointer.Pointer.{Pointer}
use Rattle.nl_field.specs.declared.pointer.Tag.{Tag}
use Rattle.nl_flight.specs.Flight.{IsFlight, carried}
use Rattle.nl_iface.specs.Calls.{CrashStatesHave, OnlyReads, StoresPages}
use Rattle.nl_iface.specs.Device.{IsVolumeShape}
use Rattle.nl_iface.specs.Names.{Has}
use Rattle.nl_iface.specs.declared.counts.Counts.{Ghosts}
use Rattle.nl_meta.specs.Consistent.{PageOfStamp}
use Rattle.nl_meta.specs.Steps.{ChangesRunningPages}
use Rattle.nl_meta_running.specs.Running.{RunningIsRight, PreservesRunning}
use Rattle.nl_tree.specs.Tree.{Tree}
use Rattle.nl_journal_commit.specs.Holding.{running_holders}
use Rattle.nl_spec_commits.specs.Held.{IsHeldVolume}
use Rattle.nl_spec_commits.specs.TreeLaws.{OpensFrom}
use Rattle.nl_spec_commits.specs.Trees.{Prefix, RepresentsTree, Trees}
use Rattle.nl_core.specs.Core.{FreeAreUnused, IsCore, running_of}
use Rattle.nl_core.specs.Trees.{CoreRepresentsTree, CoreRepresents, CoreIsObservable}
use Rattle.nl_core.specs.declared.state.Core.{Core}

-- The device was only read, and pages of the metadata changed in memory. Of the rest at most what is free changed, what is in flight, and
-- what awaits its free, for which there is as much room as before.
pub record Steps {D : Type 0} (g : Ghosts D) (old new : Core D) : Type 0 where
  pub reads : OnlyReads g old.device new.device
  pub read_faults : g.read_faults old.device ≤ g.read_faults new.device
  pub pages : ChangesRunningPages old.meta new.meta
  pub room : length old.freeing.items + old.freeing.room ≤ length new.freeing.items + new.freeing.room
  pub others : new ≡ record old { device = new.device; meta = new.meta; nodes = new.nodes; flight = new.flight; freeing = new.freeing }

-- The metadata runs, what is free is what no node has, and as many live pages are held as before, each of them once; the files have no more
-- than they may have, and no further page is in flight.
pub record IsHeldAfter {D : Type 0} (g : Ghosts D) (old new : Core D) : Type 0 where
  pub runs : RunningIsRight g new.device new.meta
  pub free : FreeAreUnused g new
  pub held : IsHeldVolume g new.device old.journal new.meta (carried new.flight) new.freeing.items old.leaving
  pub as_many : length (running_holders g new.device new.meta) + length (carried new.flight) + length new.freeing.items
      ≡ length (running_holders g old.device old.meta) + length (carried old.flight) + length old.freeing.items
  pub few : length (running_holders g new.device new.meta) ≤ (g.shape old.device).cap
  pub flight : IsFlight new.flight
  pub fewer : (x : Tag × Pointer) → Has (carried new.flight) x → Has (carried old.flight) x

-- After a step the core is one again, where the volume is held so.
abbrev pub StepsAreCores : {D : Type 0} → Ghosts D → Type 0
StepsAreCores {D} g =
    (old new : Core D) → IsVolumeShape (g.shape old.device) → g.formed new.device → (g.tells → StoresPages g new.device) → IsCore g old
    → Steps g old new → IsHeldAfter g old new → IsCore g new

-- A core that stood for trees stands after a step for those that are committed, and for any tree of all calls for which its pages stand
-- now.
abbrev pub StepsGo : {D : Type 0} → Ghosts D → Type 0
StepsGo {D} g =
    (old new : Core D) (page_of_stamp : ℕ → Option PageOfStamp) (t : Trees) (tree : Tree) → IsVolumeShape (g.shape old.device)
    → IsCore g old → Steps g old new → CoreIsObservable g new → CoreRepresents g old page_of_stamp t
    → RepresentsTree (g.shape new.device) (running_of g new) page_of_stamp tree
    → CoreRepresents g new page_of_stamp (record { committed = t.committed; frozen = t.frozen; running = tree })

-- Where the medium tells its contents, a core runs after a step as any tree for which its pages stand now.
abbrev pub StepsRun : {D : Type 0} → Ghosts D → Type 0
StepsRun {D} g =
    (old new : Core D) (page_of_stamp : ℕ → Option PageOfStamp) (was tree : Tree) → g.tells → Steps g old new
    → CoreRepresentsTree g old page_of_stamp was
    → RepresentsTree (g.shape new.device) (running_of g new) page_of_stamp tree → CoreRepresentsTree g new page_of_stamp tree

-- A stop within a step leaves nothing that was not left before.
abbrev pub StepsLeave : {D : Type 0} → Ghosts D → Type 0
StepsLeave {D} g =
    (old new : Core D) (t : Trees) (y : Prefix) → g.tells → Steps g old new
    → CrashStatesHave g (OpensFrom (g.shape old.device) old.count new.moment t y) old.device new.device

-- One step after the other is a step.
abbrev pub StepsThen : {D : Type 0} → Ghosts D → Type 0
StepsThen {D} g = (first second third : Core D) → Steps g first second → Steps g second third → Steps g first third

-- Where pages are only read, the volume is what it was.
pub record ReadsOn {D : Type 0} (g : Ghosts D) (old new : Core D) : Type 0 where
  pub runs : PreservesRunning g old.device old.meta new.device new.meta
  pub read_faults : g.read_faults old.device ≤ g.read_faults new.device
  pub others : new ≡ record old { device = new.device; meta = new.meta }

-- A core that was only read is one still, takes a step so, and stands for the trees for which it stood.
pub record ReadAlike {D : Type 0} (g : Ghosts D) (old new : Core D) : Type 0 where
  pub core : IsCore g old → IsCore g new
  pub steps : Steps g old new
  pub trees : (page_of_stamp : ℕ → Option PageOfStamp) (tree : Tree)
      → RepresentsTree (g.shape old.device) (running_of g old) page_of_stamp tree
      → RepresentsTree (g.shape new.device) (running_of g new) page_of_stamp tree

abbrev pub ReadsAreAlike : {D : Type 0} → Ghosts D → Type 0
ReadsAreAlike {D} g =
    (old new : Core D) → IsVolumeShape (g.shape old.device) → g.formed new.device → (g.tells → StoresPages g new.device) → ReadsOn g old new
    → ReadAlike g old new
