-- What each call of a core keeps and leaves.
use Rattle.std.specs.Prelude.{◌≡◌, ◌⊎◌, ℕ, ◌+◌, ◌≤◌, Option}
use Rattle.nl_field.specs.CrashStates.{Earlier, Rose, saturated}
use Rattle.nl_field.specs.Members.{Has}
use Rattle.nl_tree.specs.Tree.{Tree}
use Rattle.nl_core_callbacks.specs.Handled.{SameButNames}
use Rattle.nl_iface.specs.Calls.{CrashStatesHave}
use Rattle.nl_iface.specs.declared.counts.Counts.{Ghosts}
use Rattle.nl_journal.specs.Passes.{StampsRise}
use Rattle.nl_meta.specs.Consistent.{PageOfStamp}
use Rattle.nl_meta.specs.Nodes.{graph_of}
use Rattle.nl_journal_commit.specs.Completing.{NumberPaid}
use Rattle.nl_spec_commits.specs.DeviceLaws.{Extends}
use Rattle.nl_spec_commits.specs.TreeLaws.{OpensFrom}
use Rattle.nl_spec_commits.specs.Trees.{Prefix, Trees, prefixes}
use Rattle.nl_core.specs.Core.{begun_of, names_of, running_of}
use Rattle.nl_core.specs.Trees.{CoreRepresentsTree, CoreRepresents, CoreIsObservable}
use Rattle.nl_core.specs.Units.{units_for}
use Rattle.nl_core.specs.declared.state.Core.{Core}

-- The core stands for the same tree of all calls. What is committed is what was committed before or frozen, or all calls; each page that
-- was programmed before holds what it held.
pub record PreservesTrees {D : Type 0} (g : Ghosts D) (old new : Core D) (page_of_stamp : ℕ → Option PageOfStamp) (t : Trees) : Type 0 where
  pub pages : ℕ → Option PageOfStamp
  pub trees : Trees
  pub stands : CoreRepresents g new pages trees
  pub extends : Extends page_of_stamp pages
  pub running : trees.running ≡ t.running
  pub committed : Has (prefixes old.count t) trees.committed
  pub frozen : Has (prefixes old.count t) trees.frozen
  pub later : t.committed.0 ≤ trees.committed.0

-- The core runs as the tree, and each page that was programmed before holds what it held.
pub record PreservesTree {D : Type 0} (g : Ghosts D) (new : Core D) (page_of_stamp : ℕ → Option PageOfStamp) (tree : Tree) : Type 0 where
  pub pages : ℕ → Option PageOfStamp
  pub extends : Extends page_of_stamp pages
  pub runs : CoreRepresentsTree g new pages tree

-- The volume is read-only from the first write on that failed, under the sum of both fault counts.
pub record TurnsReadOnly {D : Type 0} (g : Ghosts D) (old new : Core D) : Type 0 where
  pub stands : (old.stopped ≡ 0 → ⊥) → new.stopped ≡ old.stopped
  pub none : new.stopped ≡ 0 → Rose (g.write_faults old.device) (g.write_faults new.device) → ⊥
  pub some : old.stopped ≡ 0 → (new.stopped ≡ 0 → ⊥)
      → Rose (g.write_faults old.device) (g.write_faults new.device)
      × (Rose (g.read_faults old.device + g.write_faults old.device) new.stopped
      × (new.stopped ≤ saturated (g.read_faults new.device + g.write_faults new.device)))

-- Since this clock, when the number of the last transaction was this one, it has risen by no more than the clock.
abbrev pub PaidSince : {D : Type 0} → Ghosts D → ℕ → ℕ → Core D → Type 0
PaidSince g clock number v = NumberPaid clock number (g.clock v.device) v.journal.number

-- How many calls are committed does not fall, and for no sync whose goal is among the calls so far are more units left than before.
pub record CommitsOnward {D : Type 0} (old new : Core D) : Type 0 where
  pub committed : old.committed ≤ new.committed
  pub units : (goal : ℕ) → goal ≤ old.count → units_for new goal ≤ units_for old goal

-- The core is the volume that it was, but for what a call does beside: the same calls were answered, and nodes have other names of pages at
-- most. Numbers and counts do not fall, nor does the last number that a callback was given; the number of the last transaction rises by no
-- more than the clock does. What is committed changes with a commit page that was finished since, and does not fall. Where the medium tells its contents, it
-- runs on as the tree as which it ran. Where counts have not ended either, it goes on to stand for the trees for which it stood, and what a
-- stop leaves opens as one of them, from the moment of the last commit page on as none earlier than what that one committed.
pub record PreservesVolume {D : Type 0} (g : Ghosts D) (most : ℕ) (old new : Core D) : Type 0 where
  pub same_shape : g.shape new.device ≡ g.shape old.device
  pub count : new.count ≡ old.count
  pub nodes : SameButNames (graph_of (g.shape old.device) (running_of g old)) (graph_of (g.shape new.device) (running_of g new))
  pub numbers : begun_of old ≤ begun_of new
  pub paid : PaidSince g (g.clock old.device) old.journal.number new
  pub reads : g.read_faults old.device ≤ g.read_faults new.device
  pub writes : g.write_faults old.device ≤ g.write_faults new.device
  pub clock : g.clock old.device ≤ g.clock new.device
  pub moment : ((new.moment ≡ old.moment) × (new.committed ≡ old.committed))
      ⊎ (Earlier (g.clock old.device) new.moment × (g.clock old.device ≤ new.moment))
  pub onward : CommitsOnward old new
  pub stops : TurnsReadOnly g old new
  pub stamps : StampsRise g most old.device new.device
  pub posted : (names_of g old).posted ≤ (names_of g new).posted
  pub runs : g.tells → (page_of_stamp : ℕ → Option PageOfStamp) (tree : Tree) → CoreRepresentsTree g old page_of_stamp tree
      → PreservesTree g new page_of_stamp tree
  pub trees : CoreIsObservable g new → (page_of_stamp : ℕ → Option PageOfStamp) (t : Trees) → CoreRepresents g old page_of_stamp t
      → PreservesTrees g old new page_of_stamp t
  pub left : CoreIsObservable g new → (page_of_stamp : ℕ → Option PageOfStamp) (t : Trees) (y : Prefix) → y.0 ≡ new.committed
      → CoreRepresents g old page_of_stamp t
      → CrashStatesHave g (OpensFrom (g.shape old.device) old.count new.moment t y) old.device new.device
