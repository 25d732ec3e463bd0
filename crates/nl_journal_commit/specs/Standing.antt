-- The metadata of a volume that runs, between two writes of its journal.
use Rattle.std.specs.Prelude.{◌≡◌, ◌⊎◌, ℕ, ◌<◌, ◌≤◌, true, false, List, [], length, Some, None, IsSome, slice_index}
use Rattle.nl_iface.specs.Calls.{KeepsVirtual}
use Rattle.nl_iface.specs.Device.{IsVolumeShape}
use Rattle.nl_iface.specs.declared.counts.Counts.{Ghosts}
use Rattle.nl_journal.specs.Homes.{AreHome, BringsHome, copied}
use Rattle.nl_journal.specs.Outcomes.{bytes_of}
use Rattle.nl_journal.specs.Progress.{Progress}
use Rattle.nl_journal.specs.Standing.{JournalInOrder}
use Rattle.nl_journal.specs.Transaction.{IsTransaction, main_at}
use Rattle.nl_journal.specs.declared.answers.Phase.TheVariants.{Header}
use Rattle.nl_meta.specs.Nodes.{graph_of}
use Rattle.nl_meta.specs.Pages.{Pages, IsPages, dirty_pages, is_dirty, none_frozen, page_of}
use Rattle.nl_meta.specs.Steps.{with_dirty}
use Rattle.nl_meta_running.specs.Running.{IsNeeded, RunningIsRight, PreservesRunning, running_on}

-- The pages of a transaction are resident, and one that did not change since it was frozen is the running page.
pub record HasFrozen (pages : Pages) : Type 0 where
  pub resident : (i : ℕ) → i < length pages.frozen.addresses → IsSome (page_of pages (slice_index pages.frozen.addresses i))
  pub unchanged : (i : ℕ) → i < length pages.frozen.addresses → is_dirty pages (slice_index pages.frozen.addresses i) ≡ false
      → page_of pages (slice_index pages.frozen.addresses i) ≡ Some (main_at pages.frozen.images i)

-- The metadata runs, and its journal is in order: as many of the frozen pages are home as the journal says. The super page is resident, and
-- no page of the journal's addresses is.
pub record IsJournaled {D : Type 0} (g : Ghosts D) (s : D) (p : Progress) (pages : Pages) : Type 0 where
  pub runs : RunningIsRight g s pages
  pub order : JournalInOrder g s p pages.frozen
  pub home : g.tells → AreHome pages.frozen (copied p.phase) (bytes_of (g.map s))
  pub frozen : HasFrozen pages
  pub super_page : IsSome (page_of pages 0)
  pub apart : (v : ℕ) → 1 ≤ v → v < 67 → page_of pages v ≡ None

-- The metadata stands on, and each page that its nodes need is the one that it was, so that the nodes stand for the tree that they stood
-- for.
pub record PreservesGraph {D : Type 0} (g : Ghosts D) (s : D) (pages : Pages) (t : D) (q : Progress) (now : Pages) : Type 0 where
  pub journaled : IsJournaled g t q now
  pub needed : (v : ℕ) → IsNeeded (g.shape s) (running_on g s pages) v → running_on g t now v ≡ running_on g s pages v
  pub graph : graph_of (g.shape t) (running_on g t now) ≡ graph_of (g.shape s) (running_on g s pages)

-- ---- what a commit does

-- Pages of the transaction were written. Where all are home, nothing is frozen any more.
pub record WritesFrozen {D : Type 0} (g : Ghosts D) (s : D) (p : Progress) (pages : Pages) (t : D) (q : Progress)
    (now : Pages) : Type 0 where
  pub same_shape : g.shape t ≡ g.shape s
  pub order : JournalInOrder g t q now.frozen
  pub kept : now ≡ record pages { frozen = now.frozen }
  pub frozen : (now.frozen ≡ pages.frozen) ⊎ ((q.phase ≡ Header) × (now.frozen ≡ none_frozen))
  pub home : g.tells → BringsHome (g.shape s).vaddrs p q pages.frozen now.frozen (bytes_of (g.map s)) (bytes_of (g.map t))

abbrev pub WritingPreservesGraph : {D : Type 0} → Ghosts D → Type 0
WritingPreservesGraph {D} g =
    (s t : D) (p q : Progress) (pages now : Pages) → IsVolumeShape (g.shape s) → IsJournaled g s p pages → WritesFrozen g s p pages t q now
    → PreservesGraph g s pages t q now

-- Nothing is frozen, and the dirty pages are a transaction.
pub record CanFreeze (count : ℕ) (p : Progress) (pages : Pages) : Type 0 where
  pub header : p.phase ≡ Header
  pub none : pages.frozen ≡ none_frozen
  pub dirty : IsTransaction count (dirty_pages pages)

-- The dirty pages are a transaction where nothing is frozen and the super page is dirty.
abbrev pub ChangesCanFreeze : {D : Type 0} → Ghosts D → Type 0
ChangesCanFreeze {D} g =
    (s : D) (p : Progress) (pages : Pages) → IsJournaled g s p pages → IsPages pages → is_dirty pages 0 ≡ true → p.phase ≡ Header
    → pages.frozen ≡ none_frozen
    → CanFreeze (g.shape s).vaddrs p pages

-- The dirty pages are frozen.
abbrev pub FreezingPreservesGraph : {D : Type 0} → Ghosts D → Type 0
FreezingPreservesGraph {D} g =
    (s : D) (p : Progress) (pages : Pages) → IsVolumeShape (g.shape s) → IsJournaled g s p pages → IsPages pages
    → CanFreeze (g.shape s).vaddrs p pages
    → PreservesGraph g s pages s p (record pages { dirty = []; frozen = dirty_pages pages })

-- The super page has other bytes.
abbrev pub SuperPagePreservesGraph : {D : Type 0} → Ghosts D → Type 0
SuperPagePreservesGraph {D} g =
    (s : D) (p : Progress) (pages : Pages) (bytes : List ℕ) → IsVolumeShape (g.shape s) → IsJournaled g s p pages
    → PreservesGraph g s pages s p (with_dirty pages 0 bytes)

-- The device keeps what its addresses have.
abbrev pub AddressesPreserveGraph : {D : Type 0} → Ghosts D → Type 0
AddressesPreserveGraph {D} g =
    (s t : D) (p : Progress) (pages : Pages) → IsVolumeShape (g.shape s) → IsJournaled g s p pages → KeepsVirtual g s t
    → PreservesGraph g s pages t p pages

-- Pages are read, and some become resident.
abbrev pub ReadsPreserveGraph : {D : Type 0} → Ghosts D → Type 0
ReadsPreserveGraph {D} g =
    (s t : D) (p : Progress) (pages now : Pages) → IsVolumeShape (g.shape s) → IsJournaled g s p pages → PreservesRunning g s pages t now
    → PreservesGraph g s pages t p now
