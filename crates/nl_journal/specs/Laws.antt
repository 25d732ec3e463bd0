-- What the layers above use between two calls of the journal.
use Rattle.std.specs.Prelude.{◌≡◌, ◌⊎◌, ℕ, ◌<◌, ◌≤◌, true, false, [], length}
use Rattle.nl_iface.specs.Calls.{KeepsVirtual}
use Rattle.nl_iface.specs.Device.{IsVolumeShape}
use Rattle.nl_iface.specs.Stored.{NoneFailed, ShowsMap, Stored, Value}
use Rattle.nl_iface.specs.declared.counts.Counts.{Ghosts}
use Rattle.nl_meta.specs.Committed.{VirtualMap}
use Rattle.nl_meta.specs.Pages.{Frozen, IsPages, Pages, dirty_pages, is_dirty}
use Rattle.nl_journal.specs.Committing.{ahead, aimed, committed_on}
use Rattle.nl_journal.specs.Left.{StoresCommitted}
use Rattle.nl_journal.specs.Opening.{Opened}
use Rattle.nl_journal.specs.Outcomes.{Agrees, bytes_of}
use Rattle.nl_journal.specs.Progress.{HasNumber, IsPhase, Progress}
use Rattle.nl_journal.specs.Standing.{JournalInOrder}
use Rattle.nl_journal.specs.Transaction.{IsTransaction}
use Rattle.nl_journal.specs.declared.answers.Phase.TheVariants.{Header}

-- Whatever shows the map, but for the writes that failed, has the committed pages, or those that the commit page puts in place whose
-- write failed; and where none of that failed, the committed pages.
abbrev pub StoredPages : {D : Type 0} → Ghosts D → Type 0
StoredPages {D} g =
    (s : D) (p : Progress) (frozen : Frozen) → IsVolumeShape (g.shape s) → JournalInOrder g s p frozen → g.tells
    → HasNumber p (length frozen.addresses)
    → (c : Stored) → ShowsMap (g.shape s).vaddrs (g.map s) (g.failed s) c
    → (StoresCommitted (g.shape s) (committed_on g s) c ⊎ StoresCommitted (g.shape s) (aimed p.phase frozen (committed_on g s)) c)
    × (((x : Value) → g.failed s 66 x → ⊥) → StoresCommitted (g.shape s) (committed_on g s) c)

-- A call that leaves the addresses as they were leaves the journal in order, and the committed pages.
abbrev pub StaysInOrder : {D : Type 0} → Ghosts D → Type 0
StaysInOrder {D} g = (s t : D) (p : Progress) (frozen : Frozen) → IsVolumeShape (g.shape s) → JournalInOrder g s p frozen → KeepsVirtual g s t
    → JournalInOrder g t p frozen
    × (g.tells → HasNumber p (length frozen.addresses) → Agrees (g.shape s).vaddrs (committed_on g t) (committed_on g s))

-- After an opening on which no page of an address was left by a write that failed, the journal is in order.
abbrev pub OpenedInOrder : {D : Type 0} → Ghosts D → Type 0
OpenedInOrder {D} g = (s : D) (p : Progress) (frozen : Frozen) → IsVolumeShape (g.shape s) → IsPhase p.phase (length frozen.addresses)
    → (1 ≤ length frozen.addresses → IsTransaction (g.shape s).vaddrs frozen)
    → (g.tells → NoneFailed (g.shape s).vaddrs (g.failed s) × Opened p.phase (g.shape s) (bytes_of (g.map s)) p.number frozen)
    → JournalInOrder g s p frozen

-- Where nothing is frozen, the journal stays in order as pages of a transaction are.
abbrev pub FreezesInOrder : {D : Type 0} → Ghosts D → Type 0
FreezesInOrder {D} g =
    (s : D) (p : Progress) (none frozen : Frozen) → none.addresses ≡ [] → p.phase ≡ Header → IsTransaction (g.shape s).vaddrs frozen
    → JournalInOrder g s p none → JournalInOrder g s p frozen

-- The running pages stay what they are as the dirty ones are frozen.
abbrev pub FreezingStays : Type 0
FreezingStays =
    (old new : Pages) (base : VirtualMap) → old.frozen.addresses ≡ [] → new.frozen ≡ dirty_pages old → new.dirty ≡ [] → (v : ℕ)
    → ahead new Header base v ≡ ahead old Header base v

-- The dirty pages are a transaction: address 0 is dirty, and none of the journal's addresses.
abbrev pub DirtyPagesAreTransaction : Type 0
DirtyPagesAreTransaction = (pages : Pages) → IsPages pages → is_dirty pages 0 ≡ true → ((v : ℕ) → 1 ≤ v → v < 67 → is_dirty pages v ≡ false)
    → IsTransaction (length pages.running) (dirty_pages pages)
