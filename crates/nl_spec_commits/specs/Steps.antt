-- Each step of a device, and each callback that is handled, leaves a volume held. The addresses have what they had.
use Rattle.std.specs.Prelude.{◌≡◌, ℕ, ◌<◌, List, length}
use Rattle.nl_field.specs.declared.pointer.Pointer.{Pointer}
use Rattle.nl_field.specs.declared.pointer.Tag.{Tag}
use Rattle.nl_iface.specs.Calls.{Frees, KeepsVirtual, PlacesNewPage}
use Rattle.nl_iface.specs.Device.{IsVolumeShape}
use Rattle.nl_iface.specs.Holders.{tagged}
use Rattle.nl_iface.specs.Moves.{Copies}
use Rattle.nl_iface.specs.Names.{IsNames, SameTables}
use Rattle.nl_iface.specs.declared.Callback.{Callback}
use Rattle.nl_iface.specs.declared.counts.Counts.{Ghosts}
use Rattle.nl_spec_holders.specs.Holding.{Holding}
use Rattle.nl_spec_holders.specs.Laws.{PreservesHolding, OldNamesDiffer}
use Rattle.nl_spec_holders.specs.Lists.{ListGains, ListLoses}
use Rattle.nl_journal.specs.Progress.{Progress, begun}
use Rattle.nl_meta.specs.Pages.{Pages}
use Rattle.nl_journal_commit.specs.Holding.{running_holders}
use Rattle.nl_journal_commit.specs.Standing.{IsJournaled}
use Rattle.nl_spec_commits.specs.Held.{IsHeldVolume}

-- the holding with the names of a device, the pointers of the metadata that runs over it, and these holders beside them
abbrev pub holding_with : {D : Type 0} → Ghosts D → D → Pages → List (Tag × Pointer) → List Pointer → Holding → Holding
holding_with g s pages flight freeing v =
    record v { names = g.names s; running = running_holders g s pages; flight = flight; freeing = freeing }

-- Any step: each holding keeps its pages that has the number of the last transaction that was begun.
abbrev pub StepKeepsHeld : {D : Type 0} → Ghosts D → Type 0
StepKeepsHeld {D} g =
    (s t : D) (p : Progress) (pages now : Pages) (flight later : List (Tag × Pointer)) (freeing waiting : List Pointer) (leaving : ℕ)
    → IsVolumeShape (g.shape s) → IsJournaled g s p pages
    → IsHeldVolume g s p pages flight freeing leaving → KeepsVirtual g s t → now.frozen ≡ pages.frozen
    → ((v : Holding) → v.number ≡ begun p (length pages.frozen.addresses)
    → PreservesHolding (holding_with g s pages flight freeing v) (holding_with g t now later waiting v))
    → IsHeldVolume g t p now later waiting leaving

-- Callbacks are handled by a transaction that comes after the last one that was begun.
abbrev pub HandlingKeepsHeld : {D : Type 0} → Ghosts D → Type 0
HandlingKeepsHeld {D} g =
    (s t : D) (p : Progress) (pages now : Pages) (flight later : List (Tag × Pointer)) (freeing waiting : List Pointer) (transaction : ℕ) (leaving : ℕ)
    → IsVolumeShape (g.shape s) → IsJournaled g s p pages
    → IsHeldVolume g s p pages flight freeing leaving → KeepsVirtual g s t → now.frozen ≡ pages.frozen
    → begun p (length pages.frozen.addresses) < transaction
    → ((v : Holding) → v.number < transaction → PreservesHolding (holding_with g s pages flight freeing v) (holding_with g t now later waiting v))
    → IsHeldVolume g t p now later waiting leaving

-- ---- the metadata stays

-- A page is programmed, and is in flight.
abbrev pub ProgramKeepsHeld : {D : Type 0} → Ghosts D → Type 0
ProgramKeepsHeld {D} g =
    (s t : D) (p : Progress) (pages : Pages) (flight later : List (Tag × Pointer)) (freeing : List Pointer) (tag : Tag) (main : List ℕ)
    (at : Pointer) (leaving : ℕ) → IsVolumeShape (g.shape s) → IsJournaled g s p pages
    → IsHeldVolume g s p pages flight freeing leaving → KeepsVirtual g s t → IsNames (g.shape s) (g.next_stamp s) (g.names s)
    → PlacesNewPage g tag main 0 (g.names s) s t at
    → ListGains tagged (tag, at) flight later → IsHeldVolume g t p pages later freeing leaving

-- A page in flight is freed.
abbrev pub DropKeepsHeld : {D : Type 0} → Ghosts D → Type 0
DropKeepsHeld {D} g =
    (s t : D) (p : Progress) (pages : Pages) (flight later : List (Tag × Pointer)) (freeing : List Pointer) (tag : Tag) (at : Pointer) (leaving : ℕ)
    → IsVolumeShape (g.shape s) → IsJournaled g s p pages
    → IsHeldVolume g s p pages flight freeing leaving → KeepsVirtual g s t → OldNamesDiffer (g.names s) → Frees g at s t
    → ListLoses tagged (tag, at) flight later → IsHeldVolume g t p pages later freeing leaving

-- The cleaner moves pages of a victim, and erases it: who holds pages holds them on.
abbrev pub CleaningKeepsHeld : {D : Type 0} → Ghosts D → Type 0
CleaningKeepsHeld {D} g =
    (s t : D) (p : Progress) (pages : Pages) (flight : List (Tag × Pointer)) (freeing : List Pointer) (leaving : ℕ) → IsVolumeShape (g.shape s)
    → IsJournaled g s p pages → IsHeldVolume g s p pages flight freeing leaving
    → KeepsVirtual g s t → ((v : Holding) → PreservesHolding (record v { names = g.names s }) (record v { names = g.names t }))
    → IsHeldVolume g t p pages flight freeing leaving

-- The cleaner moves one page.
abbrev pub CopyKeepsHeld : {D : Type 0} → Ghosts D → Type 0
CopyKeepsHeld {D} g =
    (s t : D) (p : Progress) (pages : Pages) (flight : List (Tag × Pointer)) (freeing : List Pointer) (c : Callback) (leaving : ℕ)
    → IsVolumeShape (g.shape s) → IsJournaled g s p pages
    → IsHeldVolume g s p pages flight freeing leaving → KeepsVirtual g s t → Copies c (g.names s) (g.names t)
    → IsHeldVolume g t p pages flight freeing leaving

-- No table changes: a victim is begun or erased, a program, a copy or an erase failed, or nothing was done.
abbrev pub TablesKeepHeld : {D : Type 0} → Ghosts D → Type 0
TablesKeepHeld {D} g =
    (s t : D) (p : Progress) (pages : Pages) (flight : List (Tag × Pointer)) (freeing : List Pointer) (leaving : ℕ) → IsVolumeShape (g.shape s)
    → IsJournaled g s p pages → IsHeldVolume g s p pages flight freeing leaving
    → KeepsVirtual g s t → SameTables (g.names s) (g.names t) → IsHeldVolume g t p pages flight freeing leaving
