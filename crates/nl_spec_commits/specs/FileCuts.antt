-- A file that is cut, or loses all its pages, leaves a volume held. The device is only read.
use Rattle.std.specs.Prelude.{◌≡◌, ◌≢◌, ℕ, ◌+◌, ◌-◌, ◌<◌, false, not, List, [], ◌++◌, filter, map}
use Rattle.std.specs.List.{range_with_len}
use Rattle.nl_field.specs.Pointers.{is_none_pointer, no_pointer}
use Rattle.nl_field.specs.declared.inode.InodeRec.{InodeRec}
use Rattle.nl_field.specs.declared.pointer.Pointer.{Pointer}
use Rattle.nl_field.specs.declared.pointer.Tag.{Tag}
use Rattle.nl_field.specs.declared.shape.Shape.{Shape}
use Rattle.nl_iface.specs.Calls.{OnlyReads}
use Rattle.nl_iface.specs.Device.{IsVolumeShape}
use Rattle.nl_iface.specs.Holders.{tagged}
use Rattle.nl_iface.specs.declared.counts.Counts.{Ghosts}
use Rattle.nl_spec_holders.specs.Lists.{ListLoses}
use Rattle.nl_journal.specs.Progress.{Progress}
use Rattle.nl_meta.specs.Committed.{VirtualMap}
use Rattle.nl_meta.specs.Nodes.{graph_of, pointer_at}
use Rattle.nl_meta.specs.Pages.{Pages}
use Rattle.nl_meta.specs.PointerLists.{IsFile, tagged_by}
use Rattle.nl_meta_running.specs.Running.{running_on}
use Rattle.nl_journal_commit.specs.Standing.{IsJournaled}
use Rattle.nl_spec_commits.specs.Changes.{given_up}
use Rattle.nl_spec_commits.specs.Held.{IsHeldVolume}

-- the pointers of a file from a page index on
abbrev pub pointers_behind : VirtualMap → InodeRec → ℕ → List Pointer
pointers_behind pages rec from = filter (λ p. not (is_none_pointer p)) (map (pointer_at pages rec) (range_with_len from (4104 - from)))

-- each node but this one has the pointers that it had
abbrev pub OtherNodesKeepPointers : Shape → VirtualMap → VirtualMap → ℕ → Type 0
OtherNodesKeepPointers shape old new n = (k : ℕ) → k ≢ n → tagged_by k (graph_of shape new k) ≡ tagged_by k (graph_of shape old k)

-- Up to an index a file has the pointers that it had, and behind it none.
pub record CutsFilePointers (shape : Shape) (old new : VirtualMap) (n index : ℕ) (was is : InodeRec) : Type 0 where
  pub file_before : IsFile shape old n was
  pub file_after : IsFile shape new n is
  pub generation : is.generation ≡ was.generation
  pub kept : (i : ℕ) → i < index → pointer_at new is i ≡ pointer_at old was i
  pub gone : (i : ℕ) → index < i → pointer_at new is i ≡ no_pointer
  pub others : OtherNodesKeepPointers shape old new n

-- A cut that leaves no pointer at the index leaves a volume held: those from there on await their free.
abbrev pub TruncatingKeepsHeld : {D : Type 0} → Ghosts D → Type 0
TruncatingKeepsHeld {D} g =
    (s t : D) (p : Progress) (pages now : Pages) (flight : List (Tag × Pointer)) (freeing : List Pointer) (n index : ℕ) (was is : InodeRec) (leaving : ℕ)
    → IsVolumeShape (g.shape s) → IsJournaled g s p pages
    → IsHeldVolume g s p pages flight freeing leaving → OnlyReads g s t → now.frozen ≡ pages.frozen
    → CutsFilePointers (g.shape s) (running_on g s pages) (running_on g t now) n index was is
    → pointer_at (running_on g t now) is index ≡ no_pointer
    → IsHeldVolume g t p now flight (freeing ++ pointers_behind (running_on g s pages) was index) leaving

-- A cut after which the index has a page that was in flight leaves a volume held: those behind it await their free, and then the one that
-- the index had.
abbrev pub PartingKeepsHeld : {D : Type 0} → Ghosts D → Type 0
PartingKeepsHeld {D} g =
    (s t : D) (p : Progress) (pages now : Pages) (flight later : List (Tag × Pointer)) (freeing : List Pointer) (n index : ℕ)
    (was is : InodeRec) (leaving : ℕ) → IsVolumeShape (g.shape s) → IsJournaled g s p pages
    → IsHeldVolume g s p pages flight freeing leaving → OnlyReads g s t → now.frozen ≡ pages.frozen
    → CutsFilePointers (g.shape s) (running_on g s pages) (running_on g t now) n index was is
    → is_none_pointer (pointer_at (running_on g t now) is index) ≡ false
    → ListLoses tagged
    (record { ino = n; generation = was.generation; index = index }, pointer_at (running_on g t now) is index) flight later
    → IsHeldVolume g t p now later
    (freeing ++ pointers_behind (running_on g s pages) was (index + 1) ++ given_up (pointer_at (running_on g s pages) was index)) leaving

-- The node of a file has no page any more: all of the file await their free.
abbrev pub EmptyingKeepsHeld : {D : Type 0} → Ghosts D → Type 0
EmptyingKeepsHeld {D} g =
    (s t : D) (p : Progress) (pages now : Pages) (flight : List (Tag × Pointer)) (freeing : List Pointer) (n : ℕ) (was : InodeRec) (leaving : ℕ)
    → IsVolumeShape (g.shape s) → IsJournaled g s p pages
    → IsHeldVolume g s p pages flight freeing leaving → OnlyReads g s t → now.frozen ≡ pages.frozen
    → IsFile (g.shape s) (running_on g s pages) n was
    → tagged_by n (graph_of (g.shape s) (running_on g t now) n) ≡ [] → OtherNodesKeepPointers (g.shape s) (running_on g s pages) (running_on g t now) n
    → IsHeldVolume g t p now flight (freeing ++ pointers_behind (running_on g s pages) was 0) leaving
