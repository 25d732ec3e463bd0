-- Each change of the metadata between two calls leaves a volume held. The device is only read.
use Rattle.std.specs.Prelude.{◌≡◌, ℕ, false, not, if◌then◌else◌, List, [], ◌∷◌, ◌++◌, map}
use Rattle.nl_field.specs.Pointers.{is_none_pointer}
use Rattle.nl_field.specs.declared.pointer.Pointer.{Pointer}
use Rattle.nl_field.specs.declared.pointer.Tag.{Tag}
use Rattle.nl_iface.specs.Calls.{OnlyReads}
use Rattle.nl_iface.specs.Device.{IsVolumeShape}
use Rattle.nl_iface.specs.Holders.{tagged}
use Rattle.nl_iface.specs.declared.counts.Counts.{Ghosts}
use Rattle.nl_spec_holders.specs.Lists.{ListGains, ListLoses}
use Rattle.nl_journal.specs.Progress.{Progress}
use Rattle.nl_meta.specs.Pages.{Pages}
use Rattle.nl_meta.specs.PointerLists.{OneChanges}
use Rattle.nl_meta.specs.Steps.{with_dirty}
use Rattle.nl_meta_running.specs.Running.{PreservesRunning}
use Rattle.nl_journal_commit.specs.Holding.{running_holders}
use Rattle.nl_journal_commit.specs.Standing.{IsJournaled}
use Rattle.nl_spec_commits.specs.Held.{IsHeldVolume}

-- ---- lists of those that hold pages

-- a list with each of these less, one after the other
abbrev pub LosesEach : List (Tag × Pointer) → List (Tag × Pointer) → List (Tag × Pointer) → Type 0
LosesEach [] old new = new ≡ old
LosesEach (x ∷ xs) old new = (mid : List (Tag × Pointer)) × ListLoses tagged x old mid × LosesEach xs mid new

-- a list with each of these more, one after the other
abbrev pub GainsEach : List (Tag × Pointer) → List (Tag × Pointer) → List (Tag × Pointer) → Type 0
GainsEach [] old new = new ≡ old
GainsEach (x ∷ xs) old new = (mid : List (Tag × Pointer)) × ListGains tagged x old mid × GainsEach xs mid new

-- In one place of the list some stand in place of others.
pub record ReplacesSome (gone come old new : List (Tag × Pointer)) : Type 0 where
  pub front : List (Tag × Pointer)
  pub behind : List (Tag × Pointer)
  pub was : old ≡ front ++ gone ++ behind
  pub is : new ≡ front ++ come ++ behind

-- the pointer that a page index had, if any
abbrev pub given_up : Pointer → List Pointer
given_up p = if not (is_none_pointer p) then p ∷ [] else []

-- what awaits its free once a page index that had this pointer has another
abbrev pub awaiting_then : List Pointer → Pointer → List Pointer
awaiting_then freeing was = freeing ++ given_up was

-- ---- changes of the metadata

-- Pages leave the running metadata, and await their free, behind the others. Pages come into it that were in flight.
abbrev pub ReplacingKeepsHeld : {D : Type 0} → Ghosts D → Type 0
ReplacingKeepsHeld {D} g =
    (s t : D) (p : Progress) (pages now : Pages) (flight later gone come between : List (Tag × Pointer)) (freeing : List Pointer) (leaving : ℕ)
    → IsVolumeShape (g.shape s) → IsJournaled g s p pages
    → IsHeldVolume g s p pages flight freeing leaving → OnlyReads g s t → now.frozen ≡ pages.frozen
    → LosesEach gone (running_holders g s pages) between
    → GainsEach come between (running_holders g t now) → LosesEach come flight later
    → IsHeldVolume g t p now later (freeing ++ map tagged gone) leaving

-- A file that is cut leaves a volume held: of the pointers some that stand one behind the other are gone, and of others that one has a new
-- page.
abbrev pub CuttingKeepsHeld : {D : Type 0} → Ghosts D → Type 0
CuttingKeepsHeld {D} g =
    (s t : D) (p : Progress) (pages now : Pages) (flight later gone come : List (Tag × Pointer)) (freeing : List Pointer) (leaving : ℕ)
    → IsVolumeShape (g.shape s) → IsJournaled g s p pages
    → IsHeldVolume g s p pages flight freeing leaving → OnlyReads g s t → now.frozen ≡ pages.frozen
    → ReplacesSome gone come (running_holders g s pages) (running_holders g t now)
    → LosesEach come flight later → IsHeldVolume g t p now later (freeing ++ map tagged gone) leaving

-- A page in flight that is installed in a file, in place of the one that the index had, leaves a volume held.
abbrev pub InstallingKeepsHeld : {D : Type 0} → Ghosts D → Type 0
InstallingKeepsHeld {D} g =
    (s t : D) (p : Progress) (pages now : Pages) (flight later : List (Tag × Pointer)) (freeing : List Pointer) (tag : Tag)
    (was to : Pointer) (leaving : ℕ) → IsVolumeShape (g.shape s) → IsJournaled g s p pages
    → IsHeldVolume g s p pages flight freeing leaving → OnlyReads g s t → now.frozen ≡ pages.frozen
    → OneChanges tag was to (running_holders g s pages) (running_holders g t now)
    → is_none_pointer to ≡ false → ListLoses tagged (tag, to) flight later
    → IsHeldVolume g t p now later (awaiting_then freeing was) leaving

-- The pointers of all files are what they were, as where names change.
abbrev pub NamesKeepHeld : {D : Type 0} → Ghosts D → Type 0
NamesKeepHeld {D} g =
    (s t : D) (p : Progress) (pages now : Pages) (flight : List (Tag × Pointer)) (freeing : List Pointer) (leaving : ℕ) → IsVolumeShape (g.shape s)
    → IsJournaled g s p pages → IsHeldVolume g s p pages flight freeing leaving
    → OnlyReads g s t → now.frozen ≡ pages.frozen → running_holders g t now ≡ running_holders g s pages
    → IsHeldVolume g t p now flight freeing leaving

-- Pages are read, and some become resident.
abbrev pub ReadingKeepsHeld : {D : Type 0} → Ghosts D → Type 0
ReadingKeepsHeld {D} g =
    (s t : D) (p : Progress) (pages now : Pages) (flight : List (Tag × Pointer)) (freeing : List Pointer) (leaving : ℕ) → IsVolumeShape (g.shape s)
    → IsJournaled g s p pages → IsHeldVolume g s p pages flight freeing leaving
    → PreservesRunning g s pages t now → IsHeldVolume g t p now flight freeing leaving

-- The super page has other bytes, as where the count of calls is stored.
abbrev pub SuperPageKeepsHeld : {D : Type 0} → Ghosts D → Type 0
SuperPageKeepsHeld {D} g =
    (s : D) (p : Progress) (pages : Pages) (bytes : List ℕ) (flight : List (Tag × Pointer)) (freeing : List Pointer) (leaving : ℕ)
    → IsVolumeShape (g.shape s) → IsJournaled g s p pages
    → IsHeldVolume g s p pages flight freeing leaving → IsHeldVolume g s p (with_dirty pages 0 bytes) flight freeing leaving

-- ---- steps of lists

-- Some that stand one behind the other are lost one by one, and others gained in their place.
pub record RunsOfLists : Type 0 where
  pub lost : (front xs behind : List (Tag × Pointer)) → LosesEach xs (front ++ xs ++ behind) (front ++ behind)
  pub gained : (front xs behind : List (Tag × Pointer)) → GainsEach xs (front ++ behind) (front ++ xs ++ behind)
  -- what is lost by one list and then by another is lost by both, one after the other
  pub lost_then : (xs ys l m n : List (Tag × Pointer)) → LosesEach xs l m → LosesEach ys m n → LosesEach (xs ++ ys) l n
