-- What the addresses of a volume have that runs over a device: the page that is resident, and else the device's. So a page that is put
-- out of memory changes nothing, where the pages that are neither dirty nor frozen are the device's.
use Rattle.std.specs.Prelude.{◌≡◌, ◌≢◌, ◌⊎◌, ℕ, ◌<◌, true, false, [], List, length, Option, Some, None, IsSome}
use Rattle.nl_field.specs.Bytes.{zeros}
use Rattle.nl_meta.specs.Committed.{VirtualMap}
use Rattle.nl_meta.specs.Pages.{Pages, dirty_pages, is_dirty, is_frozen, none_frozen, page_of, touched}
use Rattle.nl_meta.specs.Steps.{Admits, Freshens, Misses, with_admitted, with_dirty, with_restored, without_page}

abbrev pub or_stored : Option (List ℕ) → Option (List ℕ) → Option (List ℕ)
or_stored None stored = stored
or_stored (Some bytes) stored = Some bytes

-- the running map over a device that has these bytes
unfoldable pub running_over : VirtualMap → Pages → VirtualMap
running_over device p v = or_stored (page_of p v) (device v)

-- The pages that are neither dirty nor frozen are the device's.
pub record CleanIsStored (device : VirtualMap) (p : Pages) : Type 0 where
  pub each : (u : ℕ) (bytes : List ℕ) → page_of p u ≡ Some bytes → is_dirty p u ≡ false → is_frozen p u ≡ false → device u ≡ Some bytes

-- No address changes.
pub record SameRunning (device : VirtualMap) (old new : Pages) : Type 0 where
  pub same : (u : ℕ) → running_over device new u ≡ running_over device old u
  pub clean : CleanIsStored device new

-- One address has these bytes, and the others have what they had.
pub record SetsRunningPage (v : ℕ) (bytes : List ℕ) (device : VirtualMap) (old new : Pages) : Type 0 where
  pub at : running_over device new v ≡ Some bytes
  pub others : (u : ℕ) → u ≢ v → running_over device new u ≡ running_over device old u
  pub clean : CleanIsStored device new

-- two devices differ at one address at most
abbrev pub DiffersAt : ℕ → VirtualMap → VirtualMap → Type 0
DiffersAt v old new = (u : ℕ) → u ≢ v → new u ≡ old u

-- What each call means for the running map.
pub record RunningLaws (device : VirtualMap) (p : Pages) (clean : CleanIsStored device p) : Type 0 where
  -- a page is admitted that is the device's
  pub admitted : (v : ℕ) (bytes : List ℕ) (new : Pages) → device v ≡ Some bytes → page_of p v ≡ None → Admits v bytes p new
      → SameRunning device p new
  -- a page could not be read
  pub missed : (v : ℕ) (new : Pages) → page_of p v ≡ None → Misses v p new → SameRunning device p new
  pub freshened : (v : ℕ) (new : Pages) → Freshens v p new → SetsRunningPage v (zeros 4096) device p new
  pub changed : (v : ℕ) (bytes : List ℕ) → v < length p.running → SetsRunningPage v bytes device p (with_dirty p v bytes)
  pub restored : (v : ℕ) (bytes : List ℕ) → v < length p.running → SetsRunningPage v bytes device p (with_restored p v bytes)
  pub touched : (v : ℕ) → SameRunning device p (record p { recent = touched v p.recent })
  pub frozen : p.frozen.addresses ≡ [] → SameRunning device p (record p { dirty = []; frozen = dirty_pages p })
  -- the frozen pages are home, but for those that are dirty again
  pub thawed : ((u : ℕ) (bytes : List ℕ) → page_of p u ≡ Some bytes → is_frozen p u ≡ true → is_dirty p u ≡ false → device u ≡ Some bytes)
      → SameRunning device p (record p { frozen = none_frozen })
  -- a page is written to the device at the address of a dirty or frozen one
  pub written : (v : ℕ) (after : VirtualMap) → DiffersAt v device after → IsSome (page_of p v)
      → (is_dirty p v ≡ true) ⊎ (is_frozen p v ≡ true)
      → ((u : ℕ) → running_over after p u ≡ running_over device p u) × CleanIsStored after p

abbrev pub RunningMap : Type 0
RunningMap = (device : VirtualMap) (p : Pages) (clean : CleanIsStored device p) → RunningLaws device p clean

-- A page is admitted where its place becomes resident.
abbrev pub AdmitsPage : Type 0
AdmitsPage = (v : ℕ) (bytes : List ℕ) (p : Pages) → v < length p.running → Admits v bytes p (with_admitted p v bytes)

-- A page is missed where its place becomes resident and is given up at once.
abbrev pub MissesPage : Type 0
MissesPage =
    (v : ℕ) (bytes : List ℕ) (p : Pages) → v < length p.running → page_of p v ≡ None → Misses v p (without_page (with_admitted p v bytes) v)
