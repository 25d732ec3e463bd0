-- What the calls do to the pages, and what that means for a volume over any device.
use Rattle.std.specs.Prelude.{◌≡◌, ◌≢◌, ◌⊎◌, ℕ, ◌≤◌, false, List, length, slice_set, Some, None, IsSome}
use Rattle.nl_field.specs.Bytes.{zeros}
use Rattle.nl_meta.specs.Pages.{Pages, is_dirty, page_of, with_address, touched, with_image}

-- the running page of an address replaced
abbrev pub with_page : Pages → ℕ → List ℕ → Pages
with_page p v bytes = record p { running = slice_set p.running v (Some bytes) }

-- the running page of an address replaced, and dirty
abbrev pub with_dirty : Pages → ℕ → List ℕ → Pages
with_dirty p v bytes = record p { running = slice_set p.running v (Some bytes); dirty = with_address v p.dirty }

-- the running page of an address replaced, resident and touched
abbrev pub with_admitted : Pages → ℕ → List ℕ → Pages
with_admitted p v bytes = record p { running = slice_set p.running v (Some bytes); recent = touched v p.recent }

-- the running page of an address replaced, resident and touched, and its image frozen behind the frozen ones
abbrev pub with_restored : Pages → ℕ → List ℕ → Pages
with_restored p v bytes =
    record p { running = slice_set p.running v (Some bytes); recent = touched v p.recent; frozen = with_image p.frozen v bytes }

-- no page at an address
abbrev pub without_page : Pages → ℕ → Pages
without_page p v = record p { running = slice_set p.running v None }

-- What a call that makes a page resident does to the other addresses: their pages stay.
pub record KeepsOtherPages (v : ℕ) (old new : Pages) : Type 0 where
  pub count : length new.running ≡ length old.running
  pub frozen : new.frozen ≡ old.frozen
  pub recent : new.recent ≡ touched v old.recent
  pub others : (u : ℕ) → u ≢ v → page_of new u ≡ page_of old u

-- The address has this page, which is clean.
pub record Admits (v : ℕ) (bytes : List ℕ) (old new : Pages) : Type 0 where
  pub page : page_of new v ≡ Some bytes
  pub dirty : new.dirty ≡ old.dirty
  pub keeps : KeepsOtherPages v old new

-- The address has no page, as before.
pub record Misses (v : ℕ) (old new : Pages) : Type 0 where
  pub page : page_of new v ≡ None
  pub dirty : new.dirty ≡ old.dirty
  pub keeps : KeepsOtherPages v old new

-- The address has a page of zeros, which is dirty.
pub record Freshens (v : ℕ) (old new : Pages) : Type 0 where
  pub page : page_of new v ≡ Some (zeros 4096)
  pub dirty : new.dirty ≡ with_address v old.dirty
  pub keeps : KeepsOtherPages v old new

-- The running pages change, and no frozen one. Each resident page stays so. One that is not dirty afterwards was not before, and is as it
-- was. A page that became resident is none of the journal's.
pub record ChangesRunningPages (old new : Pages) : Type 0 where
  pub same_frozen : new.frozen ≡ old.frozen
  pub stays : (v : ℕ) → IsSome (page_of old v) → IsSome (page_of new v)
  pub was_clean : (v : ℕ) → is_dirty new v ≡ false → is_dirty old v ≡ false
  pub same_clean : (v : ℕ) → is_dirty new v ≡ false → IsSome (page_of old v) → page_of new v ≡ page_of old v
  pub apart : (v : ℕ) → IsSome (page_of new v) → IsSome (page_of old v) ⊎ ((v ≡ 0) ⊎ (67 ≤ v))
