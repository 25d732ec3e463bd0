-- What a call leaves of the segment's pages, and what a stop within it may leave.
use Rattle.std.specs.Prelude.{◌≡◌, ◌⊎◌, ℕ, ◌+◌, ◌*◌, ◌/◌, ◌<◌, ◌≤◌, List, Option, Some}
use Rattle.nl_field.specs.CrashStates.{Rose, LeavesOnly}
use Rattle.nl_field.specs.Page.{Image, erased, written, page_at}
use Rattle.nl_vseg.specs.Pages.{PageShows, ShowsBeside, page_with}

-- The image keeps the map: each value is on a page, and some block can be done without. It shows nothing that was not shown
-- before, and no page from the bound on has changed.
pub record ImageKeepsMap (pages bound : ℕ) (map : ℕ → Option (ℕ × List ℕ)) (old c : Image) : Type 0 where
  pub spare : ℕ
  pub within : spare * pages + pages ≤ bound
  pub there : (v s : ℕ) (main : List ℕ) → map v ≡ Some (s, main) → ShowsBeside pages spare bound c v s main
  pub no_more : (v t : ℕ) (n : List ℕ) → PageShows bound c v t n → PageShows bound old v t n
  pub beyond : (p : ℕ) → bound ≤ p → page_at c p ≡ page_at old p

-- The image has one value more: it is on a page, and so is each value of the map as it was. Some block can be done without.
-- Nothing else is shown that was not shown before, and no page from the bound on has changed.
pub record GainsValue (pages bound : ℕ) (map : ℕ → Option (ℕ × List ℕ)) (v s : ℕ) (main : List ℕ) (old c : Image) : Type 0 where
  pub spare : ℕ
  pub within : spare * pages + pages ≤ bound
  pub new : ShowsBeside pages spare bound c v s main
  pub there : (u t : ℕ) (n : List ℕ) → map u ≡ Some (t, n) → ShowsBeside pages spare bound c u t n
  pub no_more : (u t : ℕ) (n : List ℕ) → PageShows bound c u t n → PageShows bound old u t n ⊎ ((u ≡ v) × (t ≡ s) × (n ≡ main))
  pub beyond : (p : ℕ) → bound ≤ p → page_at c p ≡ page_at old p

-- A call that leaves the map: the image keeps it, and so does each image that a stop within the call may have left.
pub record KeepsMap {M : Type 0} (clock : M → ℕ) (contents : M → Image) (left : M → ℕ → Image → Type 0) (pages bound : ℕ)
    (map_old map_new : ℕ → Option (ℕ × List ℕ)) (old new : M) : Type 0 where
  pub same : (v : ℕ) → map_new v ≡ map_old v
  pub keeps : ImageKeepsMap pages bound map_old (contents old) (contents new)
  pub crash : LeavesOnly clock left old new (λ m c. ImageKeepsMap pages bound map_old (contents old) c)

-- The counts of a medium: none falls, one of the two fault counts rose where the call failed, and they stay where it did not.
pub record CallIsCounted {M : Type 0} (clock read_faults write_faults : M → ℕ) (old new : M) (failed : Type 0) : Type 0 where
  pub later : clock old ≤ clock new
  pub more_reads : read_faults old ≤ read_faults new
  pub more_writes : write_faults old ≤ write_faults new
  pub cause : failed → Rose (read_faults old) (read_faults new) ⊎ Rose (write_faults old) (write_faults new)
  pub stays : (failed → ⊥) → (read_faults new ≡ read_faults old) × (write_faults new ≡ write_faults old)

-- One page of the block was programmed: the page has these bytes. Other pages have changed only in that block, where it was erased
-- first, and are erased there.
pub record BlockIsProgrammed (pages bound block : ℕ) (v s wear : ℕ) (main : List ℕ) (old new : Image) : Type 0 where
  pub page : ℕ
  pub below : page < bound
  pub in_block : page / pages ≡ block
  pub has : page_at new page ≡ written (page_with main v s wear)
  pub others : (p : ℕ) → (p ≡ page → ⊥) → (page_at new p ≡ page_at old p) ⊎ ((p / pages ≡ block) × (page_at new p ≡ erased))
