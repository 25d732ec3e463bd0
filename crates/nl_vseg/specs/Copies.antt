-- What a copy of pages needs, and what it has done.
use Rattle.std.specs.Prelude.{◌≡◌, ◌⊎◌, ℕ, ◌+◌, ◌*◌, ◌^◌, ◌<◌, ◌≤◌, List, length, Option, Some}
use Rattle.nl_field.specs.CrashStates.{LeavesOnly}
use Rattle.nl_field.specs.Page.{Image}
use Rattle.nl_field.specs.declared.answers.VirtualWrite.{VirtualWrite}
use Rattle.nl_field.specs.declared.answers.VirtualWrite.TheVariants as write
use Rattle.nl_blocks.specs.Table.{Table}
use Rattle.nl_nand.specs.Nand.{ErasedWithin}
use Rattle.nl_nand.specs.declared.nand.Nand.{Ghosts}
use Rattle.nl_vseg.specs.Answers.{IsLostWrite}
use Rattle.nl_vseg.specs.Copying.{target_at, AreTargets, ChangedIn, IsAt, IsMovedPlace, SameFreeBlocks}
use Rattle.nl_vseg.specs.Effects.{CallIsCounted}
use Rattle.nl_vseg.specs.Layout.{ArePlaces, wears_of}
use Rattle.nl_vseg.specs.Operations.{Operates, snapshot, wear_in}
use Rattle.nl_vseg.specs.Places.{PlacesShow, map_of, place_of, stamp_in_place}
use Rattle.nl_vseg.specs.Used.{OpenBlocksAreRisen, used_of}
use Rattle.nl_vseg.specs.declared.place.Place.{Place}

-- What has to hold before a page is copied: the medium has the target, another block than the victim, with pages as the table
-- says. Its pages that are not used are erased and hold no place, and the page of each place shows its address.
pub record CanCopy {M : Type 0} (g : Ghosts M) (pages victim target : ℕ) (places : List (Option Place)) (table : Table)
    (medium : M) : Type 0 where
  pub same_pages : (g.geometry medium).pages ≡ pages
  pub some : 0 < pages
  pub in_medium : target < (g.geometry medium).blocks
  pub numbers : (g.geometry medium).blocks * pages < 2 ^ 32
  pub first : table.first ≡ 0
  pub within : target < length table.blocks
  pub width : table.size ≡ pages
  pub rising : OpenBlocksAreRisen table
  pub other : target ≡ victim → ⊥
  pub few : length places < 2 ^ 32
  pub are_places : ArePlaces pages ((g.geometry medium).blocks * pages) target (used_of table target) places
  pub holds : g.tells → PlacesShow (g.contents medium) places
  pub erased : g.tells → ErasedWithin (g.contents medium) (target * pages + used_of table target) (target * pages + pages)

-- After a copy, what has to hold before the next one holds again, and the map is as it was.
pub record HasCopiedPlace {M : Type 0} (g : Ghosts M) (pages victim target : ℕ) (was places : List (Option Place)) (table : Table)
    (old new : M) : Type 0 where
  pub next : CanCopy g pages victim target places table new
  pub map : g.tells → (v : ℕ) → map_of places (g.contents new) v ≡ map_of was (g.contents old) v

-- More pages of the block are used, and not all are. The same blocks are Free, and each was erased as often.
pub record UsesMore (pages block : ℕ) (old new : Table) : Type 0 where
  pub left : used_of new block < pages
  pub more : used_of old block ≤ used_of new block
  pub rising : OpenBlocksAreRisen new
  pub states : SameFreeBlocks old new
  pub wears : wears_of new ≡ wears_of old

-- Each address has its number, and each but one has its page. Once the copy is done that one has its page too, or the copy.
pub record MovesPlace (pages victim target used v : ℕ) (done : Type 0) (old new : List (Option Place)) : Type 0 where
  pub count : length new ≡ length old
  pub stamps : (u : ℕ) → stamp_in_place (place_of new u) ≡ stamp_in_place (place_of old u)
  pub same : (u : ℕ) → (u ≡ v → ⊥) → place_of new u ≡ place_of old u
  pub moved : done → IsMovedPlace pages victim target used (place_of old v) (place_of new v)

-- No page of the victim counts as copied but those that did, and that of this place.
pub record MarksCopy (pages victim target used : ℕ) (place : Option Place) (done : Type 0) (old new : List (Option ℕ)) : Type 0 where
  pub size : length new ≡ length old
  pub targets : done → AreTargets pages target used new
  pub grown : (at page : ℕ) → target_at new at ≡ Some page → (target_at old at ≡ Some page) ⊎ IsAt pages victim at place

-- Since the image only pages of the target have changed, to copies of these places, also where a stop came.
pub record ChangesIn {M : Type 0} (g : Ghosts M) (pages target : ℕ) (places : List (Option Place)) (image : Image)
    (old new : M) : Type 0 where
  pub now : ChangedIn pages target places image (g.contents new)
  pub crash : LeavesOnly g.clock g.left old new (λ m c. ChangedIn pages target places image c)

-- The copies to a block were programs that write the wear of that block. None is Lost where the medium tells its contents.
pub record CopiesTo {M : Type 0} (g : Ghosts M) (pages block wear : ℕ) (answer : VirtualWrite) (old new : M) : Type 0 where
  pub operates : (wears : List ℕ) → wear_in wears block ≡ wear
      → Operates g.tells pages (snapshot wears (g.clock old) (g.contents old)) (snapshot wears (g.clock new) (g.contents new))
  pub told : g.tells → IsLostWrite answer → ⊥
  pub geometry : g.geometry new ≡ g.geometry old
  pub counts : CallIsCounted g.clock g.read_faults g.write_faults old new (answer ≡ write.Fault)
