-- A file of a core takes a page that is in flight.
use Rattle.std.specs.Prelude.{◌≡◌, ℕ, ◌<◌, true, length, slice_index_or, IsSome, IsTrue, Some}
use Rattle.nl_field.specs.Pointers.{is_none_pointer, no_pointer}
use Rattle.nl_field.specs.Spelling.{is_stamp}
use Rattle.nl_field.specs.declared.inode.InodeRec.{InodeRec}
use Rattle.nl_flight.specs.Flight.{of_worker}
use Rattle.nl_flight.specs.declared.page.FlightPage.{FlightPage}
use Rattle.nl_iface.specs.declared.counts.Counts.{Ghosts}
use Rattle.nl_inode.specs.Nodes.{page_of_node}
use Rattle.nl_indirect.specs.Ranges.{HasRange}
use Rattle.nl_indirect.specs.Storing.{BeginsRange}
use Rattle.nl_meta.specs.Nodes.{is_physical_name, pointer_at}
use Rattle.nl_meta.specs.Pages.{page_of}
use Rattle.nl_files.specs.InstallLaws.{FileIsInstalled}
use Rattle.nl_files.specs.Installing.{HasFree}
use Rattle.nl_files.specs.Standing.{tag_of}
use Rattle.nl_journal_commit.specs.Holding.{running_holders}
use Rattle.nl_core.specs.Core.{running_of}
use Rattle.nl_core.specs.declared.state.Core.{Core}
use Rattle.nl_calls_files.specs.Fits.{IsFileOf}
use Rattle.nl_calls_files.specs.Landing.{landed}
use Rattle.nl_calls_files.specs.Taking.{HasRoomToTake, TakesPage}
use Rattle.nl_calls_steps.specs.Steps.{Steps}

-- the core without the first pages of the worker's line in flight: a file has them by now
abbrev pub with_landed : {D : Type 0} → Core D → ℕ → ℕ → Core D
with_landed v worker k = record v { flight = landed v.flight worker k }

-- the page in flight at a place of the worker's line
abbrev pub page_in : {D : Type 0} → Core D → ℕ → ℕ → FlightPage
page_in v worker k =
    slice_index_or (of_worker v.flight worker).pages k
    (record { index = 0; at = no_pointer; tag = record { ino = 0; generation = 0; index = 0 } })

-- A file whose record, and whose pointer at an index, are resident.
pub record FilePointerIsResident {D : Type 0} (g : Ghosts D) (v : Core D) (n index : ℕ) (rec : InodeRec) : Type 0 where
  pub file : IsFileOf g v.device v.meta n rec
  pub there : IsSome (page_of v.meta (page_of_node n))
  pub range : HasRange (page_of v.meta) rec index

-- There is room for the pages that become dirty. A new page of pointers finds a free address, and a new page of the file is one that the
-- volume may have.
pub record HasRoomToInstall {D : Type 0} (g : Ghosts D) (v : Core D) (n : ℕ) (rec : InodeRec) (page : FlightPage) : Type 0 where
  pub dirty : HasRoomToTake v.meta rec n page.index
  pub pool : BeginsRange rec page.index (Some page.at) → HasFree v.nodes
  pub few : is_none_pointer (pointer_at (running_of g v) rec page.index) ≡ true
      → length (running_holders g v.device v.meta) < (g.shape v.device).cap

-- The page is one of the file at its index, and its pointer has a spelling: a write sequence number, and a name of the physical segment.
pub record IsPageOfFile {D : Type 0} (g : Ghosts D) (v : Core D) (n : ℕ) (rec : InodeRec) (page : FlightPage) : Type 0 where
  pub tag : page.tag ≡ tag_of n rec page.index
  pub within : page.index < 4104
  pub spelled : IsTrue (is_stamp page.at.stamp)
  pub physical : IsTrue (is_physical_name (g.shape v.device) page.at)

-- The file has the page and the size. Pages of pointers that were resident still are.
pub record InstallsPage {D : Type 0} (g : Ghosts D) (n size : ℕ) (page : FlightPage) (was is : InodeRec) (old new : Core D) : Type 0 where
  pub others : new ≡ record old { meta = new.meta; nodes = new.nodes; freeing = new.freeing }
  pub steps : Steps g old new
  pub sized : is.size ≡ size
  pub file : IsFileOf g new.device new.meta n is
  pub there : IsSome (page_of new.meta (page_of_node n))
  pub ranges : (i : ℕ) → HasRange (page_of old.meta) was i → HasRange (page_of new.meta) is i
  pub taken : TakesPage n page.index page.at size was is old.meta new.meta old.nodes new.nodes
  pub installed : FileIsInstalled (g.shape old.device) n page.index page.at was is (running_of g old) (running_of g new) old.nodes new.nodes
