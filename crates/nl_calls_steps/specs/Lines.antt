-- A file of a core takes all pages of a worker's line.
use Rattle.std.specs.Int.{div_ceil}
use Rattle.std.specs.Prelude.{◌≡◌, ◌≢◌, ℕ, ◌+◌, ◌<◌, ◌≤◌, List, length, slice_get, IsSome, Option, Some}
use Rattle.nl_field.specs.declared.inode.InodeRec.{InodeRec}
use Rattle.nl_tree.specs.Represents.{node_reached}
use Rattle.nl_tree.specs.Tree.{Tree, content_of, node_at, with_content}
use Rattle.nl_flight.specs.Flight.{begun, of_worker, with_line}
use Rattle.nl_flight.specs.declared.page.FlightPage.{FlightPage}
use Rattle.nl_iface.specs.declared.counts.Counts.{Ghosts}
use Rattle.nl_inode.specs.Nodes.{page_of_node}
use Rattle.nl_indirect.specs.Ranges.{HasRange}
use Rattle.nl_meta.specs.Consistent.{PageOfStamp}
use Rattle.nl_meta.specs.Nodes.{graph_of}
use Rattle.nl_meta.specs.Pages.{besides_0, most, page_of}
use Rattle.nl_journal_commit.specs.Holding.{running_holders}
use Rattle.nl_spec_commits.specs.Trees.{RepresentsTree}
use Rattle.nl_core.specs.Core.{running_of}
use Rattle.nl_core.specs.declared.state.Core.{Core}
use Rattle.nl_calls_files.specs.Fits.{IsFileOf}
use Rattle.nl_calls_files.specs.LineNeeds.{free_addresses, new_pointers, new_ranges, with_pages}
use Rattle.nl_calls_files.specs.LinePages.{AreThere, indexes_of, shown_pages}
use Rattle.nl_calls_steps.specs.Installing.{IsPageOfFile}
use Rattle.nl_calls_steps.specs.Steps.{Steps}

-- the worker's pages in flight, in the order in which they were put
abbrev pub worker_pages : {D : Type 0} → Core D → ℕ → List FlightPage
worker_pages v worker = (of_worker v.flight worker).pages

-- ---- what a line needs

-- There is room for a line: the node's page and two pages of pointers may become dirty, and one more. Each range that gets a page finds a
-- free address, and the volume may have the new pages.
pub record HasRoomForLine {D : Type 0} (g : Ghosts D) (v : Core D) (rec : InodeRec) (pages : List FlightPage) : Type 0 where
  pub dirty : length (besides_0 v.meta.dirty) + 4 ≤ most
  pub pool : new_ranges rec (indexes_of pages) ≤ free_addresses v.nodes
  pub few : length (running_holders g v.device v.meta) + new_pointers (running_of g v) rec (indexes_of pages) ≤ (g.shape v.device).cap

-- A page of a line is one of the file below the pages of this size, at most 16 behind the first, and the page of its pointer is resident.
pub record IsPageOfLine {D : Type 0} (g : Ghosts D) (v : Core D) (n size first : ℕ) (rec : InodeRec) (page : FlightPage) : Type 0 where
  pub of_file : IsPageOfFile g v n rec page
  pub below : page.index < div_ceil size 4096
  pub from_first : first ≤ page.index
  pub near : page.index ≤ first + 16
  pub range : HasRange (page_of v.meta) rec page.index

-- The node is a file whose record is resident, and each page of the worker's line is one of it.
pub record IsLineOfFile {D : Type 0} (g : Ghosts D) (v : Core D) (worker n size : ℕ) (rec : InodeRec) : Type 0 where
  pub file : IsFileOf g v.device v.meta n rec
  pub there : IsSome (page_of v.meta (page_of_node n))
  pub first : ℕ
  pub each : (k : ℕ) (page : FlightPage) → slice_get (worker_pages v worker) k ≡ Some page → IsPageOfLine g v n size first rec page

-- ---- what it leaves

-- The pages of the volume stand for each tree for which they stood, with the pages of the line in the file under its path.
abbrev pub LineIsWritten : {D : Type 0} → Ghosts D → ℕ → ℕ → List FlightPage → Core D → Core D → Type 0
LineIsWritten g n size pages old new =
    (page_of_stamp : ℕ → Option PageOfStamp) (tree : Tree) (path : List (List ℕ))
    → RepresentsTree (g.shape old.device) (running_of g old) page_of_stamp tree
    → node_reached (graph_of (g.shape old.device) (running_of g old)) 0 path ≡ Some n → AreThere page_of_stamp size pages
    → RepresentsTree (g.shape new.device) (running_of g new) page_of_stamp
    (with_content tree path (with_pages (shown_pages page_of_stamp pages) size (content_of (node_at tree path))))

-- The file has the pages and the size, every other node has what it had, and the worker has no line.
pub record InstallsLine {D : Type 0} (g : Ghosts D) (worker n size : ℕ) (was is : InodeRec) (old new : Core D) : Type 0 where
  pub others : new ≡ record old { meta = new.meta; nodes = new.nodes; flight = with_line old.flight worker (begun 0); freeing = new.freeing }
  pub steps : Steps g old new
  pub sized : is.size ≡ size
  pub file : IsFileOf g new.device new.meta n is
  pub there : IsSome (page_of new.meta (page_of_node n))
  pub generation : is.generation ≡ was.generation
  pub nodes : (k : ℕ) → k ≢ n → graph_of (g.shape new.device) (running_of g new) k ≡ graph_of (g.shape old.device) (running_of g old) k
  pub written : LineIsWritten g n size (worker_pages old worker) old new
