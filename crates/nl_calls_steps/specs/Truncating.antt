-- A file of a core is cut or lengthened to a size.
use Rattle.std.specs.Prelude.{◌≡◌, ◌≢◌, ◌⊎◌, ℕ, ◌/◌, ◌%◌, false, List, [], ◌∷◌, slice_get, IsSome, Option, Some}
use Rattle.nl_tree_content.specs.ContentLaws.{cut_page}
use Rattle.nl_field.specs.FileContent.{FileContent, cut_to, page_bytes}
use Rattle.nl_field.specs.Pointers.{is_none_pointer}
use Rattle.nl_field.specs.declared.inode.InodeRec.{InodeRec}
use Rattle.nl_tree.specs.Represents.{node_reached}
use Rattle.nl_tree.specs.Tree.{Tree, content_of, node_at, with_content}
use Rattle.nl_flight.specs.Flight.{begun, with_line}
use Rattle.nl_flight.specs.declared.page.FlightPage.{FlightPage}
use Rattle.nl_iface.specs.declared.counts.Counts.{Ghosts}
use Rattle.nl_inode.specs.Nodes.{page_of_node}
use Rattle.nl_meta.specs.Consistent.{PageOfStamp}
use Rattle.nl_meta.specs.Nodes.{graph_of, pointer_at}
use Rattle.nl_meta.specs.Pages.{page_of}
use Rattle.nl_meta_running.specs.Running.{PreservesRunning}
use Rattle.nl_spec_commits.specs.Trees.{RepresentsTree}
use Rattle.nl_core.specs.Core.{running_of}
use Rattle.nl_core.specs.declared.state.Core.{Core}
use Rattle.nl_calls_files.specs.FileRuns.{EndsClean}
use Rattle.nl_calls_files.specs.Fits.{IsFileOf}
use Rattle.nl_calls_steps.specs.Installing.{IsPageOfFile}
use Rattle.nl_calls_steps.specs.Lines.{worker_pages}
use Rattle.nl_calls_steps.specs.Steps.{Steps}

-- The page in flight is one of the file, for the index within whose page a file of this size ends, and the file has a page there.
pub record IsPartialPage {D : Type 0} (g : Ghosts D) (v : Core D) (n size : ℕ) (rec : InodeRec) (page : FlightPage) : Type 0 where
  pub within : size % 4096 ≢ 0
  pub last : page.index ≡ size / 4096
  pub of_file : IsPageOfFile g v n rec page
  pub had : is_none_pointer (pointer_at (running_of g v) rec (size / 4096)) ≡ false

-- The worker has that page in flight alone. Or it has none, and the page in which the file ends holds nothing behind the size.
abbrev pub HasPartial : {D : Type 0} → Ghosts D → Core D → ℕ → ℕ → ℕ → InodeRec → Type 0
HasPartial g v worker n size rec =
    ((worker_pages v worker ≡ []) × EndsClean (running_of g v) rec size)
    ⊎ ((page : FlightPage) × (worker_pages v worker ≡ page ∷ []) × IsPartialPage g v n size rec page)

-- Each page of a cut is that of its write sequence number, with the bytes that the file has there below the size, and zeros behind it.
abbrev pub AreCut : (ℕ → Option PageOfStamp) → FileContent → ℕ → List FlightPage → Type 0
AreCut page_of_stamp content size pages =
    (k : ℕ) (page : FlightPage) → slice_get pages k ≡ Some page
    → page_of_stamp page.at.stamp ≡ Some (record { tag = page.tag; bytes = cut_page size page.index (page_bytes content page.index) })

-- The pages of the volume stand for each tree for which they stood, with the file under its path cut to the size.
abbrev pub TreeIsCut : {D : Type 0} → Ghosts D → ℕ → ℕ → List FlightPage → Core D → Core D → Type 0
TreeIsCut g n size pages old new =
    (page_of_stamp : ℕ → Option PageOfStamp) (tree : Tree) (path : List (List ℕ))
    → RepresentsTree (g.shape old.device) (running_of g old) page_of_stamp tree
    → node_reached (graph_of (g.shape old.device) (running_of g old)) 0 path ≡ Some n
    → AreCut page_of_stamp (content_of (node_at tree path)) size pages
    → RepresentsTree (g.shape new.device) (running_of g new) page_of_stamp (with_content tree path (cut_to (content_of (node_at tree path)) size))

-- The file has the size and what it holds below it, every other node has what it had, and the worker has no line.
pub record CutsFileTo {D : Type 0} (g : Ghosts D) (worker n size : ℕ) (was is : InodeRec) (old new : Core D) : Type 0 where
  pub others : new ≡ record old { device = new.device; meta = new.meta; nodes = new.nodes; flight = with_line old.flight worker (begun 0); freeing = new.freeing }
  pub steps : Steps g old new
  pub sized : is.size ≡ size
  pub file : IsFileOf g new.device new.meta n is
  pub there : IsSome (page_of new.meta (page_of_node n))
  pub generation : is.generation ≡ was.generation
  pub nodes : (k : ℕ) → k ≢ n → graph_of (g.shape new.device) (running_of g new) k ≡ graph_of (g.shape old.device) (running_of g old) k
  pub cut : TreeIsCut g n size (worker_pages old worker) old new

-- Pages were read, and all else is as it was.
pub record RefusesCut {D : Type 0} (g : Ghosts D) (was is : InodeRec) (old new : Core D) : Type 0 where
  pub same : is ≡ was
  pub others : new ≡ record old { device = new.device; meta = new.meta; freeing = new.freeing }
  pub awaits : new.freeing.items ≡ old.freeing.items
  pub reads : PreservesRunning g old.device old.meta new.device new.meta
  pub steps : Steps g old new
