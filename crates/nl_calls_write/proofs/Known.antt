-- As whatever tree the core runs, a file has the same pages, and the pages of a line are as the call leaves them.
use Rattle.std.proofs.Common.{◌≡◌, ℕ, ◌<◌, List, Option, Some, sym, ap, ◌∙◌}
use Rattle.std.specs.Prelude.{slice_get}
use Rattle.nl_field.specs.FileContent.{FileContent, overlaid, page_bytes}
use Rattle.nl_field.specs.declared.inode.InodeRec.{InodeRec}
use Rattle.nl_tree.specs.Represents.{node_reached}
use Rattle.nl_tree.specs.Tree.{Node, Tree, content_of}
use Rattle.nl_tree.specs.declared.call.Call.{Call}
use Rattle.nl_flight.specs.declared.page.FlightPage.{FlightPage}
use Rattle.nl_iface.specs.Names.{place_of}
use Rattle.nl_iface.specs.declared.counts.Counts.{Ghosts}
use Rattle.nl_meta.specs.Consistent.{PageOfStamp}
use Rattle.nl_files.specs.Reading.{file_page}
use Rattle.nl_core.specs.Core.{IsCore, names_of, running_of}
use Rattle.nl_core.specs.Laws.{FlightLeads}
use Rattle.nl_core.specs.Trees.{CoreRepresentsTree}
use Rattle.nl_core.specs.declared.state.Core.{Core}
use Rattle.nl_calls_files.specs.FileTrees.{held_content}
use Rattle.nl_calls_files.specs.Fits.{IsFileOf}
use Rattle.nl_calls_steps.specs.Lines.{worker_pages}
use Rattle.nl_calls_steps.specs.Finding.{nodes_of}
use Rattle.nl_calls_steps.proofs.FilePages.{at-path, page-shown}
use Rattle.nl_calls_bytes.specs.InFlight.{AreWritten}
use Rattle.nl_calls_bytes.specs.Ranges.{data_of, from_of, path_of}
use Rattle.nl_calls_write.specs.Lines.{RepresentsWritten}
use Rattle.nl_calls_write.specs.Making.{content_at}
use Rattle.nl_calls_write.proofs.Staged.{carried_at}

module _ {D : Type 0} (g : Ghosts D) (v : Core D) (core : IsCore g v) (call : Call) (n : ℕ) (rec : InodeRec) (file : IsFileOf g v.device v.meta n rec) (leads : node_reached (nodes_of g v) 0 (path_of call) ≡ Some n) where
  -- what the tree has at the path of the call
  pub held_is : (page_of_stamp : ℕ → Option PageOfStamp) (tree : Tree) → CoreRepresentsTree g v page_of_stamp tree → content_at tree call ≡ held_content page_of_stamp (running_of g v) rec
  held_is page_of_stamp tree at = ap (λ (o : Option Node). content_of o) (at-path g v page_of_stamp tree n rec file at (path_of call) leads)

  page_is : (page_of_stamp : ℕ → Option PageOfStamp) (tree : Tree) → CoreRepresentsTree g v page_of_stamp tree → (i : ℕ) → i < 4104 → page_bytes (content_at tree call) i ≡ file_page g v.device (running_of g v) rec i
  page_is page_of_stamp tree at i low =
      ap (λ (c : FileContent). page_bytes c i) (held_is page_of_stamp tree at) ∙ sym (page-shown g v page_of_stamp tree n rec file core at i low)

  module _ (worker : ℕ) (known : worker < 8) (lead : FlightLeads g v) (within : (k : ℕ) (p : FlightPage) → slice_get (worker_pages v worker) k ≡ Some p → p.index < 4104) (written : RepresentsWritten g worker call v) where
    pub written_as : g.tells → (page_of_stamp : ℕ → Option PageOfStamp) (tree : Tree) → CoreRepresentsTree g v page_of_stamp tree → AreWritten page_of_stamp (content_at tree call) call (worker_pages v worker)
    written_as tells page_of_stamp tree at = λ k p here.
        let r = written tells in
        let with = r.2 in
        let l = lead (p.tag, p.at) (carried_at v.flight worker k p core.flight known here) in
        let low = within k p here in
        at.shows (place_of (names_of g v) p.at) (record { tag = p.tag; stamp = p.at.stamp }) l.live
        ∙ sym (with.runs.shows (place_of (names_of g v) p.at) (record { tag = p.tag; stamp = p.at.stamp }) l.live)
        ∙ with.written k p here
        ∙ ap (λ (page : List ℕ). Some (record { tag = p.tag; bytes = overlaid page p.index (from_of call) (data_of call) }))
        (page_is with.pages r.1 with.runs p.index low ∙ sym (page_is page_of_stamp tree at p.index low))
