-- A file that took all pages of a line.
use Rattle.std.proofs.Common.{◌≡◌, ℕ, ◌<◌, ◌≤◌, List, length, fold, Option, Some, refl, sym, ap, subst, ◌∙◌, arith}
use Rattle.std.proofs.Math.Seq.{take-length}
use Rattle.std.proofs.lemmas.List.Folds.{fold-map}
use Rattle.std.specs.FinMap.{put}
use Rattle.std.specs.Ordering.{nat_cmp}
use Rattle.nl_field.specs.FileContent.{FileContent}
use Rattle.nl_field.specs.PointerItems.{PointerItems}
use Rattle.nl_field.specs.declared.inode.InodeRec.{InodeRec}
use Rattle.nl_tree.specs.Represents.{node_reached}
use Rattle.nl_tree.specs.Tree.{Tree, content_of, node_at, with_content}
use Rattle.nl_flight.specs.Flight.{begun, carried, with_line}
use Rattle.nl_iface.specs.declared.counts.Counts.{Ghosts}
use Rattle.nl_inode.specs.Nodes.{Spaces}
use Rattle.nl_meta.specs.Committed.{VirtualMap}
use Rattle.nl_meta.specs.Consistent.{PageOfStamp}
use Rattle.nl_meta.specs.Nodes.{graph_of}
use Rattle.nl_meta.specs.Pages.{Pages}
use Rattle.nl_meta.specs.PointerLists.{IsFile}
use Rattle.nl_meta_running.specs.Running.{RunningIsRight, running_on}
use Rattle.nl_spec_image.specs.Stands.{bytes_for}
use Rattle.nl_spec_commits.specs.Trees.{RepresentsTree}
use Rattle.nl_core.specs.Core.{IsCore, running_of}
use Rattle.nl_core.specs.declared.state.Core.{Core}
use Rattle.nl_calls_files.specs.FileTrees.{held_content}
use Rattle.nl_calls_files.specs.Fits.{IsFileOf}
use Rattle.nl_calls_files.specs.Landing.{landed}
use Rattle.nl_calls_files.specs.LineNeeds.{with_pages}
use Rattle.nl_calls_files.specs.LinePages.{AreThere, shown_pages}
use Rattle.nl_calls_files.proofs.FileRunning.{file_runs_on, held_lead_once}
use Rattle.nl_calls_files.proofs.FileTrees.{file_at}
use Rattle.nl_calls_files.proofs.Fits.{is_file_at}
use Rattle.nl_calls_steps.specs.Lines.{InstallsLine, worker_pages}
use Rattle.nl_calls_steps.proofs.LineEnds.{flight_step}
use Rattle.nl_calls_steps.proofs.LineGoes.{LineAt, LineGoes, now, same_line, with_page}
use Rattle.nl_calls_steps.proofs.Stepping.{steps_then}

module _ {D : Type 0} (g : Ghosts D) (v : Core D) (worker n size first : ℕ) (was : InodeRec) (m : Pages) (s : Spaces) (f : PointerItems) (is : InodeRec) (core : IsCore g v) (file : IsFileOf g v.device v.meta n was)
    (some : 0 < length (worker_pages v worker)) (at : LineAt g v worker n size first was m s f is (length (worker_pages v worker))) where
  abbrev after : VirtualMap
  after = running_on g v.device m

  runs : RunningIsRight g v.device m
  runs = at.core.journaled.runs

  file_before : IsFile (g.shape v.device) (running_of g v) n was
  file_before = is_file_at (g.shape v.device) (running_of g v) n was core.journaled.runs.addresses file.is_node file.is_file

  sized : is.size ≡ size
  sized = at.sized some

  module _ (page_of_stamp : ℕ → Option PageOfStamp) (tree : Tree) (path : List (List ℕ)) (stood : RepresentsTree (g.shape v.device) (running_of g v) page_of_stamp tree)
      (leads : node_reached (graph_of (g.shape v.device) (running_of g v)) 0 path ≡ Some n) (there : AreThere page_of_stamp size (worker_pages v worker)) where
    abbrev held : FileContent
    held = held_content page_of_stamp (running_of g v) was

    content_before : content_of (node_at tree path) ≡ held
    content_before = ap content_of (file_at (g.shape v.device) (running_of g v) page_of_stamp n was path tree file_before leads stood.represents)

    entries : (held_content page_of_stamp after is).pages ≡ fold (λ pages page. put nat_cmp page.0 page.1 pages) held.pages (shown_pages page_of_stamp (worker_pages v worker))
    entries =
        at.content (bytes_for page_of_stamp)
        ∙ ap (fold (with_page (bytes_for page_of_stamp)) held.pages) (take-length (worker_pages v worker))
        ∙ sym (fold-map (λ pages page. put nat_cmp page.0 page.1 pages) (λ page. (page.index, bytes_for page_of_stamp page.at.stamp)) held.pages (worker_pages v worker))

    content_after : held_content page_of_stamp after is ≡ with_pages (shown_pages page_of_stamp (worker_pages v worker)) size (content_of (node_at tree path))
    content_after = (λ i. record { size = sized i; pages = entries i }) ∙ ap (with_pages (shown_pages page_of_stamp (worker_pages v worker)) size) (sym content_before)

    runs_on : RepresentsTree (g.shape v.device) after page_of_stamp (with_content tree path (held_content page_of_stamp after is))
    runs_on = file_runs_on (g.shape v.device) (running_of g v) after page_of_stamp (g.names v.device) n was is path tree stood (record {
      right = record { nodes = runs.nodes; addresses = runs.addresses; entries = runs.entries };
      file_before = file_before;
      file_after = is_file_at (g.shape v.device) after n is runs.addresses at.file.is_node at.file.is_file;
      others = at.others;
      lead = held_lead_once g v.device v.journal m (carried (landed v.flight worker (length (worker_pages v worker)))) f.items _ at.core.held;
      pages = at.pages page_of_stamp stood.right there;
      few = at.core.space.few;
      leads = leads;
    })

    stands : RepresentsTree (g.shape v.device) after page_of_stamp (with_content tree path (with_pages (shown_pages page_of_stamp (worker_pages v worker)) size (content_of (node_at tree path))))
    stands = subst (λ (c : FileContent). RepresentsTree (g.shape v.device) after page_of_stamp (with_content tree path c)) content_after runs_on

  -- the worker has no line by now
  abbrev ended : Core D
  ended = record v { meta = m; nodes = s; flight = with_line v.flight worker (begun 0); freeing = f }

  pub line_installed : InstallsLine g worker n size was is v ended
  line_installed = record {
    others = refl;
    steps = steps_then g v (now v m s f) ended at.steps (flight_step g (now v m s f) (with_line v.flight worker (begun 0)));
    sized = sized;
    file = at.file;
    there = at.there;
    generation = at.generation;
    nodes = at.others;
    written = stands;
  }

-- as a core that has gone so far, and then ended the line
pub line_done : {D : Type 0} (g : Ghosts D) (v : Core D) (worker n size : ℕ) (was is : InodeRec) (w end : Core D) (k : ℕ) → IsCore g v → 0 < length (worker_pages v worker) → length (worker_pages w worker) ≤ k
    → LineGoes g v worker n size was w is k → end ≡ record w { flight = with_line w.flight worker (begun 0) } → InstallsLine g worker n size was is v end
line_done {D} g v worker n size was is w end k core some all goes is_end =
    let now_end : end ≡ ended g v worker n size goes.line.first was w.meta w.nodes w.freeing is core goes.line.file some whole =
    is_end ∙ ap (λ (x : Core D). record x { flight = with_line x.flight worker (begun 0) }) goes.others in
    subst (λ (x : Core D). InstallsLine g worker n size was is v x) (sym now_end) (line_installed g v worker n size goes.line.first was w.meta w.nodes w.freeing is core goes.line.file some whole)
  where
    whole : LineAt g v worker n size goes.line.first was w.meta w.nodes w.freeing is (length (worker_pages v worker))
    whole =
        let same = ap length (same_line g v worker n size was w is k goes) in
        let within = goes.at.within in
        subst (λ (j : ℕ). LineAt g v worker n size goes.line.first was w.meta w.nodes w.freeing is j) (omega (arith, same, within, all)) goes.at
