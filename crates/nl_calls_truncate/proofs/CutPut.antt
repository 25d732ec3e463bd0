-- A core that is ready to cut a file: the file ends without bytes behind the size, or the page in which it ends then was put in flight.
use Rattle.std.proofs.Common.{◌≡◌, ◌≢◌, inl, inr, ℕ, ◌/◌, ◌%◌, ◌<◌, false, List, [], sym, ap, subst, ◌∙◌, Option, Some, arith}
use Rattle.nl_tree_content.specs.ContentLaws.{cut_page}
use Rattle.nl_field.specs.FileContent.{FileContent, page_bytes}
use Rattle.nl_field.specs.Pointers.{is_none_pointer}
use Rattle.nl_field.specs.declared.inode.InodeRec.{InodeRec}
use Rattle.nl_field.specs.declared.pointer.Tag.{Tag}
use Rattle.nl_tree.specs.Represents.{node_reached}
use Rattle.nl_tree.specs.Tree.{Tree, content_of, node_at}
use Rattle.nl_flight.specs.Flight.{InFlight, begun, of_worker}
use Rattle.nl_flight.specs.declared.page.FlightPage.{FlightPage}
use Rattle.nl_iface.specs.Names.{IsNames}
use Rattle.nl_iface.specs.declared.counts.Counts.{Ghosts}
use Rattle.nl_meta.specs.Consistent.{PageOfStamp}
use Rattle.nl_meta.specs.Nodes.{pointer_at}
use Rattle.nl_core.specs.Core.{IsCore, names_of, running_of}
use Rattle.nl_core.specs.Goes.{PreservesVolume}
use Rattle.nl_core.specs.Laws.{LeadsLive}
use Rattle.nl_core.specs.Programming.{PutsInFlight}
use Rattle.nl_core.specs.Trees.{CoreRepresentsTree}
use Rattle.nl_core.specs.declared.state.Core.{Core}
use Rattle.nl_core.proofs.Lines.{in_flight}
use Rattle.nl_core.proofs.Standing.{flight_leads}
use Rattle.nl_calls_files.specs.FileRuns.{EndsClean}
use Rattle.nl_calls_files.specs.Fits.{IsFileOf}
use Rattle.nl_calls_steps.specs.Lines.{worker_pages}
use Rattle.nl_calls_steps.specs.Truncating.{AreCut, HasPartial}
use Rattle.nl_calls_steps.specs.Calls.{RepresentsSomeTree}
use Rattle.nl_calls_steps.specs.Finding.{nodes_of}
use Rattle.nl_calls_truncate.specs.Truncating.{CanCut, HasCutPage}
use Rattle.nl_calls_truncate.proofs.CutFlight.{IsOnePage, one_page, page_carried}
use Rattle.nl_calls_truncate.proofs.CutNodes.{FileGoes, file_goes, leads_back}
use Rattle.nl_calls_truncate.proofs.CutPages.{cut_one, in_all, none_cut}

-- nothing is in flight, and nothing stands behind the size
pub can_without : {D : Type 0} (g : Ghosts D) (v : Core D) (worker n size : ℕ) (rec : InodeRec) → of_worker v.flight worker ≡ begun 0 → IsFileOf g v.device v.meta n rec → EndsClean (running_of g v) rec size → CanCut g v worker n size
can_without g v worker n size rec none file clean =
    let empty : worker_pages v worker ≡ [] = ap (λ (x : InFlight). x.pages) none in
    record {
      rec = rec;
      file = file;
      partial = inl (empty, clean);
      pages = λ tells page_of_stamp tree path at leads.
          subst (λ (pages : List FlightPage). AreCut page_of_stamp (content_of (node_at tree path)) size pages) (sym empty) (none_cut page_of_stamp (content_of (node_at tree path)) size);
    }

-- the page in which the file ends then is in flight
module _ {D : Type 0} (g : Ghosts D) (u v w : Core D) (core : IsCore g u) (core_v : IsCore g v) (core_w : IsCore g w) (names_w : IsNames (g.shape w.device) (g.next_stamp w.device) (names_of g w)) (most : ℕ) (goes : PreservesVolume g most u w)
    (worker line n size : ℕ) (rec : InodeRec) (tag : Tag) (main : List ℕ) (known : worker < 8) (none : of_worker v.flight worker ≡ begun 0) (file : IsFileOf g u.device u.meta n rec) (puts : PutsInFlight g worker line tag main v w)
    (made : HasCutPage g u n size main) (runs : RepresentsSomeTree g u) (is_tag : tag ≡ record { ino = n; generation = rec.generation; index = size / 4096 }) (inside : size / 4096 < 4104) (within : size % 4096 ≢ 0)
    (had : is_none_pointer (pointer_at (running_of g u) rec (size / 4096)) ≡ false) where
  one : IsOnePage w.flight worker tag puts.at.stamp
  one = one_page v.flight w.flight worker line tag puts.at core_v.flight known puts.flight none

  abbrev page : FlightPage
  page = one.page

  on : FileGoes g u w n rec
  on = file_goes g most u w goes core core_w n rec file

  live : LeadsLive g w (page.tag, page.at)
  live = flight_leads g w names_w core_w (page.tag, page.at) (page_carried w.flight worker (in_flight w.flight worker core_w.flight known) page one.alone)

  index : page.index ≡ size / 4096
  index = one.index ∙ ap (λ (t : Tag). t.index) is_tag

  low : page.index < 4104
  low = let at = index in omega (arith, at, inside)

  partial : HasPartial g w worker n size on.rec
  partial = inr (
    page,
    one.alone,
    record {
      within = within;
      last = index;
      of_file = record {
        tag = one.tagged ∙ is_tag ∙ (λ i. record { ino = n; generation = sym on.generation i; index = sym index i });
        within = low;
        spelled = live.spelled;
        physical = live.physical;
      };
      had = on.holes (size / 4096) ∙ had;
    },
  )

  module _ (tells : g.tells) (path : List (List ℕ)) (leads : node_reached (nodes_of g w) 0 path ≡ Some n) where
    abbrev tree : Tree
    tree = (runs tells).1

    abbrev content : FileContent
    content = content_of (node_at tree path)

    is_main : main ≡ cut_page size page.index (page_bytes content page.index)
    is_main = made tells (runs tells).0 tree path (runs tells).2 (leads_back g most u w goes path n leads) ∙ ap (λ (i : ℕ). cut_page size i (page_bytes content i)) (sym index)

    cut : (page_of_stamp : ℕ → Option PageOfStamp) → CoreRepresentsTree g w page_of_stamp tree → AreCut page_of_stamp content size (worker_pages w worker)
    cut page_of_stamp at =
        let bytes = puts.bytes tells ∙ is_main in
        let tagged = sym one.tagged in
        subst (λ (pages : List FlightPage). AreCut page_of_stamp content size pages) (sym one.alone)
        (cut_one page_of_stamp content size page
        (ap page_of_stamp one.stamped ∙ at.shows puts.at.name (record { tag = tag; stamp = puts.at.stamp }) puts.is_live ∙ (λ i. Some (record { tag = tagged i; bytes = bytes i }))))

  pub can_put : CanCut g w worker n size
  can_put = record {
    rec = on.rec;
    file = on.file;
    partial = partial;
    pages = λ tells page_of_stamp other path at leads.
        let k = goes.runs tells (runs tells).0 (runs tells).1 (runs tells).2 in
        in_all g w core_w names_w worker n size on.rec known on.file partial k.pages (runs tells).1 path k.runs leads (cut tells path leads k.pages k.runs) page_of_stamp other path at leads;
  }
