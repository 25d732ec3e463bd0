-- The page that a worker has in flight for a cut holds the bytes of the file below the size, in whatever tree the core runs as.
use Rattle.std.proofs.Common.{◌≡◌, ⊎_elim, inl, inr, ℕ, zero, suc, ◌/◌, ◌<◌, List, [], ◌∷◌, unwrap_or, sym, ap, subst, ◌∙◌, Option, Some, option_map, arith}
use Rattle.std.specs.Prelude.{IsTrue, slice_get}
use Rattle.nl_tree_content.specs.ContentLaws.{cut_page}
use Rattle.nl_field.specs.FileContent.{FileContent, page_bytes}
use Rattle.nl_field.specs.declared.inode.InodeRec.{InodeRec}
use Rattle.nl_field.specs.declared.shape.Shape.{Shape}
use Rattle.nl_tree.specs.Represents.{node_reached}
use Rattle.nl_tree.specs.Tree.{Node, Tree, content_of, node_at}
use Rattle.nl_flight.specs.Flight.{InFlight, of_worker}
use Rattle.nl_flight.specs.declared.page.FlightPage.{FlightPage}
use Rattle.nl_iface.specs.Names.{IsNames, led}
use Rattle.nl_iface.specs.declared.counts.Counts.{Ghosts}
use Rattle.nl_meta.specs.Consistent.{PageOfStamp}
use Rattle.nl_meta.specs.Nodes.{is_physical_name}
use Rattle.nl_files.specs.Reading.{file_page}
use Rattle.nl_core.specs.Core.{IsCore, names_of, running_of}
use Rattle.nl_core.specs.Goes.{PreservesVolume}
use Rattle.nl_core.specs.Laws.{LeadsLive}
use Rattle.nl_core.specs.Trees.{CoreRepresentsTree}
use Rattle.nl_core.specs.declared.state.Core.{Core}
use Rattle.nl_core.proofs.Lines.{in_flight}
use Rattle.nl_core.proofs.Standing.{flight_leads}
use Rattle.nl_calls_files.specs.FileRuns.{EndsClean}
use Rattle.nl_calls_files.specs.Fits.{IsFileOf}
use Rattle.nl_calls_steps.specs.Lines.{worker_pages}
use Rattle.nl_calls_steps.specs.Truncating.{AreCut, HasPartial, IsPartialPage}
use Rattle.nl_calls_steps.specs.Calls.{RepresentsSomeTree}
use Rattle.nl_calls_steps.specs.Finding.{nodes_of}
use Rattle.nl_calls_steps.proofs.FilePages.{at-path, page-shown}
use Rattle.nl_calls_truncate.specs.Truncating.{CanCut}
use Rattle.nl_calls_truncate.proofs.CutFlight.{page_carried}
use Rattle.nl_calls_truncate.proofs.CutNodes.{FileGoes, file_goes, leads_back}

-- the only page of a list
only : (page : FlightPage) (k : ℕ) (p : FlightPage) → slice_get (page ∷ []) k ≡ Some p → page ≡ p
only page zero p at = cc at
only page (suc k) p at = absurd (cc at)

abbrev pub CutOf : FileContent → ℕ → FlightPage → PageOfStamp
CutOf content size page = record { tag = page.tag; bytes = cut_page size page.index (page_bytes content page.index) }

pub cut_one : (page_of_stamp : ℕ → Option PageOfStamp) (content : FileContent) (size : ℕ) (page : FlightPage) → page_of_stamp page.at.stamp ≡ Some (CutOf content size page) → AreCut page_of_stamp content size (page ∷ [])
cut_one page_of_stamp content size page is k p at = subst (λ (q : FlightPage). page_of_stamp q.at.stamp ≡ Some (CutOf content size q)) (only page k p at) is

pub none_cut : (page_of_stamp : ℕ → Option PageOfStamp) (content : FileContent) (size : ℕ) → AreCut page_of_stamp content size []
none_cut page_of_stamp content size k p at = absurd (cc at)

-- ---- the page of a core

module _ {D : Type 0} (g : Ghosts D) (v : Core D) (core : IsCore g v) (names : IsNames (g.shape v.device) (g.next_stamp v.device) (names_of g v)) (worker n size : ℕ) (rec : InodeRec) (known : worker < 8)
    (file : IsFileOf g v.device v.meta n rec) (page : FlightPage) (alone : worker_pages v worker ≡ page ∷ []) (within : page.index < 4104) where
  -- the page in flight is live
  live : LeadsLive g v (page.tag, page.at)
  live = flight_leads g v names core (page.tag, page.at) (page_carried v.flight worker (in_flight v.flight worker core.flight known) page alone)

  abbrev bytes : List ℕ
  bytes = g.bytes v.device (led (names_of g v) page.at.name)

  -- what the file has at its index
  abbrev there : List ℕ
  there = file_page g v.device (running_of g v) rec page.index

  module _ (page_of_stamp : ℕ → Option PageOfStamp) (tree : Tree) (path : List (List ℕ)) (at : CoreRepresentsTree g v page_of_stamp tree) (leads : node_reached (nodes_of g v) 0 path ≡ Some n) where
    is_shown : page_of_stamp page.at.stamp ≡ Some (record { tag = page.tag; bytes = bytes })
    is_shown = at.shows (led (names_of g v) page.at.name) (record { tag = page.tag; stamp = page.at.stamp }) live.live

    is_there : page_bytes (content_of (node_at tree path)) page.index ≡ there
    is_there =
        ap (λ (o : Option Node). page_bytes (content_of o) page.index) (at-path g v page_of_stamp tree n rec file at path leads)
        ∙ sym (page-shown g v page_of_stamp tree n rec file core at page.index within)

    -- so it is cut from it in one tree where it is in another
    pub bytes_from : AreCut page_of_stamp (content_of (node_at tree path)) size (worker_pages v worker) → bytes ≡ cut_page size page.index there
    bytes_from cut =
        let here : slice_get (worker_pages v worker) 0 ≡ Some page = ap (λ (pages : List FlightPage). slice_get pages 0) alone in
        ap (λ (o : Option PageOfStamp). unwrap_or (option_map (λ x. x.bytes) o) []) (sym is_shown ∙ cut 0 page here) ∙ ap (cut_page size page.index) is_there

    pub bytes_to : bytes ≡ cut_page size page.index there → AreCut page_of_stamp (content_of (node_at tree path)) size (worker_pages v worker)
    bytes_to same =
        subst (λ (pages : List FlightPage). AreCut page_of_stamp (content_of (node_at tree path)) size pages) (sym alone)
        (cut_one page_of_stamp (content_of (node_at tree path)) size page
        (is_shown ∙ ap (λ (xs : List ℕ). Some (record { tag = page.tag; bytes = xs })) (same ∙ ap (cut_page size page.index) (sym is_there))))

-- ---- in any tree, where it is so in one

module _ {D : Type 0} (g : Ghosts D) (v : Core D) (core : IsCore g v) (names : IsNames (g.shape v.device) (g.next_stamp v.device) (names_of g v)) (worker n size : ℕ) (rec : InodeRec) (known : worker < 8)
    (file : IsFileOf g v.device v.meta n rec) (partial : HasPartial g v worker n size rec) where
  pub in_all : (page_of_stamp : ℕ → Option PageOfStamp) (tree : Tree) (path : List (List ℕ)) → CoreRepresentsTree g v page_of_stamp tree → node_reached (nodes_of g v) 0 path ≡ Some n
      → AreCut page_of_stamp (content_of (node_at tree path)) size (worker_pages v worker) → (other : ℕ → Option PageOfStamp) (tree_ : Tree) (path_ : List (List ℕ)) → CoreRepresentsTree g v other tree_ → node_reached (nodes_of g v) 0 path_ ≡ Some n
      → AreCut other (content_of (node_at tree_ path_)) size (worker_pages v worker)
  in_all page_of_stamp tree path at leads cut other tree_ path_ at_ leads_ = ⊎_elim
      (λ none. subst (λ (pages : List FlightPage). AreCut other (content_of (node_at tree_ path_)) size pages) (sym none.0) (none_cut other (content_of (node_at tree_ path_)) size))
      (λ one.
      let page = one.0 in
      let within = one.2.of_file.within in
      bytes_to g v core names worker n size rec known file page one.1 within other tree_ path_ at_ leads_
      (bytes_from g v core names worker n size rec known file page one.1 within page_of_stamp tree path at leads cut))
      partial

-- ---- it goes on

module _ {D : Type 0} (g : Ghosts D) (u v : Core D) (same_shape : g.shape v.device ≡ g.shape u.device) (same_flight : v.flight ≡ u.flight) (worker n size : ℕ) (rec : InodeRec) (on : FileGoes g u v n rec) where
  same_pages : worker_pages v worker ≡ worker_pages u worker
  same_pages = ap (λ (flight : List InFlight). (of_worker flight worker).pages) same_flight

  ends_on : EndsClean (running_of g u) rec size → EndsClean (running_of g v) on.rec size
  ends_on clean = ⊎_elim (λ longer. let same = on.size in inl (omega (arith, longer, same))) (λ other. ⊎_elim (λ full. inr (inl full)) (λ gone. inr (inr (on.holes (size / 4096) ∙ gone))) other) clean

  page_on : (page : FlightPage) → IsPartialPage g u n size rec page → IsPartialPage g v n size on.rec page
  page_on page is = record {
    within = is.within;
    last = is.last;
    of_file = record {
      tag = is.of_file.tag ∙ ap (λ (c : ℕ). record { ino = n; generation = c; index = page.index }) (sym on.generation);
      within = is.of_file.within;
      spelled = is.of_file.spelled;
      physical = subst (λ (h : Shape). IsTrue (is_physical_name h page.at)) (sym same_shape) is.of_file.physical;
    };
    had = on.holes (size / 4096) ∙ is.had;
  }

  pub partial_on : HasPartial g u worker n size rec → HasPartial g v worker n size on.rec
  partial_on partial = ⊎_elim (λ none. inl (same_pages ∙ none.0, ends_on none.1)) (λ one. inr (one.0, same_pages ∙ one.1, page_on one.0 one.2)) partial

module _ {D : Type 0} (g : Ghosts D) (u v : Core D) (most : ℕ) (goes : PreservesVolume g most u v) (core : IsCore g u) (core_v : IsCore g v) (names_v : IsNames (g.shape v.device) (g.next_stamp v.device) (names_of g v)) (same_flight : v.flight ≡ u.flight)
    (worker n size : ℕ) (known : worker < 8) where
  pub can_cut_on : RepresentsSomeTree g u → CanCut g u worker n size → CanCut g v worker n size
  can_cut_on runs can =
      let on = file_goes g most u v goes core core_v n can.rec can.file in
      let partial = partial_on g u v goes.same_shape same_flight worker n size can.rec on can.partial in
      record {
        rec = on.rec;
        file = on.file;
        partial = partial;
        pages = λ tells page_of_stamp tree path at leads.
            let some = runs tells in
            let k = goes.runs tells some.0 some.1 some.2 in
            let was = can.pages tells some.0 some.1 path some.2 (leads_back g most u v goes path n leads) in
            in_all g v core_v names_v worker n size on.rec known on.file partial k.pages some.1 path k.runs leads
            (subst (λ (flight : List InFlight). AreCut k.pages (content_of (node_at some.1 path)) size (of_worker flight worker).pages) (sym same_flight) (λ i page here. k.extends _ _ (was i page here)))
            page_of_stamp tree path at leads;
      }
