-- A core whose file was cut is a core.
use Rattle.std.proofs.Common.{◌≡◌, ◌≢◌, inl, inr, ℕ, ◌+◌, ◌-◌, ◌*◌, ◌/◌, ◌%◌, ◌<◌, ◌≤◌, false, List, [], ◌∷◌, ◌++◌, filter, map, take, drop, not, length, Option, Some, None, IsSome, is_some, option_map, unwrap_or, ⊎_elim, refl, sym, ap, subst, ◌∙◌, arith}
use Rattle.std.proofs.lemmas.Bool.{both_ways, cond-false}
use Rattle.std.proofs.lemmas.List.{append_assoc, length-append, length-map}
use Rattle.std.specs.Int.{div_ceil}
use Rattle.std.specs.List.{range_with_len}
use Rattle.std.specs.Prelude.{IfSome, IsTrue, if◌then◌else◌, slice_get}
use Rattle.nl_field.specs.Bytes.{all_zero, zeros}
use Rattle.nl_tree_content.specs.ContentLaws.{cut_page}
use Rattle.nl_field.specs.FileContent.{FileContent, cut_to, page_bytes}
use Rattle.nl_field.specs.Graph.{Graph}
use Rattle.nl_field.specs.PointerItems.{PointerItems}
use Rattle.nl_field.specs.Pointers.{is_none_pointer}
use Rattle.nl_field.specs.Spelling.{is_stamp}
use Rattle.nl_field.specs.declared.inode.InodeRec.{InodeRec}
use Rattle.nl_field.specs.declared.pointer.Pointer.{Pointer}
use Rattle.nl_field.specs.declared.pointer.Tag.{Tag}
use Rattle.nl_field.specs.declared.shape.Shape.{Shape}
use Rattle.nl_tree_content.proofs.ContentBytes.{length-cut_page}
use Rattle.nl_tree.specs.Represents.{node_reached}
use Rattle.nl_tree.specs.Tree.{Tree, content_of, node_at, with_content}
use Rattle.nl_flight.specs.Flight.{IsFlight, begun, carried, with_line}
use Rattle.nl_flight.specs.declared.page.FlightPage.{FlightPage}
use Rattle.nl_iface.specs.Calls.{OnlyReads, StoresPages}
use Rattle.nl_iface.specs.Device.{IsVolumeShape}
use Rattle.nl_iface.specs.Names.{Has}
use Rattle.nl_iface.specs.Holders.{tagged}
use Rattle.nl_iface.specs.declared.counts.Counts.{Ghosts}
use Rattle.nl_spec_holders.specs.Lists.{ListLoses}
use Rattle.nl_inode.specs.Nodes.{Spaces, page_of_node}
use Rattle.nl_indirect.specs.Ranges.{HasRange, IsFileRecord, address_of}
use Rattle.nl_indirect.specs.Storing.{BeginsRange}
use Rattle.nl_indirect.proofs.Pointing.{address-range, in-range, no-page}
use Rattle.nl_meta.specs.Committed.{VirtualMap}
use Rattle.nl_meta.specs.Consistent.{PageOfStamp}
use Rattle.nl_meta.specs.Nodes.{graph_of, is_physical_name, pointer_at}
use Rattle.nl_meta.specs.Pages.{Pages, page_of}
use Rattle.nl_meta.specs.PointerLists.{IsFile, tagged_by, tagged_in}
use Rattle.nl_meta.proofs.PageProofs.{both, loaded, none}
use Rattle.nl_meta_running.specs.Running.{PreservesRunning, running_on}
use Rattle.nl_meta_running.proofs.GraphStays.{graph-same}
use Rattle.nl_meta_running.proofs.Holds.{bounds-of, reads-none}
use Rattle.nl_meta_running.proofs.Kept.{loads-on, used-on}
use Rattle.nl_spec_image.specs.Stands.{bytes_for}
use Rattle.nl_files.specs.CutRuns.{CutsOn, RunsCut}
use Rattle.nl_files.specs.Cutting.{IsPartial}
use Rattle.nl_files.specs.Spans.{as_list, pointers_from, pointers_of_span}
use Rattle.nl_files.specs.Standing.{KeepsRunning, LoadsOwn, tag_of}
use Rattle.nl_files.proofs.ContentFacts.{pages_by_pointers}
use Rattle.nl_files.proofs.CutOn.{cut_runs}
use Rattle.nl_files.proofs.LawProofs.{files_stand_on}
use Rattle.nl_files.proofs.OneFile.{is-used}
use Rattle.nl_spec_commits.specs.FileCuts.{pointers_behind}
use Rattle.nl_spec_commits.specs.Held.{IsHeldVolume}
use Rattle.nl_spec_commits.specs.Trees.{RepresentsTree}
use Rattle.nl_spec_commits.proofs.FileLists.{all_of, behind_is, file_there, node_changes, plain_there, split, there}
use Rattle.nl_core.specs.Core.{IsCore, running_of}
use Rattle.nl_core.specs.declared.state.Core.{Core}
use Rattle.nl_calls_files.specs.Cutting.{CutsTo}
use Rattle.nl_calls_files.specs.FileRuns.{EndsClean, EndsWith, IsPageAt}
use Rattle.nl_calls_files.specs.FileTrees.{FileHasPages, held_content}
use Rattle.nl_calls_files.specs.Fits.{IsFileOf}
use Rattle.nl_calls_files.specs.Holders.{KeepsVolumeHeld, LosesGiven, cut_off}
use Rattle.nl_calls_files.specs.Landing.{landed}
use Rattle.nl_calls_files.proofs.CutContents.{Replaces, content_cut, cut_behind}
use Rattle.nl_calls_files.proofs.FileRunning.{cut_has_pages, file_has_pages, file_runs_on, held_lead_once}
use Rattle.nl_calls_files.proofs.FileTrees.{file_at}
use Rattle.nl_calls_files.proofs.Fits.{is_file_at, reads_run, stands}
use Rattle.nl_calls_files.proofs.Holders.{cutting_holds, stamp_some}
use Rattle.nl_calls_files.proofs.Landing.{pages_land}
use Rattle.nl_calls_steps.specs.Installing.{FilePointerIsResident, with_landed}
use Rattle.nl_calls_steps.specs.Lines.{worker_pages}
use Rattle.nl_calls_steps.specs.Steps.{IsHeldAfter, Steps}
use Rattle.nl_calls_steps.specs.Truncating.{AreCut, CutsFileTo, HasPartial, IsPartialPage}
use Rattle.nl_calls_steps.proofs.LineEnds.{flight_step, other_lines}
use Rattle.nl_calls_steps.proofs.Stepping.{core_read, read_alike, read_on, stepped_core, steps_then}

-- where pointers are the same, so are those from an index on
span_same : (a b : VirtualMap) (rec : InodeRec) (from count : ℕ) → ((i : ℕ) → pointer_at b rec i ≡ pointer_at a rec i) → pointers_of_span b rec from count ≡ pointers_of_span a rec from count
unfolding pointers_of_span
span_same a b rec from count same = ap (filter (λ p. not (is_none_pointer p))) (mapped (range_with_len from count))
  where
    mapped : (xs : List ℕ) → map (pointer_at b rec) xs ≡ map (pointer_at a rec) xs
    mapped [] = refl
    mapped (x ∷ xs) = λ i. same x i ∷ mapped xs i

-- an index that has a pointer has a page for it
pub begins_none : (pages : VirtualMap) (rec : InodeRec) (index : ℕ) (to : Pointer) → is_none_pointer (pointer_at pages rec index) ≡ false → BeginsRange rec index (Some to) → ⊥
begins_none pages rec index to some b =
    let none = in-range pages rec index b.in_range ∙ no-page pages _ _ (sym (address-range rec index b.in_range) ∙ b.no_page) in
    both_ways (is_none_pointer (pointer_at pages rec index)) some (ap is_none_pointer none)

-- the pointer of the page that a worker has in flight for a cut, none where it has none
abbrev pub PartialIs : {D : Type 0} → Ghosts D → Core D → ℕ → ℕ → ℕ → InodeRec → Option Pointer → Type 0
PartialIs g v worker n size was None = (worker_pages v worker ≡ []) × EndsClean (running_of g v) was size
PartialIs g v worker n size was (Some to) = (page : FlightPage) × (worker_pages v worker ≡ page ∷ []) × IsPartialPage g v n size was page × (page.at ≡ to)

pub partial_is : {D : Type 0} (g : Ghosts D) (v : Core D) (worker n size : ℕ) (was : InodeRec) (partial : Option Pointer) → HasPartial g v worker n size was → partial ≡ option_map (λ page. page.at) (slice_get (worker_pages v worker) 0)
    → PartialIs g v worker n size was partial
partial_is g v worker n size was partial (inl clean) is =
    subst (λ (o : Option Pointer). PartialIs g v worker n size was o) (sym (is ∙ ap (λ (pages : List FlightPage). option_map (λ page. page.at) (slice_get pages 0)) clean.0)) clean
partial_is g v worker n size was partial (inr one) is =
    subst (λ (o : Option Pointer). PartialIs g v worker n size was o) (sym (is ∙ ap (λ (pages : List FlightPage). option_map (λ page. page.at) (slice_get pages 0)) one.1)) (one.0, one.1, one.2, refl)

-- what a cut needs of it
-- no further page is in flight
fewer_given : (tag : Tag) (partial : Option Pointer) (flight later : List (Tag × Pointer)) → LosesGiven tag partial flight later → (x : Tag × Pointer) → Has later x → Has flight x
fewer_given tag None flight later same x has = subst (λ (xs : List (Tag × Pointer)). Has xs x) same has
fewer_given tag (Some to) flight later lost x has = lost.only x has

module _ {D : Type 0} (g : Ghosts D) (v : Core D) (worker n size : ℕ) (was : InodeRec) (lines : IsFlight v.flight) (known : worker < 8) where
  pub partial_right : (o : Option Pointer) → PartialIs g v worker n size was o → IfSome o (λ to. (size % 4096 ≢ 0) × (is_none_pointer to ≡ false))
  partial_right None p = tt
  partial_right (Some to) p = (p.2.within, subst (λ (q : Pointer). is_none_pointer q ≡ false) p.3 (stamp_some p.0.at p.2.of_file.spelled))

  pub partial_physical : (o : Option Pointer) → PartialIs g v worker n size was o → IfSome o (λ to. IsTrue (is_physical_name (g.shape v.device) to))
  partial_physical None p = tt
  partial_physical (Some to) p = subst (λ (q : Pointer). IsTrue (is_physical_name (g.shape v.device) q)) p.3 p.2.of_file.physical

  pub partial_had : (o : Option Pointer) → PartialIs g v worker n size was o → IfSome o (λ to. is_none_pointer (pointer_at (running_of g v) was (size / 4096)) ≡ false)
  partial_had None p = tt
  partial_had (Some to) p = p.2.had

  pub partial_fits : (o : Option Pointer) → PartialIs g v worker n size was o → IfSome o (IsPartial size was)
  partial_fits None p = tt
  partial_fits (Some to) p = record {
    within = p.2.within;
    spelled = subst (λ (q : Pointer). IsTrue (is_stamp q.stamp)) p.3 p.2.of_file.spelled;
    page = begins_none (running_of g v) was (size / 4096) to p.2.had;
  }

  pub partial_given : (o : Option Pointer) → PartialIs g v worker n size was o → LosesGiven (tag_of n was (size / 4096)) o (carried (landed v.flight worker 0)) (carried (landed v.flight worker (length (worker_pages v worker))))
  partial_given None p = ap (λ (pages : List FlightPage). carried (landed v.flight worker (length pages))) p.0
  partial_given (Some to) p =
      let page = p.0 in
      let here : slice_get (worker_pages v worker) 0 ≡ Some page = ap (λ (pages : List FlightPage). slice_get pages 0) p.1 in
      let one : 1 ≡ length (worker_pages v worker) = sym (ap length p.1) in
      let tag : page.tag ≡ tag_of n was (size / 4096) = p.2.of_file.tag ∙ ap (tag_of n was) p.2.last in
      let lost = (pages_land v.flight worker lines known).next 0 page here in
      subst (λ (k : ℕ). ListLoses tagged (tag_of n was (size / 4096), to) (carried (landed v.flight worker 0)) (carried (landed v.flight worker k))) one
      (subst (λ (q : Pointer). ListLoses tagged (tag_of n was (size / 4096), q) (carried (landed v.flight worker 0)) (carried (landed v.flight worker 1))) p.3
      (subst (λ (t : Tag). ListLoses tagged (t, page.at) (carried (landed v.flight worker 0)) (carried (landed v.flight worker 1))) tag lost))

  pub partial_one : (o : Option Pointer) → PartialIs g v worker n size was o → IsSome o → 1 ≤ length (carried v.flight)
  partial_one None p some = absurd (both_ways false refl some)
  partial_one (Some to) p some =
      let lost = (partial_given (Some to) p).size in
      let all = ap length (pages_land v.flight worker lines known).first in
      omega (arith, lost, all)

module _ {D : Type 0} (g : Ghosts D) (v : Core D) (d : D) (half : Pages) (n size : ℕ) (was : InodeRec) (core : IsCore g v) (hand : FilePointerIsResident g v n (size / 4096) was)
    (volume : IsVolumeShape (g.shape v.device)) (volume_d : IsVolumeShape (g.shape d)) (formed : g.formed d) (stores : g.tells → StoresPages g d) (reads : OnlyReads g v.device d) (keeps : KeepsRunning g v.device v.meta half) (own : LoadsOwn was v.meta half)
    (faults : g.read_faults v.device ≤ g.read_faults d) where
  -- the core of which pages were read
  abbrev pub read : Core D
  read = record v { device = d; meta = half }

  pub runs : PreservesRunning g v.device v.meta d half
  runs = reads_run g v.device d v.meta half n was core.journaled.runs hand.file reads keeps own

  pub read_core : IsCore g read
  read_core = core_read g v d half volume formed stores core runs faults

  -- the file as it was read
  pub file_read : IsFileOf g d half n was
  file_read = record { is_node = used-on g v.device v.meta d half (bounds-of (g.shape v.device) volume) runs n was hand.file.is_node; is_file = hand.file.is_file }

  pub there_read : IsSome (page_of half (page_of_node n))
  there_read = ap is_some (keeps.stays (page_of_node n) hand.there) ∙ hand.there

  pub range_read : HasRange (page_of half) was (size / 4096)
  range_read far = let has = hand.range far in
      record { bytes = has.bytes; there = keeps.stays (address_of was (size / 4096)) (ap is_some has.there) ∙ has.there; spelled = has.spelled }

  pub same_pointers : (i : ℕ) → pointer_at (running_on g d half) was i ≡ pointer_at (running_of g v) was i
  same_pointers = (files_stand_on g v.device d was v.meta half reads keeps (stands g v.device v.meta n was core.journaled.runs hand.file)).pointers

  same_spans : (from : ℕ) → pointers_from (running_on g d half) was from ≡ pointers_from (running_of g v) was from
  same_spans from = span_same (running_of g v) (running_on g d half) was from (4104 - from) same_pointers

  -- ---- its pointers were read, and no more

  pub refused_step : (f : PointerItems) → length v.freeing.items + v.freeing.room ≤ length f.items + f.room → Steps g v (record v { device = d; meta = half; freeing = f })
  refused_step f left = record { reads = reads; read_faults = faults; pages = loaded v.meta half (loads-on g v.device v.meta d half runs); room = left; others = refl }

  pub refused_core : (f : PointerItems) → f.items ≡ v.freeing.items → length v.freeing.items + v.freeing.room ≤ length f.items + f.room → IsCore g (record v { device = d; meta = half; freeing = f })
  refused_core f same left = stepped_core g read (record v { device = d; meta = half; freeing = f }) read_core volume_d
      (record { reads = reads-none g d; read_faults = omega arith; pages = none half; room = left; others = refl })
      (record {
        runs = read_core.journaled.runs;
        free = record { count_nodes = read_core.free.count_nodes; count_pool = read_core.free.count_pool; nodes = read_core.free.nodes; pool = read_core.free.pool };
        held = subst (λ (xs : List Pointer). IsHeldVolume g d v.journal half (carried v.flight) xs v.leaving) (sym same) read_core.held;
        as_many = let items = ap length same in omega (arith, items);
        few = read_core.space.few;
        flight = read_core.flight;
        fewer = λ x has. has;
      }) formed stores

  -- ---- it is cut

  module _ (worker : ℕ) (known : worker < 8) (partial : Option Pointer) (of : PartialIs g v worker n size was partial) where
    given : LosesGiven (tag_of n was (size / 4096)) partial (carried (landed v.flight worker 0)) (carried (landed v.flight worker (length (worker_pages v worker))))
    given = partial_given g v worker n size was core.flight known partial of

    had : IfSome partial (λ to. is_none_pointer (pointer_at (running_of g v) was (size / 4096)) ≡ false)
    had = partial_had g v worker n size was core.flight known partial of

    same_shape : g.shape d ≡ g.shape v.device
    same_shape = reads.medium.virtual.same_shape

    physical : IfSome partial (λ to. IsTrue (is_physical_name (g.shape d) to))
    physical = subst (λ (h : Shape). IfSome partial (λ to. IsTrue (is_physical_name h to))) (sym same_shape) (partial_physical g v worker n size was core.flight known partial of)

    -- what is in flight before, and after
    abbrev flight : List (Tag × Pointer)
    flight = carried (landed v.flight worker 0)

    abbrev later : List (Tag × Pointer)
    later = carried (landed v.flight worker (length (worker_pages v worker)))

    begun_read : IsCore g (with_landed read worker 0)
    begun_read = other_lines g read (landed v.flight worker 0) read_core volume_d stores ((pages_land v.flight worker core.flight known).lines 0) (pages_land v.flight worker core.flight known).first

    abbrev gone : List Pointer
    gone = cut_off (running_on g d half) was size partial

    -- as much leaves the file as comes from the flight
    enough : length flight ≤ length later + length gone
    enough = by partial had given (length-append (pointers_from (running_on g d half) was (div_ceil size 4096)) (if is_some partial then as_list (pointer_at (running_on g d half) was (size / 4096)) else [])) refl
      where
        by : (o : Option Pointer) → IfSome o (λ to. is_none_pointer (pointer_at (running_of g v) was (size / 4096)) ≡ false) → LosesGiven (tag_of n was (size / 4096)) o flight later
            → length gone ≡ length (pointers_from (running_on g d half) was (div_ceil size 4096)) + length (if is_some partial then as_list (pointer_at (running_on g d half) was (size / 4096)) else [])
            → partial ≡ o → length flight ≤ length later + length gone
        by None some same sum e = let n = ap length same in omega (arith, n)
        by (Some to) some lost sum e =
            let one : length (if is_some partial then as_list (pointer_at (running_on g d half) was (size / 4096)) else []) ≡ 1 =
            ap (λ (o : Option Pointer). length (if is_some o then as_list (pointer_at (running_on g d half) was (size / 4096)) else [])) e
            ∙ ap (λ b. length (if not b then pointer_at (running_on g d half) was (size / 4096) ∷ [] else [])) (ap is_none_pointer (same_pointers (size / 4096)) ∙ some) in
            let size_ = lost.size in
            omega (arith, one, size_, sum)

    module _ (is : InodeRec) (m : Pages) (s : Spaces) (f : PointerItems) (cuts : CutsTo n size partial was is half m v.nodes s)
        (freed : f.items ≡ (v.freeing.items ++ pointers_from (running_of g v) was (div_ceil size 4096)) ++ (if is_some partial then as_list (pointer_at (running_on g d half) was (size / 4096)) else []))
        (left : length v.freeing.items + v.freeing.room ≤ length f.items + f.room) where
      abbrev pub w : Core D
      w = record v { device = d; meta = m; nodes = s; freeing = f }

      on : CutsOn g d n size partial was is half cuts.between m v.nodes s
      on = record {
        is_node = file_read.is_node;
        is_file = file_read.is_file;
        physical = physical;
        there = there_read;
        range = range_read;
        cuts = cuts.cuts;
        puts = cuts.puts;
      }

      pub ran : RunsCut g d n size partial was is half m v.nodes s
      ran = cut_runs g d n size partial was is half cuts.between m v.nodes s volume_d read_core.journaled.runs on

      holds : KeepsVolumeHeld g d v.journal half m flight later v.freeing.items v.leaving gone
      holds = cutting_holds g d v.journal flight later v.freeing.items n size partial was is half cuts.between m v.nodes s _ volume_d read_core.journaled begun_read.held on (partial_right g v worker n size was core.flight known partial of) given

      awaits : f.items ≡ v.freeing.items ++ gone
      awaits =
          freed
          ∙ append_assoc v.freeing.items (pointers_from (running_of g v) was (div_ceil size 4096)) (if is_some partial then as_list (pointer_at (running_on g d half) was (size / 4096)) else [])
          ∙ ap (λ (l : List Pointer). v.freeing.items ++ (l ++ (if is_some partial then as_list (pointer_at (running_on g d half) was (size / 4096)) else []))) (sym (same_spans (div_ceil size 4096)))

      step : Steps g (with_landed read worker 0) (with_landed w worker (length (worker_pages v worker)))
      step = record { reads = reads-none g d; read_faults = omega arith; pages = ran.pages; room = left; others = refl }

      pub whole_step : Steps g v w
      whole_step = record {
        reads = reads;
        read_faults = faults;
        pages = both v.meta half m (loaded v.meta half (loads-on g v.device v.meta d half runs)) ran.pages;
        room = left;
        others = refl;
      }

      held : IsHeldAfter g (with_landed read worker 0) (with_landed w worker (length (worker_pages v worker)))
      held = record {
        runs = ran.runs;
        free = record {
          count_nodes = ap length cuts.cuts.given.nodes ∙ read_core.free.count_nodes;
          count_pool = cuts.cuts.given.count ∙ read_core.free.count_pool;
          nodes = ran.cut.nodes read_core.free.nodes;
          pool = ran.cut.pool read_core.free.pool;
        };
        held = subst (λ (xs : List Pointer). IsHeldVolume g d v.journal m later xs v.leaving) (sym awaits) holds.held;
        as_many = let all = holds.as_many in let items = ap length awaits in omega (arith, all, items);
        few = let all = holds.as_many in let sum = length-append v.freeing.items gone in let most = read_core.space.few in let fewer = enough in omega (arith, all, sum, most, fewer);
        flight = (pages_land v.flight worker core.flight known).lines (length (worker_pages v worker));
        fewer = fewer_given (tag_of n was (size / 4096)) partial flight later given;
      }

      pub cut_core : IsCore g (with_landed w worker (length (worker_pages v worker)))
      cut_core = stepped_core g (with_landed read worker 0) (with_landed w worker (length (worker_pages v worker))) begun_read volume_d step held formed stores

      pub file_cut : IsFileOf g d m n is
      file_cut = record {
        is_node = record { below = file_read.is_node.below; spelled = ran.cut.changes.node_after; used = is-used is.kind ran.cut.changes.file_after };
        is_file = ran.cut.changes.file_after;
      }

      pub there_cut : IsSome (page_of m (page_of_node n))
      there_cut = ran.pages.stays (page_of_node n) there_read

      -- ---- for which tree it stands

      abbrev before : VirtualMap
      before = running_on g d half

      abbrev after : VirtualMap
      after = running_on g d m

      file_before : IsFile (g.shape d) before n was
      file_before = is_file_at (g.shape d) before n was read_core.journaled.runs.addresses file_read.is_node file_read.is_file

      file_after : IsFile (g.shape d) after n is
      file_after = is_file_at (g.shape d) after n is ran.runs.addresses file_cut.is_node file_cut.is_file

      same_graph : graph_of (g.shape d) before ≡ graph_of (g.shape v.device) (running_of g v)
      same_graph = ap (λ (h : Shape). graph_of h before) same_shape ∙ graph-same (g.shape v.device) (bounds-of (g.shape v.device) volume) (running_of g v) before runs.needed

      record_before : IsFileRecord was
      record_before = (stands g v.device v.meta n was core.journaled.runs hand.file).file

      module _ (page_of_stamp : ℕ → Option PageOfStamp) (tree : Tree) (path : List (List ℕ)) (stood : RepresentsTree (g.shape v.device) (running_of g v) page_of_stamp tree)
          (leads : node_reached (graph_of (g.shape v.device) (running_of g v)) 0 path ≡ Some n) (shows : AreCut page_of_stamp (content_of (node_at tree path)) size (worker_pages v worker)) where
        stood_read : RepresentsTree (g.shape d) before page_of_stamp tree
        stood_read = (read_alike g v read volume formed stores (read_on g v d half runs faults)).trees page_of_stamp tree stood

        leads_read : node_reached (graph_of (g.shape d) before) 0 path ≡ Some n
        leads_read = ap (λ (x : Graph). node_reached x 0 path) same_graph ∙ leads

        abbrev held_before : FileContent
        held_before = held_content page_of_stamp before was

        content_before : content_of (node_at tree path) ≡ held_before
        content_before = ap content_of (file_at (g.shape d) before page_of_stamp n was path tree file_before leads_read stood_read.represents)

        -- the bytes of the page in which the file ends
        page_before : is_none_pointer (pointer_at before was (size / 4096)) ≡ false → page_bytes held_before (size / 4096) ≡ bytes_for page_of_stamp (pointer_at before was (size / 4096)).stamp
        unfolding page_bytes
        page_before some =
            ap (λ (o : Option (List ℕ)). unwrap_or o (zeros 4096))
            (pages_by_pointers (bytes_for page_of_stamp) before was record_before (size / 4096)
            ∙ cond-false (is_none_pointer (pointer_at before was (size / 4096))) None (Some (bytes_for page_of_stamp (pointer_at before was (size / 4096)).stamp)) some)

        -- the page that comes
        module _ (to : Pointer) (some : PartialIs g v worker n size was (Some to)) where
          had_read : is_none_pointer (pointer_at before was (size / 4096)) ≡ false
          had_read = ap is_none_pointer (same_pointers (size / 4096)) ∙ some.2.had

          abbrev now : List ℕ
          now = cut_page size (size / 4096) (bytes_for page_of_stamp (pointer_at before was (size / 4096)).stamp)

          comes : page_of_stamp to.stamp ≡ Some (record { tag = tag_of n was (size / 4096); bytes = now })
          comes =
              let here : slice_get (worker_pages v worker) 0 ≡ Some some.0 = ap (λ (pages : List FlightPage). slice_get pages 0) some.1 in
              let bytes : cut_page size some.0.index (page_bytes (content_of (node_at tree path)) some.0.index) ≡ now =
              ap (λ (i : ℕ). cut_page size i (page_bytes (content_of (node_at tree path)) i)) some.2.last
              ∙ ap (cut_page size (size / 4096)) (ap (λ (c : FileContent). page_bytes c (size / 4096)) content_before ∙ page_before had_read) in
              let tag : some.0.tag ≡ tag_of n was (size / 4096) = some.2.of_file.tag ∙ ap (tag_of n was) some.2.last in
              ap (λ (p : Pointer). page_of_stamp p.stamp) (sym some.3) ∙ shows 0 some.0 here ∙ (λ i. Some (record { tag = tag i; bytes = bytes i }))

          whole : length now ≡ 4096
          whole =
              let there = (file_has_pages (g.shape d) page_of_stamp n was before stood_read.right file_before).there (size / 4096) had_read in
              length-cut_page size (size / 4096) (bytes_for page_of_stamp (pointer_at before was (size / 4096)).stamp)
              (ap length (ap (λ (o : Option PageOfStamp). unwrap_or (option_map (λ page. page.bytes) o) []) there.holds) ∙ there.whole)

          is_there : IsPageAt page_of_stamp n is (size / 4096) to
          is_there = record {
            bytes = now;
            holds = comes ∙ ap (λ (c : ℕ). Some (record { tag = record { ino = n; generation = c; index = size / 4096 }; bytes = now })) (sym ran.cut.changes.generation);
            whole = whole;
            behind = subst (λ (z : ℕ). IsTrue (all_zero (drop (z - 4096 * (size / 4096)) now))) (sym cuts.cuts.sized) (cut_behind size (size / 4096) (bytes_for page_of_stamp (pointer_at before was (size / 4096)).stamp));
          }

          replaced : Replaces page_of_stamp before was size to
          replaced = record {
            some = (partial_right g v worker n size was core.flight known (Some to) some).1;
            had = had_read;
            bytes = ap (λ (o : Option PageOfStamp). unwrap_or (option_map (λ page. page.bytes) o) []) comes;
          }

        replaces : (o : Option Pointer) → PartialIs g v worker n size was o → IfSome o (Replaces page_of_stamp before was size)
        replaces None p = tt
        replaces (Some to) p = replaced to p

        ends : (o : Option Pointer) → PartialIs g v worker n size was o → EndsWith page_of_stamp n size before was is o
        ends None p = ⊎_elim (λ longer. inl longer) (λ other. ⊎_elim (λ full. inr (inl full)) (λ gone_. inr (inr (ap is_none_pointer (same_pointers (size / 4096)) ∙ gone_))) other) p.1
        ends (Some to) p = (p.2.within, is_there to p)

        pages_after : FileHasPages after page_of_stamp n is
        pages_after = cut_has_pages (g.shape d) page_of_stamp n size partial was is before after v.nodes s stood_read.right file_before ran.cut cuts.cuts.sized (ends partial of)

        runs_cut : RepresentsTree (g.shape d) after page_of_stamp (with_content tree path (held_content page_of_stamp after is))
        runs_cut = file_runs_on (g.shape d) before after page_of_stamp (g.names d) n was is path tree stood_read (record {
          right = record { nodes = ran.runs.nodes; addresses = ran.runs.addresses; entries = ran.runs.entries };
          file_before = file_before;
          file_after = file_after;
          others = ran.cut.others;
          lead = held_lead_once g d v.journal m later f.items _ held.held;
          pages = pages_after;
          few = cut_core.space.few;
          leads = leads_read;
        })

        stands_cut : RepresentsTree (g.shape d) after page_of_stamp (with_content tree path (cut_to (content_of (node_at tree path)) size))
        stands_cut = subst (λ (c : FileContent). RepresentsTree (g.shape d) after page_of_stamp (with_content tree path c))
            (content_cut page_of_stamp (g.shape d) n size partial was is before after v.nodes s record_before cuts.cuts.file cuts.cuts.sized ran.cut pages_after (replaces partial of) ∙ ap (λ (c : FileContent). cut_to c size) (sym content_before))
            runs_cut

      -- the worker has no line by now
      pub file_is_cut : (end : Core D) → end ≡ record w { flight = with_line v.flight worker (begun 0) } → CutsFileTo g worker n size was is v end
      file_is_cut end is_end = subst (λ (x : Core D). CutsFileTo g worker n size was is v x) (sym is_end) (record {
        others = refl;
        steps = steps_then g v w (record w { flight = with_line v.flight worker (begun 0) }) whole_step (flight_step g w (with_line v.flight worker (begun 0)));
        sized = cuts.cuts.sized;
        file = file_cut;
        there = there_cut;
        generation = ran.cut.changes.generation;
        nodes = λ k far. ran.cut.others k far ∙ ap (λ (x : Graph). x k) same_graph;
        cut = stands_cut;
      })

-- ---- the pointers of a file are among those of all

behind_same : (pages : VirtualMap) (rec : InodeRec) (from : ℕ) → pointers_behind pages rec from ≡ pointers_from pages rec from
unfolding pointers_of_span
behind_same pages rec from = refl

pub file_fewer : (shape : Shape) (pages : VirtualMap) (n : ℕ) (rec : InodeRec) → IsFile shape pages n rec → (from : ℕ) → length (pointers_from pages rec from) ≤ length (tagged_in shape pages)
file_fewer shape pages n rec file from =
    let around = node_changes shape pages pages n file.below (λ k far. refl) in
    let own = tagged_by n (graph_of shape pages n) in
    let xs = all_of pages rec in
    let whole = ap length around.before ∙ length-append (around.front ++ own) around.back in
    let front = length-append around.front own in
    let parts = ap length (file_there shape pages n rec file ∙ split n rec.generation 0 from xs) ∙ length-append (there n rec.generation 0 (take from xs)) (there n rec.generation (0 + from) (drop from xs)) in
    let tail = sym (length-map (there n rec.generation (0 + from) (drop from xs)) tagged) ∙ ap length (plain_there n rec.generation (0 + from) (drop from xs) ∙ behind_is shape pages n rec file from ∙ behind_same pages rec from) in
    omega (arith, whole, front, parts, tail)
