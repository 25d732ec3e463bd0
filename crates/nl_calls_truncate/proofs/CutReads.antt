-- A core of which pages were read for a cut, and the cut after it.
use Rattle.std.proofs.Common.{◌≡◌, ℕ, ◌+◌, ◌≤◌, ◌==◌, nat_lt, Bool, true, false, cond, List, length, map, sym, ap, subst, ◌∙◌, Result, Ok, Err, arith}
use Rattle.std.proofs.lemmas.List.{get_or-set_other, get_or_past}
use Rattle.std.specs.Prelude.{IfOk, OnErr}
use Rattle.nl_field.specs.Graph.{Graph}
use Rattle.nl_field.specs.declared.inode.InodeRec.{InodeRec}
use Rattle.nl_field.specs.declared.shape.Shape.{Shape}
use Rattle.nl_tree.specs.Represents.{node_reached}
use Rattle.nl_tree.specs.Tree.{content_of, node_at}
use Rattle.nl_core_callbacks.specs.Handled.{nameless_line}
use Rattle.nl_flight.specs.Flight.{InFlight, begun, of_worker, with_line}
use Rattle.nl_iface.specs.Calls.{StoresPages}
use Rattle.nl_iface.specs.Device.{IsVolumeShape}
use Rattle.nl_iface.specs.declared.counts.Counts.{Ghosts}
use Rattle.nl_inode.specs.Nodes.{page_of_node}
use Rattle.nl_indirect.specs.Ranges.{HasRange, IsFileRecord, address_of}
use Rattle.nl_indirect.proofs.Records.{file-parts}
use Rattle.nl_meta.specs.Committed.{VirtualMap}
use Rattle.nl_meta.specs.Nodes.{graph_of}
use Rattle.nl_meta.specs.Pages.{Pages, besides_0, is_dirty, most}
use Rattle.nl_meta.proofs.NodeProofs.{same_rec}
use Rattle.nl_meta_running.specs.declared.answer.Stop.{Stop}
use Rattle.nl_meta_running.proofs.GraphStays.{graph-same}
use Rattle.nl_meta_running.proofs.Holds.{bounds-of}
use Rattle.nl_spec_commits.specs.Trees.{RepresentsTree}
use Rattle.nl_spec_commits.proofs.Trees.{runs_alike}
use Rattle.nl_core.specs.Core.{IsCore, running_of}
use Rattle.nl_core.specs.Goes.{PreservesVolume}
use Rattle.nl_core.specs.declared.state.Core.{Core}
use Rattle.nl_core.proofs.Onward.{goes_more, goes_then}
use Rattle.nl_calls_files.specs.Fits.{IsFileOf}
use Rattle.nl_calls_files.specs.Taking.{HasRoomToTake, clean_at, clean_of}
use Rattle.nl_calls_steps.specs.Steps.{ReadsOn}
use Rattle.nl_calls_steps.specs.Truncating.{AreCut, CutsFileTo, HasPartial, RefusesCut}
use Rattle.nl_calls_steps.proofs.Stepping.{read_alike, steps_then}
use Rattle.nl_calls_steps.specs.Calls.{OtherLinesStay, RepresentsSomeTree}
use Rattle.nl_calls_steps.specs.Finding.{nodes_of}
use Rattle.nl_calls_steps.proofs.WorkerLines.{same_line}
use Rattle.nl_calls_steps.proofs.Going.{others_same, others_then}
use Rattle.nl_calls_steps.proofs.LeavesTree.{reads_go, step_goes}
use Rattle.nl_calls_steps.proofs.OnlyReads.{same-nodes}
use Rattle.nl_calls_steps.proofs.ReadCores.{runs-then}
use Rattle.nl_calls_truncate.specs.Truncating.{CanCut, CanTruncate, IsCutInTree, IsUncut}
use Rattle.nl_calls_truncate.proofs.CutNodes.{file_goes}
use Rattle.nl_calls_truncate.proofs.CutPages.{partial_on}

pub some_on : {D : Type 0} (g : Ghosts D) (u v : Core D) (m : ℕ) → PreservesVolume g m u v → RepresentsSomeTree g u → RepresentsSomeTree g v
some_on g u v m goes runs = λ tells.
    let some = runs tells in
    let k = goes.runs tells some.0 some.1 some.2 in
    (k.pages, some.1, k.runs)

pub flight_on : {D : Type 0} (g : Ghosts D) (u v : Core D) → ReadsOn g u v → v.flight ≡ u.flight
flight_on {D} g u v on = ap (λ (x : Core D). x.flight) on.others

-- ---- what goes on after reads

module _ {D : Type 0} (g : Ghosts D) (u v w : Core D) (core : IsCore g u) (volume : IsVolumeShape (g.shape u.device)) (formed : g.formed v.device) (stores : g.tells → StoresPages g v.device) (on : ReadsOn g u v) where
  pub goes_read : (m : ℕ) → PreservesVolume g m v w → PreservesVolume g m u w
  goes_read m goes = goes_more g (0 + m) m u w (omega arith) (goes_then g u v w 0 m (reads_go g u v core volume formed stores on) goes)

  pub others_read : (worker : ℕ) → OtherLinesStay worker v.flight w.flight → OtherLinesStay worker u.flight w.flight
  others_read worker stay = others_then worker u.flight v.flight w.flight (others_same worker u.flight v.flight (flight_on g u v on)) stay

-- a truncate that could be made can be made after reads
pub can_on : {D : Type 0} (g : Ghosts D) (u v : Core D) (worker line : ℕ) → PreservesVolume g 0 u v → ReadsOn g u v → CanTruncate g u worker line → CanTruncate g v worker line
can_on {D} g u v worker line goes on can = record {
  writes = ap (λ (x : Core D). x.stopped) on.others ∙ can.writes;
  runs = some_on g u v 0 goes can.runs;
  known = can.known;
  some = can.some;
  none = ap (λ (f : List InFlight). of_worker f worker) (flight_on g u v on) ∙ can.none;
}

pub others_kept : (worker : ℕ) (old new : List InFlight) → map nameless_line new ≡ map nameless_line old → OtherLinesStay worker old new
others_kept worker old new same w far = same_line new old same w

-- ---- the page of the pointer, and room

-- there is no index behind the last one
pub no_range : (pages : VirtualMap) (rec : InodeRec) → IsFileRecord rec → (index : ℕ) → index ≡ 4104 → HasRange pages rec index
no_range pages rec file index last far =
    let many = (file-parts rec file).addresses in
    absurd (far (ap (address_of rec) last ∙ get_or_past rec.addresses 16 0 (omega (arith, many))))

one_at_most : (b : Bool) → cond {A = ℕ} b 0 1 ≤ 1
one_at_most true = omega arith
one_at_most false = omega arith

clean_one : (pages : Pages) (rec : InodeRec) (index : ℕ) → clean_of pages rec index ≤ 1
clean_one pages rec index = by (nat_lt index 8) (address_of rec index == 0)
  where
    by : (a b : Bool) → cond {A = ℕ} a 0 (cond b 1 (clean_at pages (address_of rec index))) ≤ 1
    by true b = omega arith
    by false true = omega arith
    by false false = one_at_most (is_dirty pages (address_of rec index))

pub room_for : (pages : Pages) (rec : InodeRec) (n index : ℕ) → length (besides_0 pages.dirty) + 4 ≤ most → HasRoomToTake pages rec n index
room_for pages rec n index few =
    let a = one_at_most (is_dirty pages (page_of_node n)) in
    let b = clean_one pages rec index in
    omega (arith, few, a, b)

-- ---- after reads

module _ {D : Type 0} (g : Ghosts D) (u v : Core D) (core : IsCore g u) (core_v : IsCore g v) (volume : IsVolumeShape (g.shape u.device)) (stores : g.tells → StoresPages g v.device) (on : ReadsOn g u v) (worker n size : ℕ) where
  pub partial_read : (can : CanCut g u worker n size) (rec : InodeRec) → IsFileOf g v.device v.meta n rec → HasPartial g v worker n size rec
  partial_read can rec file =
      let goes = reads_go g u v core volume core_v.formed stores on in
      let k = file_goes g 0 u v goes core core_v n can.rec can.file in
      subst (λ (r : InodeRec). HasPartial g v worker n size r) (same_rec (g.shape v.device) (running_of g v) n k.rec rec k.file.is_node file.is_node)
      (partial_on g u v goes.same_shape (flight_on g u v on) worker n size can.rec k can.partial)

  module _ (w : Core D) where
    pub cut_then : (can : CanCut g u worker n size) (was is : InodeRec) → CutsFileTo g worker n size was is v w → IsCutInTree g worker n size u w
    cut_then can was is cuts = record {
      steps = steps_then g u v w (read_alike g u v volume core_v.formed stores on).steps cuts.steps;
      flight = ap (λ (x : Core D). x.flight) cuts.others ∙ ap (λ (flight : List InFlight). with_line flight worker (begun 0)) (flight_on g u v on);
      cut = λ tells page_of_stamp tree path at leads.
          cuts.cut page_of_stamp tree path (runs-then g u v on tells page_of_stamp tree at).runs (ap (λ (graph : Graph). node_reached graph 0 path) (same-nodes g u v volume on) ∙ leads)
          (subst (λ (flight : List InFlight). AreCut page_of_stamp (content_of (node_at tree path)) size (of_worker flight worker).pages) (sym (flight_on g u v on)) (can.pages tells page_of_stamp tree path at leads));
    }

    pub uncut_then : IsUncut g v w → IsUncut g u w
    uncut_then uncut = record { goes = goes_then g u v w 0 0 (reads_go g u v core volume core_v.formed stores on) uncut.goes; flight = uncut.flight ∙ flight_on g u v on }

  pub uncut_read : IsUncut g u v
  uncut_read = record { goes = reads_go g u v core volume core_v.formed stores on; flight = flight_on g u v on }

-- ---- a cut that was refused

module _ {D : Type 0} (g : Ghosts D) (v w : Core D) (core : IsCore g v) (volume : IsVolumeShape (g.shape v.device)) (was is : InodeRec) (refused : RefusesCut g was is v w) where
  same_shape : g.shape w.device ≡ g.shape v.device
  same_shape = refused.steps.reads.medium.virtual.same_shape

  same_graph : nodes_of g w ≡ nodes_of g v
  same_graph = ap (λ (h : Shape). graph_of h (running_of g w)) same_shape ∙ graph-same (g.shape v.device) (bounds-of (g.shape v.device) volume) (running_of g v) (running_of g w) refused.reads.needed

  pub uncut_refused : IsUncut g v w
  uncut_refused = record {
    goes = step_goes g v w core volume refused.steps same_graph
        (λ page_of_stamp tree runs. subst (λ (h : Shape). RepresentsTree h (running_of g w) page_of_stamp tree) (sym same_shape) (runs_alike (g.shape v.device) (running_of g v) (running_of g w) page_of_stamp tree refused.reads.needed runs));
    flight = ap (λ (x : Core D). x.flight) refused.others;
  }

-- ---- either way

-- lines of others stay where the file is cut, and where it is not
pub others_either : {D : Type 0} (g : Ghosts D) (worker n size : ℕ) (v w : Core D) (r : Result ℕ Stop) → IfOk r (λ files. IsCutInTree g worker n size v w) → OnErr r (IsUncut g v w) → OtherLinesStay worker v.flight w.flight
others_either g worker n size v w (Ok files) cut uncut = λ u far. ap (λ (flight : List InFlight). nameless_line (of_worker flight u)) cut.flight ∙ ap nameless_line (get_or-set_other v.flight worker u (begun 0) (begun 0) far)
others_either g worker n size v w (Err s) cut uncut = others_same worker v.flight w.flight uncut.flight

pub err_weaker : {X : Type 0} (r : Result X Stop) (P Q : Type 0) → (P → Q) → OnErr r P → OnErr r Q
err_weaker (Ok x) P Q f h = tt
err_weaker (Err s) P Q f h = f h
