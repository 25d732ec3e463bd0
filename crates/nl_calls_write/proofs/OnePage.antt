-- A page that is put in flight for a call that writes.
use Rattle.std.proofs.Common.{◌≡◌, ◌≢◌, ◌⊎◌, inl, inr, ℕ, ◌+◌, ◌<◌, ◌≤◌, ◌^◌, true, false, List, [], ◌∷◌, ◌++◌, length, map, Some, refl, sym, ap, subst, ◌∙◌, arith}
use Rattle.std.proofs.lemmas.Bool.{and_parts, cases_lt, leb-true}
use Rattle.std.specs.Prelude.{OnOk, Result, Ok, Err}
use Rattle.nl_field.specs.declared.pointer.Tag.{Tag}
use Rattle.nl_tree.specs.Represents.{node_reached}
use Rattle.nl_tree.specs.declared.call.Call.{Call}
use Rattle.nl_core_callbacks.specs.Handled.{nameless_line}
use Rattle.nl_flight.specs.Flight.{InFlight, of_worker}
use Rattle.nl_flight.specs.declared.page.FlightPage.{FlightPage}
use Rattle.nl_iface.specs.Calls.{StoresPages}
use Rattle.nl_iface.specs.Device.{IsVolumeShape}
use Rattle.nl_iface.specs.declared.counts.Counts.{Ghosts}
use Rattle.nl_core.specs.Calls.{KeepsLines}
use Rattle.nl_core.specs.Core.{IsCore}
use Rattle.nl_core.specs.Goes.{PreservesVolume}
use Rattle.nl_core.specs.Programming.{HasLineOrNone, PutsInFlight, last_stamp, with_page}
use Rattle.nl_core.specs.declared.state.Core.{Core}
use Rattle.nl_core.proofs.Onward.{goes_more, goes_none, goes_then}
use Rattle.nl_calls_bytes.specs.InFlight.{AreOfCall, AreWritten, is_flying}
use Rattle.nl_calls_files.proofs.LinePages.{bare}
use Rattle.nl_calls_bytes.proofs.Flying.{flying_first, flying_last, flying_same, of_call_more, of_call_same, written_more, written_same}
use Rattle.nl_calls_bytes.specs.Ranges.{is_written, path_of}
use Rattle.nl_calls_steps.specs.Lines.{worker_pages}
use Rattle.nl_calls_steps.specs.Steps.{ReadsOn}
use Rattle.nl_calls_steps.specs.Finding.{nodes_of}
use Rattle.nl_calls_steps.specs.Calls.{OtherLinesStay}
use Rattle.nl_calls_steps.proofs.WorkerLines.{line_put, line_same, others_put, pages_put, same_count, same_line, same_pages}
use Rattle.nl_calls_steps.proofs.Going.{others_none, others_same, others_then}
use Rattle.nl_calls_steps.proofs.LeavesTree.{reads_go}
use Rattle.nl_calls_write.specs.Lines.{AddsFlightPage, HasIndex, PutsOn}
use Rattle.nl_calls_write.specs.Making.{MakesPage, content_at}

-- ---- parts one after the other

pub puts_none : {D : Type 0} (g : Ghosts D) (m worker : ℕ) (call : Call) (u : Core D) → IsCore g u → PutsOn g m worker call u u
puts_none g m worker call u core = record {
  goes = goes_more g 0 m u u (omega arith) (goes_none g u core);
  written = λ tells page_of_stamp tree at h. record { pages = page_of_stamp; extends = λ stamp page is. is; runs = at; written = h };
  others = others_none worker u.flight;
}

pub puts_then : {D : Type 0} (g : Ghosts D) (m n k worker : ℕ) (call : Call) (u v w : Core D) → m + n ≤ k → PutsOn g m worker call u v → PutsOn g n worker call v w → PutsOn g k worker call u w
puts_then g m n k worker call u v w few a b = record {
  goes = goes_more g (m + n) k u w few (goes_then g u v w m n a.goes b.goes);
  written = λ tells page_of_stamp tree at h.
      let one = a.written tells page_of_stamp tree at h in
      let two = b.written tells one.pages tree one.runs one.written in
      record { pages = two.pages; extends = λ stamp page is. two.extends stamp page (one.extends stamp page is); runs = two.runs; written = two.written };
  others = others_then worker u.flight v.flight w.flight a.others b.others;
}

pub puts_more : {D : Type 0} (g : Ghosts D) (m k worker : ℕ) (call : Call) (u v : Core D) → m ≤ k → PutsOn g m worker call u v → PutsOn g k worker call u v
puts_more g m k worker call u v few a = record { goes = goes_more g m k u v few a.goes; written = a.written; others = a.others }

-- ---- one page

-- where pages were only read, the volume still takes one
pub not_stopped : {D : Type 0} (g : Ghosts D) (u v : Core D) → ReadsOn g u v → u.stopped ≡ 0 → g.next_stamp u.device < last_stamp → (v.stopped ≢ 0) ⊎ (last_stamp ≤ g.next_stamp v.device) → ⊥
not_stopped {D = D} g u v reads none low (inl off) = off (ap (λ (x : Core D). x.stopped) reads.others ∙ none)
not_stopped g u v reads none low (inr high) = let same = reads.runs.reads.medium.next_stamp in omega (arith, high, same, low)

module _ {D : Type 0} (g : Ghosts D) (u v : Core D) (core : IsCore g u) (volume : IsVolumeShape (g.shape v.device)) (formed : g.formed v.device) (stores : g.tells → StoresPages g v.device) (reads : ReadsOn g u v) where
  pub reads_first : PreservesVolume g 0 u v
  reads_first = reads_go g u v core (subst IsVolumeShape reads.runs.reads.medium.virtual.same_shape volume) formed stores reads

  pub flight_same : v.flight ≡ u.flight
  flight_same = ap (λ (x : Core D). x.flight) reads.others

  -- none was programmed
  pub puts_read : (worker : ℕ) (call : Call) → PutsOn g (2 ^ 30) worker call u v
  puts_read worker call = record {
    goes = goes_more g 0 (2 ^ 30) u v (omega arith) reads_first;
    written = λ tells page_of_stamp tree at h.
        let on = reads_first.runs tells page_of_stamp tree at in
        record {
          pages = on.pages;
          extends = on.extends;
          runs = on.runs;
          written = subst (λ (f : List InFlight). AreWritten on.pages (content_at tree call) call (of_worker f worker).pages) (sym flight_same) (λ j p is. on.extends p.at.stamp _ (h j p is));
        };
    others = others_same worker u.flight v.flight flight_same;
  }

  module _ (worker : ℕ) (call : Call) (w : Core D) (goes : PreservesVolume g (2 ^ 30) v w) where
    pub all_goes : PreservesVolume g (2 ^ 30) u w
    all_goes = goes_more g (0 + 2 ^ 30) (2 ^ 30) u w (omega arith) (goes_then g u v w 0 (2 ^ 30) reads_first goes)

    pub kept_lines : KeepsLines v w → KeepsLines u w
    kept_lines k = k ∙ ap (λ (f : List InFlight). map nameless_line f) flight_same

    -- none was put
    pub puts_no_page : KeepsLines v w → PutsOn g (2 ^ 30) worker call u w
    puts_no_page k =
        let lines : map nameless_line w.flight ≡ map nameless_line u.flight = kept_lines k in
        record {
          goes = all_goes;
          written = λ tells page_of_stamp tree at h.
              let on = all_goes.runs tells page_of_stamp tree at in
              record {
                pages = on.pages;
                extends = on.extends;
                runs = on.runs;
                written = written_same (worker_pages w worker) (worker_pages u worker) (same_pages (of_worker w.flight worker) (of_worker u.flight worker) (same_line w.flight u.flight lines worker)) on.pages (content_at tree call) call
                    (λ j p is. on.extends p.at.stamp _ (h j p is));
              };
          others = λ x far. same_line w.flight u.flight lines x;
        }

    -- one was
    module _ (line : ℕ) (tag : Tag) (main : List ℕ) (known : worker < 8) (p : PutsInFlight g worker line tag main v w) where
      lines : map nameless_line w.flight ≡ map nameless_line (with_page u.flight worker line tag p.at)
      lines = p.flight ∙ ap (λ (f : List InFlight). map nameless_line (with_page f worker line tag p.at)) flight_same

      alike : map bare (worker_pages w worker) ≡ map bare (worker_pages u worker ++ record { index = tag.index; at = p.at; tag = tag } ∷ [])
      alike =
          same_pages (of_worker w.flight worker) (of_worker (with_page u.flight worker line tag p.at) worker) (same_line w.flight (with_page u.flight worker line tag p.at) lines worker)
          ∙ ap (λ (ps : List FlightPage). map bare ps) (pages_put u.flight worker line tag p.at core.flight known)

      pub puts_page : MakesPage g u tag.ino call tag.index main → node_reached (nodes_of g u) 0 (path_of call) ≡ Some tag.ino → PutsOn g (2 ^ 30) worker call u w
      puts_page made leads = record {
        goes = all_goes;
        written = λ tells page_of_stamp tree at h.
            let on = all_goes.runs tells page_of_stamp tree at in
            record {
              pages = on.pages;
              extends = on.extends;
              runs = on.runs;
              written = written_same (worker_pages w worker) (worker_pages u worker ++ record { index = tag.index; at = p.at; tag = tag } ∷ []) alike on.pages (content_at tree call) call
                  (written_more 0 0 call (worker_pages u worker) (record { index = tag.index; at = p.at; tag = tag }) on.pages (content_at tree call) (λ j q is. on.extends q.at.stamp _ (h j q is))
                  (on.runs.shows p.at.name (record { tag = tag; stamp = p.at.stamp }) p.is_live
                  ∙ ap (λ (bytes : List ℕ). Some (record { tag = tag; bytes = bytes })) (p.bytes tells ∙ made tells page_of_stamp tree at leads)));
            };
        others = λ x far. same_line w.flight (with_page u.flight worker line tag p.at) lines x ∙ ap nameless_line (others_put u.flight worker line tag p.at core.flight known x far);
      }

      pub adds_page : IsCore g w → AddsFlightPage worker line tag u w
      adds_page after = record { at = p.at; flight = lines; stamp = leb-true 1 p.at.stamp (and_parts _ _ (after.stamped (tag, p.at) p.is_in_flight)).0 }

-- ---- with it the index is in flight

module _ {D : Type 0} (g : Ghosts D) (worker line : ℕ) (tag : Tag) (call : Call) (u w : Core D) (core : IsCore g u) (known : worker < 8) (a : AddsFlightPage worker line tag u w) where
  added_alike : map bare (worker_pages w worker) ≡ map bare (worker_pages u worker ++ record { index = tag.index; at = a.at; tag = tag } ∷ [])
  added_alike =
      same_pages (of_worker w.flight worker) (of_worker (with_page u.flight worker line tag a.at) worker) (same_line w.flight (with_page u.flight worker line tag a.at) a.flight worker)
      ∙ ap (λ (ps : List FlightPage). map bare ps) (pages_put u.flight worker line tag a.at core.flight known)

  pub has_index : AreOfCall tag.ino tag.generation call (worker_pages u worker) → is_flying (worker_pages u worker) tag.index ≡ false → is_written call tag.index ≡ true → HasLineOrNone u.flight worker line
      → HasIndex tag.ino tag.generation worker line call tag.index u w
  has_index pages far written has =
      let x : FlightPage = record { index = tag.index; at = a.at; tag = tag } in
      let one : List FlightPage = worker_pages u worker ++ x ∷ [] in
      record {
        pages = of_call_same (worker_pages w worker) one added_alike tag.ino tag.generation call
            (of_call_more tag.ino tag.generation call (worker_pages u worker) x pages refl written a.stamp far);
        here = flying_same (worker_pages w worker) one added_alike tag.index ∙ flying_last (worker_pages u worker) x tag.index refl;
        stay = λ i is. flying_same (worker_pages w worker) one added_alike i ∙ flying_first (worker_pages u worker) x i is;
        has_line = line_same w.flight (with_page u.flight worker line tag a.at) worker line a.flight (line_put u.flight worker line tag a.at core.flight known has);
      }

-- ---- answers

pub on_ok : {X E P Q : Type 0} → (r : Result X E) → (P → Q) → OnOk r P → OnOk r Q
on_ok (Ok x) f h = f h
on_ok (Err e) f h = tt

-- no page is in flight for the index yet, or one is
pub index_here : {D : Type 0} (n generation worker line : ℕ) (call : Call) (i : ℕ) (u : Core D) → AreOfCall n generation call (worker_pages u worker) → is_flying (worker_pages u worker) i ≡ true → HasLineOrNone u.flight worker line
    → HasIndex n generation worker line call i u u
index_here n generation worker line call i u pages here has = record { pages = pages; here = here; stay = λ j is. is; has_line = has }

-- ---- from index to index

pub others_few : (worker : ℕ) (a b : List InFlight) → OtherLinesStay worker a b → ((w : ℕ) → length (of_worker a w).pages ≤ 16) → (w : ℕ) → w ≢ worker → length (of_worker b w).pages ≤ 16
others_few worker a b stay few = λ w far. let same = same_count (of_worker b w) (of_worker a w) (stay w far) in let most = few w in omega (arith, same, most)

pub flying_more : {D : Type 0} (n generation worker line : ℕ) (call : Call) (first index : ℕ) (u w : Core D) → HasIndex n generation worker line call index u w → ((i : ℕ) → first ≤ i → i < index → is_flying (worker_pages u worker) i ≡ true)
    → (i : ℕ) → first ≤ i → i < index + 1 → is_flying (worker_pages w worker) i ≡ true
flying_more n generation worker line call first index u w h before i low high = by (cases_lt i index)
  where
    by : (i < index) ⊎ (index ≤ i) → is_flying (worker_pages w worker) i ≡ true
    by (inl less) = h.stay i (before i low less)
    by (inr more) = subst (λ (j : ℕ). is_flying (worker_pages w worker) j ≡ true) (let e : index ≡ i = omega (arith, high, more) in e) h.here
