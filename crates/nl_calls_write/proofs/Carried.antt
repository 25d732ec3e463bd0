-- What a call that writes needs of a core, after a part of it.
use Rattle.std.proofs.Common.{◌≡◌, ℕ, ◌<◌, ◌≤◌, List, length, Some, refl, sym, ap, subst, ◌∙◌, arith}
use Rattle.nl_field.specs.declared.inode.InodeRec.{InodeRec}
use Rattle.nl_tree.specs.declared.call.Call.{Call}
use Rattle.nl_flight.specs.Flight.{InFlight, of_worker}
use Rattle.nl_iface.specs.Calls.{StoresPages}
use Rattle.nl_iface.specs.Device.{IsVolumeShape}
use Rattle.nl_iface.specs.Names.{Names, place_of}
use Rattle.nl_iface.specs.declared.counts.Counts.{Ghosts}
use Rattle.nl_meta.proofs.Lists.{some_in}
use Rattle.nl_core.specs.Core.{IsCore}
use Rattle.nl_core.specs.Goes.{PreservesVolume}
use Rattle.nl_core.specs.Programming.{HasLineOrNone}
use Rattle.nl_core.specs.declared.state.Core.{Core}
use Rattle.nl_calls_files.specs.Fits.{IsFileOf}
use Rattle.nl_calls_steps.specs.Lines.{worker_pages}
use Rattle.nl_calls_steps.specs.Steps.{ReadsOn}
use Rattle.nl_calls_steps.specs.Calls.{OtherLinesStay, RepresentsSomeTree}
use Rattle.nl_calls_steps.specs.Finding.{IsOfGeneration}
use Rattle.nl_calls_steps.proofs.Going.{files_on, generation_on, others_same}
use Rattle.nl_calls_write.specs.Calls.{AreStaged, CanWriteLine}
use Rattle.nl_calls_bytes.specs.InFlight.{AreOfCall, AreWritten, HasAll}
use Rattle.nl_calls_write.specs.Lines.{IsLineOfCall, PutsOn, RepresentsWritten}
use Rattle.nl_calls_write.specs.Making.{content_at}
use Rattle.nl_calls_write.proofs.OnePage.{flight_same, reads_first}

-- ---- pages were read

module _ {D : Type 0} (g : Ghosts D) (u v : Core D) (core : IsCore g u) (volume : IsVolumeShape (g.shape v.device)) (formed : g.formed v.device) (stores : g.tells → StoresPages g v.device) (reads : ReadsOn g u v) where
  same_flight : v.flight ≡ u.flight
  same_flight = flight_same g u v core volume formed stores reads

  pub stopped_on : u.stopped ≡ 0 → v.stopped ≡ 0
  stopped_on e = ap (λ (x : Core D). x.stopped) reads.others ∙ e

  pub stamp_on : (n : ℕ) → g.next_stamp u.device < n → g.next_stamp v.device < n
  stamp_on n low = let same = reads.runs.reads.medium.next_stamp in omega (arith, same, low)

  pub runs_on : RepresentsSomeTree g u → RepresentsSomeTree g v
  runs_on runs = λ tells.
      let r = runs tells in
      let k = (reads_first g u v core volume formed stores reads).runs tells r.0 r.1 r.2 in
      (k.pages, r.1, k.runs)

  pub few_on : ((w : ℕ) → length (of_worker u.flight w).pages ≤ 16) → (w : ℕ) → length (of_worker v.flight w).pages ≤ 16
  few_on few = subst (λ (f : List InFlight). (w : ℕ) → length (of_worker f w).pages ≤ 16) (sym same_flight) few

  pub line_on : (worker line : ℕ) → HasLineOrNone u.flight worker line → HasLineOrNone v.flight worker line
  line_on worker line has = subst (λ (f : List InFlight). HasLineOrNone f worker line) (sym same_flight) has

  pub others_on : (worker : ℕ) → OtherLinesStay worker u.flight v.flight
  others_on worker = others_same worker u.flight v.flight same_flight

  pub staged_on : (worker : ℕ) (call : Call) → AreStaged g u call (worker_pages u worker) → AreStaged g v call (worker_pages v worker)
  staged_on worker call staged = subst (λ (f : List InFlight). AreStaged g v call (of_worker f worker).pages) (sym same_flight)
      (λ place page at.
      let s = staged place page at in
      let only = reads.runs.reads in
      record {
        index = s.index;
        tagged = s.tagged;
        whole = s.whole;
        given = λ tells.
            s.given tells
            ∙ ap (λ (names : Names). Some (g.bytes u.device (place_of names page.at))) (sym only.names)
            ∙ ap (λ (bytes : List ℕ). Some bytes) (sym (only.medium.bytes tells (place_of (g.names v.device) page.at)));
      })

  pub can_on : (worker line : ℕ) (call : Call) (files : ℕ) → CanWriteLine g u worker line call files → CanWriteLine g v worker line call files
  can_on worker line call files can = record {
    writes = stopped_on can.writes;
    runs = runs_on can.runs;
    known = can.known;
    some = can.some;
    has_line = line_on worker line can.has_line;
    files_are = files_on g 0 u v (reads_first g u v core volume formed stores reads) files can.files_are;
    staged = staged_on worker call can.staged;
    few = few_on can.few;
  }

-- ---- the lines are as before

module _ {D : Type 0} (g : Ghosts D) (m : ℕ) (u v : Core D) (a : PreservesVolume g m u v) (same : v.flight ≡ u.flight) (worker : ℕ) (call : Call) where
  pub written_on : RepresentsWritten g worker call u → RepresentsWritten g worker call v
  written_on written = λ tells.
      let r = written tells in
      let k = a.runs tells r.2.pages r.1 r.2.runs in (
        r.0,
        r.1,
        record {
          pages = k.pages;
          extends = λ stamp page is. k.extends stamp page (r.2.extends stamp page is);
          runs = k.runs;
          written = subst (λ (f : List InFlight). AreWritten k.pages (content_at r.1 call) call (of_worker f worker).pages) (sym same) (λ j p at. k.extends p.at.stamp _ (r.2.written j p at));
        },
      )

  pub all_on : HasAll call (worker_pages u worker) → HasAll call (worker_pages v worker)
  all_on all = subst (λ (f : List InFlight). HasAll call (of_worker f worker).pages) (sym same) all

  pub line_of_on : (n : ℕ) → IsLineOfCall g u n worker call → IsLineOfCall g v n worker call
  line_of_on n l =
      let k = generation_on g m u v a n l.0.generation (l.0, l.1, refl) in (
        k.0,
        k.1,
        subst (λ (generation : ℕ). AreOfCall n generation call (worker_pages v worker)) (sym k.2) (subst (λ (f : List InFlight). AreOfCall n l.0.generation call (of_worker f worker).pages) (sym same) l.2),
      )

-- a file has one record
pub of_record : {D : Type 0} (g : Ghosts D) (v : Core D) (n worker : ℕ) (call : Call) (rec : InodeRec) → IsLineOfCall g v n worker call → IsFileOf g v.device v.meta n rec → AreOfCall n rec.generation call (worker_pages v worker)
of_record g v n worker call rec l f = subst (λ (r : InodeRec). AreOfCall n r.generation call (worker_pages v worker)) (some_in l.0 rec (sym l.1.is_node.spelled ∙ f.is_node.spelled)) l.2

-- ---- pages were put

module _ {D : Type 0} (g : Ghosts D) (m worker : ℕ) (call : Call) (u v : Core D) (a : PutsOn g m worker call u v) where
  pub written_put : RepresentsWritten g worker call u → RepresentsWritten g worker call v
  written_put written = λ tells.
      let r = written tells in
      let k = a.written tells r.2.pages r.1 r.2.runs r.2.written in
      (r.0, r.1, record { pages = k.pages; extends = λ stamp page is. k.extends stamp page (r.2.extends stamp page is); runs = k.runs; written = k.written })

  pub line_put : (n generation : ℕ) → IsOfGeneration g u n generation → AreOfCall n generation call (worker_pages v worker) → IsLineOfCall g v n worker call
  line_put n generation f are =
      let k = generation_on g m u v a.goes n generation f in
      (k.0, k.1, subst (λ (x : ℕ). AreOfCall n x call (worker_pages v worker)) (sym k.2) are)
