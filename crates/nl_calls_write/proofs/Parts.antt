-- How a call that writes ends after a part that read, after pages were put, and after room was made.
use Rattle.std.proofs.Common.{◌≡◌, inr, ℕ, ◌+◌, ◌<◌, ◌≤◌, false, List, Some, Err, subst, arith}
use Rattle.nl_field.specs.Numbers.{max_file_size}
use Rattle.nl_tree.specs.Represents.{node_reached}
use Rattle.nl_tree.specs.Step.{is_too_long}
use Rattle.nl_tree.specs.declared.call.Call.{Call}
use Rattle.nl_tree.specs.declared.reply.Refusal.{Refusal}
use Rattle.nl_tree.specs.declared.reply.Refusal.TheVariants.{Efbig}
use Rattle.nl_iface.specs.Calls.{StoresPages}
use Rattle.nl_iface.specs.Device.{IsVolumeShape}
use Rattle.nl_iface.specs.declared.counts.Counts.{Ghosts}
use Rattle.nl_meta_running.specs.declared.answer.Stop.{Stop}
use Rattle.nl_meta_running.specs.declared.answer.Stop.TheVariants as stop
use Rattle.nl_core.specs.Core.{IsCore}
use Rattle.nl_core.specs.Goes.{PreservesVolume}
use Rattle.nl_core.specs.declared.state.Core.{Core}
use Rattle.nl_core.proofs.Onward.{goes_more, goes_none, goes_then}
use Rattle.nl_calls_steps.specs.Steps.{ReadsOn}
use Rattle.nl_calls_write.specs.Calls.{EndsWrite, ended_as}
use Rattle.nl_calls_write.specs.Fitting.{IsFitting}
use Rattle.nl_calls_bytes.specs.Laws.{LooksRefuseAll}
use Rattle.nl_calls_bytes.specs.Ranges.{IsWriting, from_of, len_of, path_of}
use Rattle.nl_calls_bytes.proofs.Stepped.{path-refuses}
use Rattle.nl_calls_write.specs.Lines.{KeepsLine, PutsOn}
use Rattle.nl_calls_write.specs.declared.answer.Fits.{Fits}
use Rattle.nl_calls_write.specs.declared.answer.Fits.TheVariants as fits
use Rattle.nl_calls_steps.specs.declared.answer.Found.TheVariants as found
use Rattle.nl_calls_steps.specs.declared.answer.Written.TheVariants as answer
use Rattle.nl_calls_steps.specs.Answers.{EndsEarly}
use Rattle.nl_calls_steps.specs.Calls.{HasPagesOfFiles, IfUndone, OtherLinesStay}
use Rattle.nl_calls_steps.specs.Finding.{IsFoundFile, IsSomeFile, nodes_of}
use Rattle.nl_calls_steps.specs.declared.answer.Written.{Written}
use Rattle.nl_calls_steps.proofs.Early.{within-early}
use Rattle.nl_calls_steps.proofs.Going.{files_on, others_none, others_then}
use Rattle.nl_calls_write.proofs.Answered.{refuses_far, refuses_room}
use Rattle.nl_calls_write.proofs.Carried.{others_on}
use Rattle.nl_calls_write.proofs.Ends.{ends_after, ends_early, ends_refused}
use Rattle.nl_calls_write.proofs.OnePage.{reads_first}

-- ---- pages were read

module _ {D : Type 0} (g : Ghosts D) (worker : ℕ) (call : Call) (u v : Core D) (core : IsCore g u) (volume : IsVolumeShape (g.shape v.device)) (formed : g.formed v.device) (stores : g.tells → StoresPages g v.device) (reads : ReadsOn g u v) (k : ℕ) where
  read_goes : PreservesVolume g k u v
  read_goes = goes_more g 0 k u v (omega arith) (reads_first g u v core volume formed stores reads)

  pub read_early : (s : Stop) → EndsEarly g u v (Some s) → EndsWrite g k worker call u v (ended_as (Err s))
  read_early s e = ends_early g k worker call u v s read_goes (others_on g u v core volume formed stores reads worker) e

  pub read_then : (n : ℕ) → n ≤ k → (w : Core D) (a : Written) → EndsWrite g n worker call v w a → EndsWrite g k worker call u w a
  read_then n few w a e = ends_after g 0 worker call u v (reads_first g u v core volume formed stores reads) (others_on g u v core volume formed stores reads worker) w n k (omega (arith, few)) a e

  -- there is no file at the path
  pub path_refused : IsWriting call → (refusal : Refusal) (path : List (List ℕ)) → path ≡ path_of call → IsFoundFile g u path (found.No refusal) → EndsWrite g k worker call u v (answer.No refusal)
  path_refused writing refusal path same at = ends_refused g k worker call u v refusal read_goes (others_on g u v core volume formed stores reads worker)
      (λ tells page_of_stamp tree runs.
      path-refuses (g.shape u.device) tree call writing refusal (subst (λ (p : List (List ℕ)). IsFoundFile g u p (found.No refusal)) same at page_of_stamp tree runs.runs))

  -- there is no room for the bytes of the call
  module _ (after : IsCore g v) (n files : ℕ) (writing : IsWriting call) (short : is_too_long (path_of call) ≡ false) (leads : node_reached (nodes_of g v) 0 (path_of call) ≡ Some n) (looks : LooksRefuseAll)
      (some : 0 < len_of call) (within : from_of call + len_of call ≤ 16809984) (count : HasPagesOfFiles g v files) where
    pub room_refused : (refusal : Refusal) → IsFitting g v n (from_of call) (len_of call) files (fits.No refusal) → EndsWrite g k worker call u v (answer.No refusal)
    room_refused refusal f = read_then 0 (omega arith) v (answer.No refusal)
        (ends_refused g 0 worker call v v refusal (goes_none g v after) (others_none worker v.flight)
        (λ tells page_of_stamp tree at. refuses_room g v after n f.0 f.1 call writing short leads looks page_of_stamp tree at some within files count refusal f.2))

-- the call ends too far
pub far_refused : {D : Type 0} (g : Ghosts D) (k worker n : ℕ) (call : Call) (u : Core D) → IsCore g u → IsWriting call → is_too_long (path_of call) ≡ false → node_reached (nodes_of g u) 0 (path_of call) ≡ Some n
    → IsSomeFile g u n → LooksRefuseAll → 0 < len_of call → max_file_size < from_of call + len_of call → EndsWrite g k worker call u u (answer.No Efbig)
far_refused g k worker n call u core writing short leads f looks some far =
    ends_refused g k worker call u u Efbig (goes_more g 0 k u u (omega arith) (goes_none g u core)) (others_none worker u.flight)
    (λ tells page_of_stamp tree at. refuses_far g u core n f.0 f.1 call writing short leads looks page_of_stamp tree at some far)

-- ---- a part went on

module _ {D : Type 0} (g : Ghosts D) (m worker : ℕ) (call : Call) (u v : Core D) (a : PreservesVolume g m u v) (stay : OtherLinesStay worker u.flight v.flight) where
  pub part_early : (k : ℕ) → m ≤ k → (s : Stop) → EndsEarly g u v (Some s) → EndsWrite g k worker call u v (ended_as (Err s))
  part_early k few s e = ends_early g k worker call u v s (goes_more g m k u v few a) stay e

  -- a write failed in it
  pub part_stopped : (k : ℕ) → m ≤ k → u.stopped ≡ 0 → (v.stopped ≡ 0 → ⊥) → EndsWrite g k worker call u v answer.Fault
  part_stopped k few ran off = part_early k few stop.Fault (inr (a.stops.some ran off).0)

-- the line was kept, and pages were put
module _ {D : Type 0} (g : Ghosts D) (m n generation worker line : ℕ) (call : Call) (u v w : Core D) (keeps : KeepsLine g n generation worker line call u v) (puts : PutsOn g m worker call v w) where
  pub put_goes : PreservesVolume g m u w
  put_goes = goes_more g (0 + m) m u w (omega arith) (goes_then g u v w 0 m keeps.goes puts.goes)

  pub put_others : OtherLinesStay worker u.flight w.flight
  put_others = others_then worker u.flight v.flight w.flight keeps.others puts.others

  pub put_early : (s : Stop) → EndsEarly g v w (Some s) → EndsEarly g u w (Some s)
  put_early s e = within-early g u v w w (Some s) keeps.goes.reads keeps.goes.writes (omega arith) (omega arith) e

-- more write sequence numbers may be taken
pub ends_more : {D : Type 0} (g : Ghosts D) (n k worker : ℕ) (call : Call) (u w : Core D) (a : Written) → IsCore g u → n ≤ k → EndsWrite g n worker call u w a → EndsWrite g k worker call u w a
ends_more g n k worker call u w a core few e = ends_after g 0 worker call u u (goes_none g u core) (others_none worker u.flight) w n k (omega (arith, few)) a e

-- but for a call that is done, files have as many pages as before
pub undone_files : {D : Type 0} (g : Ghosts D) (k files : ℕ) (u v : Core D) (a : Written) → HasPagesOfFiles g u files → IfUndone a (PreservesVolume g k u v) → IfUndone a (HasPagesOfFiles g v files)
undone_files g k files u v (answer.Done now) count goes = tt
undone_files g k files u v (answer.No refusal) count goes = files_on g k u v goes files count
undone_files g k files u v (answer.Lost w f) count goes = files_on g k u v goes files count
undone_files g k files u v answer.Fault count goes = files_on g k u v goes files count

-- the range of a call, by other names
pub fitting_of : {D : Type 0} (g : Ghosts D) (v : Core D) (n files from len start count : ℕ) (a : Fits) → from ≡ start → len ≡ count → IsFitting g v n from len files a → IsFitting g v n start count files a
fitting_of g v n files from len start count a e f h = subst (λ (x : ℕ). IsFitting g v n x count files a) e (subst (λ (y : ℕ). IsFitting g v n from y files a) f h)
