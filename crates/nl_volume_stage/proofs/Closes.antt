-- What closing a volume leaves.
use Rattle.std.proofs.Common.{◌≡◌, inl, inr, ⊎_elim, ℕ, ◌+◌, ◌<◌, ◌^◌, Bool, true, false, List, length, refl, sym, subst, ◌∙◌, arith}
use Rattle.std.specs.Prelude.{IsTrue}
use Rattle.std.proofs.lemmas.Bool.{cases_eq}
use Rattle.nl_field.specs.CrashStates.{Rose}
use Rattle.nl_field.specs.Medium.{shape_of_image}
use Rattle.nl_field.specs.Page.{Image, is_image}
use Rattle.nl_field.specs.declared.shape.Shape.{Shape}
use Rattle.nl_tree.specs.Causes.{FaultRose, WriteFailed}
use Rattle.nl_tree.specs.Tree.{Tree}
use Rattle.nl_iface.specs.Calls.{StoresMap, stored}
use Rattle.nl_iface.specs.Device.{IsVolumeShape}
use Rattle.nl_iface.specs.Stored.{Stored, stored_in}
use Rattle.nl_iface.specs.declared.counts.Counts.{Ghosts}
use Rattle.nl_spec_image.specs.Crash.{OpensAsPrefix, Run, CrashesSafely}
use Rattle.nl_spec_image.specs.CrashConsistency.{LeavesTree}
use Rattle.nl_spec_image.specs.Stands.{ConsistentAs}
use Rattle.nl_spec_image.proofs.CrashConsistencyProofs.{crash_leaves_consistent}
use Rattle.nl_journal_commit.proofs.Paid.{has_number}
use Rattle.nl_spec_commits.specs.Trees.{StoredOpensAs}
use Rattle.nl_core.specs.Calls.{CommitsAll}
use Rattle.nl_core.specs.Core.{IsCore, begun_of}
use Rattle.nl_core.specs.Goes.{PreservesVolume}
use Rattle.nl_core.specs.Trees.{CoreIsObservable}
use Rattle.nl_core.specs.declared.state.Core.{Core}
use Rattle.nl_core.proofs.Onward.{goes_more, goes_none}
use Rattle.nl_core.proofs.Standing.{stored_opens}
use Rattle.nl_spec_crashes.specs.Along.{FollowsRun, opens_as}
use Rattle.nl_spec_crashes.proofs.Along.{call_goes_along, ends_standing, opens_sound}
use Rattle.nl_turns.specs.History.{Opening, effects, opening_counts, tree_after}
use Rattle.nl_turns.specs.declared.entry.Entry.{Entry}
use Rattle.nl_calls_steps.specs.Calls.{counts_of}
use Rattle.nl_volume_stage.specs.Standing.{RepresentsHistory, run_of}
use Rattle.nl_volume_stage.specs.declared.closing.Last.{Last}
use Rattle.nl_volume_stage.specs.declared.closing.Last.TheVariants as last_is
use Rattle.nl_volume_stage.proofs.Histories.{calls_length}

-- ---- how the last commit ended

pub is_done : (r : Last) → (r ≡ last_is.Left → ⊥) → (r ≡ last_is.Lost → ⊥) → (r ≡ last_is.Fault → ⊥) → r ≡ last_is.Done
is_done last_is.Done left lost fault = refl
is_done last_is.Left left lost fault = absurd (left refl)
is_done last_is.Lost left lost fault = absurd (lost refl)
is_done last_is.Fault left lost fault = absurd (fault refl)

pub false_of : (b : Bool) → (b ≡ true → ⊥) → b ≡ false
false_of true off = absurd (off refl)
false_of false off = refl

-- ---- images

-- Where each image that is left is one of the volume, what opens as trees of the run is sound as them.
module _ {D : Type 0} (g : Ghosts D) (run : Run) (before left : ℕ → g.Crash → Type 0) (first last : ℕ) (image_of : g.Crash → Image) (holds : (c : g.Crash) → g.stored_of c ≡ stored_in (image_of c))
    (fits : (m : ℕ) (c : g.Crash) → left m c → IsTrue (is_image (image_of c)) × (run.shape ≡ shape_of_image (image_of c))) where
  sound_so : (m : ℕ) (c : g.Crash) → left m c → OpensAsPrefix (opens_as g run.shape) run m c → OpensAsPrefix (λ x count tree. ConsistentAs (image_of x) count tree) run m c
  sound_so m c is o =
      let fit = fits m c is in
      let k = opens_sound g run m c (image_of c) (holds c) fit.0 fit.1 o in
      record { prefix = k.prefix; holds_synced = k.holds_synced; not_beyond = k.not_beyond; sound = k.sound }

  pub sound_stops : CrashesSafely (opens_as g run.shape) before left first last run → CrashesSafely (λ x count tree. ConsistentAs (image_of x) count tree) before left first last run
  sound_stops s = record { each = λ m c is. ⊎_elim (λ was. inl was) (λ x. inr (x.0, x.1, sound_so m c is x.2)) (s.each m c is) }

pub sound_end : {D : Type 0} (g : Ghosts D) (shape : Shape) (s : D) (image : Image) (count : ℕ) (tree : Tree) → stored g s ≡ stored_in image → IsTrue (is_image image) → shape ≡ shape_of_image image
    → StoredOpensAs shape (stored g s) (count, tree) → ConsistentAs image count tree
sound_end g shape s image count tree holds whole same l =
    crash_leaves_consistent l.0 l.1 l.2 image count tree whole
    (subst (λ (h : Shape). LeavesTree h l.0 l.1 l.2 (stored_in image) count tree) same (subst (λ (k : Stored). LeavesTree shape l.0 l.1 l.2 k count tree) holds l.3))

-- ---- the last call of the core

-- none was made
pub goes_nowhere : {D : Type 0} (g : Ghosts D) (v : Core D) → IsCore g v → PreservesVolume g 512 v v
goes_nowhere g v core = goes_more g 0 512 v v (omega arith) (goes_none g v core)

module _ {D : Type 0} (g : Ghosts D) (origin : Core D) (o : Opening) (h : List Entry) (u last : Core D) (done : ℕ) (s : RepresentsHistory g origin o h u done) (goes : PreservesVolume g 512 u last) where
  along : FollowsRun g origin o.clock (run_of o h) last
  along = call_goes_along g 512 u last origin o.clock (run_of o h) goes s.serves.along

  pub shape_at_end : g.shape last.device ≡ o.shape
  shape_at_end = along.shape

  module _ (tells : g.tells) (moments : g.clock last.device < 2 ^ 63) (calls : o.count + effects h < 2 ^ 63) (numbers : begun_of origin + g.clock last.device + 1 < 2 ^ 63 + o.clock) where
    count_at_end : last.count ≡ o.count + effects h
    count_at_end =
        let is = along.count in
        let all = calls_length o h s.serves.known in
        omega (arith, is, all, calls)

    told : CoreIsObservable g last
    told = record {
      tells = tells;
      numbers = has_number origin.journal (length origin.meta.frozen.addresses) o.clock last.journal (length last.meta.frozen.addresses) (g.clock last.device) along.paid (omega (arith, moments)) numbers;
      calls = let is = count_at_end in omega (arith, is, calls);
      moments = moments;
    }

    pub closed_stops : CrashesSafely (opens_as g o.shape) (λ m c. g.left origin.device m c) (λ m c. g.left last.device m c) o.clock (g.clock last.device) (run_of o h)
    closed_stops = along.stops told

    pub closed_ends : IsCore g last → IsVolumeShape (g.shape last.device) → (g.tells → StoresMap g last.device) → last.stopped ≡ 0 → (number : ℕ) → CommitsAll g u last number
        → StoredOpensAs o.shape (stored g last.device) (o.count + effects h, tree_after o h)
    closed_ends core volume map writes number all =
        subst (λ k. StoredOpensAs o.shape (stored g last.device) (k, tree_after o h)) count_at_end
        (ends_standing g last origin o.clock (run_of o h) (stored_opens g last volume map core writes) along (all.committed ∙ sym goes.count) told)

  -- where no write failed in it, a volume that could be written to still can
  pub still_writes : u.stopped ≡ 0 → (Rose (g.write_faults u.device) (g.write_faults last.device) → ⊥) → last.stopped ≡ 0
  still_writes writes none = ⊎_elim (λ is. is) (λ off. absurd (none (goes.stops.some writes off).0)) (cases_eq last.stopped 0)

  -- where no operation failed since the opening, none failed in it, and the volume could be written to
  module _ (none : FaultRose (opening_counts o) (counts_of g last.device) → ⊥) where
    pub none_failed : FaultRose (counts_of g u.device) (counts_of g last.device) → ⊥
    none_failed (inl rose) = none (inl (let up = s.serves.since.read_faults in omega (arith, rose, up)))
    none_failed (inr rose) = none (inr (let up = s.serves.since.write_faults in omega (arith, rose, up)))

    failed_since : WriteFailed (opening_counts o) (counts_of g u.device) → ⊥
    failed_since (inl low) = none (inr (let up = goes.writes in omega (arith, low, up)))
    failed_since (inr end) = none (inr (let up = goes.writes in omega (arith, end, up)))

    pub could_write : u.stopped ≡ 0
    could_write = ⊎_elim (λ is. is) (λ off. absurd (failed_since (s.serves.read_only off).0)) (cases_eq u.stopped 0)
