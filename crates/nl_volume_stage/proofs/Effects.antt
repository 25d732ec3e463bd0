-- A volume goes on to serve as a call takes effect.
use Rattle.std.proofs.Common.{◌≡◌, ◌≢◌, ◌⊎◌, inl, inr, eq-eqb, ne_eqb, ⊎_elim, ℕ, ◌+◌, ◌≤◌, take, true, false, cond, ◌&&◌, List, [], ◌∷◌, ◌++◌, length, Option, Some, None, refl, sym, ap, subst, ◌∙◌, arith}
use Rattle.std.specs.Prelude.{IfSome, is_none, is_some}
use Rattle.std.proofs.lemmas.Bool.{cases_eq}
use Rattle.nl_flight.specs.Flight.{of_worker}
use Rattle.std.proofs.lemmas.List.{append-nil}
use Rattle.nl_field.specs.CrashStates.{saturated, top}
use Rattle.nl_field.specs.declared.shape.Shape.{Shape}
use Rattle.nl_tree.specs.Causes.{HasCause, IsSumSince, NeverFall}
use Rattle.nl_tree.specs.Order.{SyncPoint}
use Rattle.nl_tree.specs.Replay.{step_marked}
use Rattle.nl_tree.specs.Step.{Outcome, effect_of, outcome_unless, step}
use Rattle.nl_tree.specs.Tree.{Tree}
use Rattle.nl_tree.specs.declared.call.Call.{Call}
use Rattle.nl_tree.specs.declared.call.Call.TheVariants.{Sync}
use Rattle.nl_tree.specs.declared.reply.FaultReply.{FaultReply}
use Rattle.nl_tree.specs.declared.reply.Refusal.{Refusal}
use Rattle.nl_tree.proofs.FaultProofs.{fault_laws}
use Rattle.nl_iface.specs.Device.{IsVolumeShape}
use Rattle.nl_iface.specs.declared.counts.Counts.{Ghosts}
use Rattle.nl_meta.proofs.PageProofs.{none as changes_none}
use Rattle.nl_meta_running.proofs.Holds.{reads-none}
use Rattle.nl_spec_image.specs.Crash.{Run, with_call, with_sync}
use Rattle.nl_spec_commits.specs.Trees.{RepresentsTree}
use Rattle.nl_core.specs.Core.{IsCore, running_of}
use Rattle.nl_core.specs.Units.{goal_of, goal_or}
use Rattle.nl_core.specs.declared.state.Core.{Core}
use Rattle.nl_calls_steps.specs.Steps.{Steps}
use Rattle.nl_spec_crashes.specs.Along.{FollowsRun}
use Rattle.nl_calls_steps.specs.Calls.{MakesTree, counts_of}
use Rattle.nl_core.specs.Calls.{counted}
use Rattle.nl_core.proofs.Counted.{counted_core}
use Rattle.nl_spec_crashes.proofs.Along.{effect_goes_along, sync_goes_along}
use Rattle.nl_spec_crashes.proofs.Effects.{step_takes_effect}
use Rattle.nl_turns.specs.History.{IsKnown, IsSyncInRange, Opening, begun_at, call_at, call_of, effects, fault_of, is_effect, is_sync, marked_calls, opening_counts, sync_of, syncs_of}
use Rattle.nl_turns.specs.declared.entry.Entry.{Entry}
use Rattle.nl_turns.specs.declared.entry.SyncMark.{SyncMark}
use Rattle.nl_turns.specs.declared.entry.SyncMark.TheVariants.{NoSync, At}
use Rattle.nl_volume_stage.specs.Standing.{FaultReplyHasCause, IsGoal, IsSinceOpening, MomentsRise, RepresentsHistory, Serves, run_of}
use Rattle.nl_volume_stage.proofs.Causes.{later_then, still_cause, still_failed}
use Rattle.nl_volume_stage.specs.Turns.{PreservesCore}
use Rattle.nl_volume_stage.proofs.Histories.{begun_is, calls_length, calls_more, effects_more, effects_within, has_or_last, last_in_range, no_sync, one_call, one_sync, pairs_more, syncs_in_range, syncs_more}
use Rattle.nl_volume_stage.proofs.Standing.{calls_serve}

-- ---- no step, and no change of the tree

steps_none : {D : Type 0} (g : Ghosts D) (v : Core D) → Steps g v v
steps_none g v = record { reads = reads-none g v.device; read_faults = omega arith; pages = changes_none v.meta; room = omega arith; others = refl }

unless_leaves : (tree : Tree) (outcome : Outcome) (r : Option Refusal) → outcome.tree ≡ tree → (outcome_unless tree outcome r).tree ≡ tree
unless_leaves tree outcome None same = same
unless_leaves tree outcome (Some refusal) same = refl

sync_leaves : (shape : Shape) (tree : Tree) (f : Option FaultReply) → (step_marked shape tree (Sync, f)).tree ≡ tree
unfolding step effect_of
sync_leaves shape tree (Some fault) = refl
sync_leaves shape tree None = unless_leaves tree (effect_of tree Sync) _ refl

-- ---- one effect more

module _ {D : Type 0} (g : Ghosts D) (origin : Core D) (o : Opening) (h : List Entry) (u w : Core D) (done : ℕ) (e : Entry) (call : Call)
    (s : Serves g origin o h u done) (core : IsCore g w) (step : Steps g u w) (effect : is_effect e ≡ true) (at : call_at o.lines e.line ≡ Some call)
    (cause : IfSome (fault_of e.fault) (HasCause g.tells (opening_counts o) (counts_of g w.device) o.next_stamp call)) (most : (g.clock w.device ≤ top) × (g.write_faults w.device ≤ top)) where
  clock : g.clock w.device ≡ g.clock u.device
  clock = step.reads.medium.clock

  writes : g.write_faults w.device ≡ g.write_faults u.device
  writes = step.reads.medium.write_faults

  later : NeverFall (counts_of g u.device) (counts_of g w.device)
  later = record { clock = let c = clock in omega (arith, c); read_faults = step.read_faults; write_faults = let n = writes in omega (arith, n) }

  same_stopped : w.stopped ≡ u.stopped
  same_stopped = ap (λ (x : Core D). x.stopped) step.others

  same_moment : w.moment ≡ u.moment
  same_moment = ap (λ (x : Core D). x.moment) step.others

  same_committed : w.committed ≡ u.committed
  same_committed = ap (λ (x : Core D). x.committed) step.others

  call_is : call_of o e ≡ Some call
  call_is = ap (λ b. cond b (call_at o.lines e.line) None) effect ∙ at

  more_effects : effects (h ++ e ∷ []) ≡ effects h + 1
  more_effects = effects_more h e ∙ ap (λ b. effects h + cond b 1 0) effect

  mark_on : (x : Entry) (f : Option FaultReply) → IfSome f (FaultReplyHasCause g.tells o (counts_of g u.device) x) → IfSome f (FaultReplyHasCause g.tells o (counts_of g w.device) x)
  mark_on x None is = is
  mark_on x (Some fault) is = (is.0, is.1, still_cause (opening_counts o) (counts_of g u.device) (counts_of g w.device) later s.since most.1 most.0 g.tells o.next_stamp is.0 fault is.2)

  mark_new : (f : Option FaultReply) → IfSome f (HasCause g.tells (opening_counts o) (counts_of g w.device) o.next_stamp call) → IfSome f (FaultReplyHasCause g.tells o (counts_of g w.device) e)
  mark_new None is = is
  mark_new (Some fault) is = (call, call_is, is)

  -- with what the run and its syncs are then
  one_more : IsKnown o e → FollowsRun g origin o.clock (run_of o (h ++ e ∷ [])) (counted w) → IfSome (sync_of e.synced) (λ x. IsSyncInRange o (h ++ e ∷ []) (length h) e.line x)
      → MomentsRise o (syncs_of (h ++ e ∷ [])) w.committed w.moment (g.clock w.device) → Serves g origin o (h ++ e ∷ []) (counted w) (saturated (done + 1))
  one_more known along range moments = record {
    few = s.few;
    lines = s.lines;
    core = counted_core g w core;
    known = λ x has. ⊎_elim (s.known x) (λ is. subst (IsKnown o) is known) (has_or_last h e x has);
    along = along;
    effects = let was = s.effects in let more = more_effects in omega (arith, was, more);
    since = later_then (opening_counts o) (counts_of g u.device) (counts_of g w.device) s.since later;
    next_stamp = λ low less. let c = clock in let n = writes in let same = step.reads.medium.next_stamp in let was = s.next_stamp (omega (arith, low, c)) (omega (arith, less, n)) in omega (arith, was, same, c, n);
    stamps_rise = let was = s.stamps_rise in let same = step.reads.medium.next_stamp in omega (arith, was, same);
    read_only = λ now.
        let r = s.read_only (λ none. now (same_stopped ∙ none)) in (
          still_failed (opening_counts o) (counts_of g u.device) (counts_of g w.device) later s.since most.1 r.0,
          subst (IsSumSince (opening_counts o) (counts_of g w.device)) (sym same_stopped) (fault_laws.stays (opening_counts o) (counts_of g u.device) (counts_of g w.device) u.stopped r.1 later),
        );
    marks = λ x has. ⊎_elim (λ was. mark_on x (fault_of x.fault) (s.marks x was))
        (λ is. subst (λ (y : Entry). IfSome (fault_of y.fault) (FaultReplyHasCause g.tells o (counts_of g w.device) y)) is (mark_new (fault_of e.fault) cause))
        (has_or_last h e x has);
    syncs = syncs_in_range o h e s.syncs range;
    moments = moments;
  }

  -- ---- a step that takes effect

  module _ (volume : IsVolumeShape (g.shape u.device)) (makes : MakesTree g u w (call, fault_of e.fault)) (unsynced : e.synced ≡ NoSync) (none_due : (is_sync (Some call) && is_none (fault_of e.fault)) ≡ false) where
    run_is : run_of o (h ++ e ∷ []) ≡ with_call (run_of o h) (call, fault_of e.fault)
    run_is =
        let calls = calls_more o h e ∙ ap (λ xs. marked_calls o h ++ xs) (one_call o e call effect at) in
        let syncs = syncs_more h e ∙ (ap (λ xs. syncs_of h ++ xs) (no_sync e unsynced) ∙ append-nil (syncs_of h)) in
        λ i. record { shape = o.shape; count = o.count; tree = o.tree; calls = calls i; syncs = syncs i }

    known_effect : IsKnown o e
    known_effect = record {
      has_call = λ is. ap is_some call_is;
      has_sync = ap (λ (m : SyncMark). is_some (sync_of m)) unsynced ∙ sym (ap (λ (c : Option Call). is_sync c && is_none (fault_of e.fault)) call_is ∙ none_due);
    }

    moments_on : MomentsRise o (syncs_of h) w.committed w.moment (g.clock w.device)
    moments_on =
        let m = s.moments in
        let same = same_moment in
        let c = clock in
        record {
          begins = let one = m.begins in omega (arith, one, same);
          ends = let one = m.ends in omega (arith, one, same, c);
          since = subst (λ n. IsSinceOpening o n w.committed) (sym same_moment) (subst (λ n. IsSinceOpening o u.moment n) (sym same_committed) m.since);
          not_below = let one = m.not_below in let count = same_committed in omega (arith, one, count);
          rising = m.rising;
          within = λ x has. let k = m.within x has in (k.0, k.1, let two = k.2 in omega (arith, two, same));
        }

    pub effect_serves : Serves g origin o (h ++ e ∷ []) (counted w) (saturated (done + 1))
    effect_serves = one_more known_effect
        (subst (λ (r : Run). FollowsRun g origin o.clock r (counted w)) (sym run_is) (effect_goes_along g u (counted w) (call, fault_of e.fault) origin o.clock (run_of o h) (step_takes_effect g u w (call, fault_of e.fault) volume s.core step makes) s.along))
        (subst (λ (m : SyncMark). IfSome (sync_of m) (λ x. IsSyncInRange o (h ++ e ∷ []) (length h) e.line x)) (sym unsynced) tt)
        (subst (λ xs. MomentsRise o xs w.committed w.moment (g.clock w.device)) (ap (λ (r : Run). r.syncs) (sym run_is)) moments_on)

-- ---- a sync

-- the calls so far are those of the history
pub count_so_far : {D : Type 0} (g : Ghosts D) (origin : Core D) (o : Opening) (h : List Entry) (u : Core D) (done : ℕ) → Serves g origin o h u done → u.count ≡ saturated (o.count + effects h)
count_so_far g origin o h u done s = s.along.count ∙ ap (λ n. saturated (o.count + n)) (calls_length o h s.known)

-- The goal of a sync is at least the calls that had their effects as its line began.
module _ {D : Type 0} (g : Ghosts D) (origin : Core D) (o : Opening) (h : List Entry) (u : Core D) (done worker : ℕ) (e : Entry) (s : RepresentsHistory g origin o h u done) where
  pub goal_due : saturated (o.count + effects (take (begun_at (h ++ e ∷ []) e.line (length h)) h)) ≤ goal_or (goal_of u.flight worker e.line) u.count
  goal_due = by (cases_eq (of_worker u.flight worker).line e.line)
    where
      begun_low : saturated (o.count + effects (take (begun_at (h ++ e ∷ []) e.line (length h)) h)) ≤ u.count
      begun_low = let all = count_so_far g origin o h u done s.serves in let most = effects_within h (begun_at (h ++ e ∷ []) e.line (length h)) in omega (arith, all, most)

      none_there : goal_of u.flight worker e.line ≡ None → saturated (o.count + effects (take (begun_at (h ++ e ∷ []) e.line (length h)) h)) ≤ goal_or (goal_of u.flight worker e.line) u.count
      none_there none = subst (λ (x : Option ℕ). saturated (o.count + effects (take (begun_at (h ++ e ∷ []) e.line (length h)) h)) ≤ goal_or x u.count) (sym none) begun_low

      at : (x : Option ℕ) → IfSome x (IsGoal o h u.count e.line) → saturated (o.count + effects (take (begun_at (h ++ e ∷ []) e.line (length h)) h)) ≤ goal_or x u.count
      at None is = begun_low
      at (Some goal) is = let low = is.not_below_begin in let same = begun_is h e e.line is.begun is.staged in omega (arith, low, same)

      by : ((of_worker u.flight worker).line ≡ e.line) ⊎ ((of_worker u.flight worker).line ≢ e.line) → saturated (o.count + effects (take (begun_at (h ++ e ∷ []) e.line (length h)) h)) ≤ goal_or (goal_of u.flight worker e.line) u.count
      by (inl here) =
          subst (λ (x : Option ℕ). saturated (o.count + effects (take (begun_at (h ++ e ∷ []) e.line (length h)) h)) ≤ goal_or x u.count)
          (sym (ap (λ b. cond b (of_worker u.flight worker).goal None) (eq-eqb (of_worker u.flight worker).line e.line here)))
          (at (of_worker u.flight worker).goal (subst (λ l. IfSome (of_worker u.flight worker).goal (IsGoal o h u.count l)) here (s.goals worker)))
      by (inr far) = none_there (ap (λ b. cond b (of_worker u.flight worker).goal None) (ne_eqb (of_worker u.flight worker).line e.line far))

module _ {D : Type 0} (g : Ghosts D) (origin : Core D) (o : Opening) (h : List Entry) (u b : Core D) (done worker : ℕ) (e : Entry) (stands : RepresentsHistory g origin o h u done) (c : PreservesCore g u b) (reached : goal_or (goal_of u.flight worker e.line) u.count ≤ b.committed)
    (volume : IsVolumeShape (g.shape b.device)) (effect : is_effect e ≡ true) (at : call_at o.lines e.line ≡ Some Sync) (whole : fault_of e.fault ≡ None) (synced : e.synced ≡ At b.committed b.moment) where
  s : Serves g origin o h u done
  s = stands.serves

  abbrev pub point : SyncPoint
  point = record { upto = b.committed; moment = b.moment }

  has_point : sync_of e.synced ≡ Some point
  has_point = ap sync_of synced

  serves_then : Serves g origin o h b done
  serves_then = calls_serve g origin o h u b done s c

  sync_run : run_of o (h ++ e ∷ []) ≡ with_call (with_sync (run_of o h) point) (Sync, fault_of e.fault)
  sync_run =
      let calls = calls_more o h e ∙ ap (λ xs. marked_calls o h ++ xs) (one_call o e Sync effect at) in
      let syncs = syncs_more h e ∙ ap (λ xs. syncs_of h ++ xs) (one_sync e b.committed b.moment synced) in
      λ i. record { shape = o.shape; count = o.count; tree = o.tree; calls = calls i; syncs = syncs i }

  same_tree : MakesTree g b b (Sync, fault_of e.fault)
  same_tree tells page_of_stamp tree runs = subst (RepresentsTree (g.shape b.device) (running_of g b) page_of_stamp) (sym (sync_leaves (g.shape b.device) tree (fault_of e.fault))) runs.runs

  known_sync : IsKnown o e
  known_sync = record {
    has_call = λ is. ap (λ b. is_some (cond b (call_at o.lines e.line) None)) effect ∙ ap is_some at;
    has_sync = ap is_some has_point ∙ sym ((λ i. is_sync ((ap (λ b. cond b (call_at o.lines e.line) None) effect ∙ at) i) && is_none (whole i)));
  }

  upto_most : b.committed ≤ saturated (o.count + effects h)
  upto_most =
      let all = count_so_far g origin o h u done s in
      let same = c.goes.count in
      let one = c.core.counts.later in
      let two = c.core.counts.latest in
      omega (arith, all, same, one, two)

  moments_then : MomentsRise o (syncs_of h ++ point ∷ []) b.committed b.moment (g.clock b.device)
  moments_then =
      let m = serves_then.moments in
      record {
        begins = m.begins;
        ends = m.ends;
        since = m.since;
        not_below = m.not_below;
        rising = pairs_more (λ (x y : SyncPoint). x.moment ≤ y.moment) (syncs_of h) point m.rising (λ x has. (m.within x has).2);
        within = λ x has. ⊎_elim (m.within x) (λ is. subst (λ (y : SyncPoint). IsSinceOpening o y.moment y.upto × (o.clock ≤ y.moment) × (y.moment ≤ b.moment)) is (m.since, m.begins, omega arith)) (has_or_last (syncs_of h) point x has);
      }

  pub sync_serves : Serves g origin o (h ++ e ∷ []) (counted b) (saturated (done + 1))
  sync_serves = one_more g origin o h b b done e Sync serves_then c.core (steps_none g b) effect at (subst (λ f. IfSome f (HasCause g.tells (opening_counts o) (counts_of g b.device) o.next_stamp Sync)) (sym whole) tt) (c.counts.clock, c.counts.write_faults)
      known_sync
      (subst (λ (r : Run). FollowsRun g origin o.clock r (counted b)) (sym sync_run)
      (effect_goes_along g b (counted b) (Sync, fault_of e.fault) origin o.clock (with_sync (run_of o h) point) (step_takes_effect g b b (Sync, fault_of e.fault) volume c.core (steps_none g b) same_tree)
      (sync_goes_along g b origin o.clock (run_of o h) serves_then.along)))
      (subst (λ (x : Option SyncPoint). IfSome x (λ y. IsSyncInRange o (h ++ e ∷ []) (length h) e.line y)) (sym has_point) (last_in_range o h e point (let due = goal_due g origin o h u done worker e stands in omega (arith, due, reached)) serves_then.moments.not_below upto_most effect))
      (subst (λ xs. MomentsRise o xs b.committed b.moment (g.clock b.device)) (ap (λ (r : Run). r.syncs) (sym sync_run)) moments_then)
