-- A volume goes on to stand: through turns without an effect, calls of its core, effects, and syncs.
use Rattle.std.proofs.Common.{◌≡◌, ◌≢◌, ◌⊎◌, inl, inr, ⊎_elim, ℕ, ◌+◌, ◌-◌, ◌<◌, ◌≤◌, false, not, cond, ◌&&◌, List, [], ◌∷◌, ◌++◌, length, Option, Some, None, sym, ap, subst, ◌∙◌, arith, eq-eqb}
use Rattle.std.specs.Prelude.{IfSome, is_none, is_some}
use Rattle.std.proofs.lemmas.Bool.{cases_eq, cases_lt}
use Rattle.std.proofs.lemmas.List.{append-nil}
use Rattle.nl_field.specs.CrashStates.{Earlier, saturated, top}
use Rattle.nl_field.specs.Members as members
use Rattle.nl_tree.specs.Causes.{IsSumSince, NeverFall, WriteFailed, eio_of, erofs_of}
use Rattle.nl_tree.specs.declared.reply.FaultReply.{FaultReply}
use Rattle.nl_tree.specs.declared.reply.FaultReply.TheVariants.{Eio, Erofs, Eworn, Edamaged}
use Rattle.nl_tree.proofs.FaultProofs.{fault_laws}
use Rattle.nl_flight.specs.Flight.{InFlight, of_worker}
use Rattle.nl_iface.specs.declared.counts.Counts.{Ghosts}
use Rattle.nl_core.specs.Goes.{PreservesVolume}
use Rattle.nl_core.specs.declared.state.Core.{Core}
use Rattle.nl_spec_crashes.specs.Along.{FollowsRun}
use Rattle.nl_spec_crashes.proofs.Along.{call_goes_along}
use Rattle.nl_turns.specs.History.{IsKnown, IsSyncInRange, Opening, call_at, effects, fault_of, is_effect, is_sync, marked_calls, opening_counts, sync_of, syncs_of}
use Rattle.nl_turns.specs.declared.entry.Entry.{Entry}
use Rattle.nl_turns.specs.declared.entry.SyncMark.{SyncMark}
use Rattle.nl_calls_steps.specs.Calls.{counts_of}
use Rattle.nl_volume_stage.specs.Standing.{FaultReplyHasCause, GoalsAreKept, IsGoal, IsSinceOpening, MomentsRise, NumbersDiffer, Serves, RepresentsHistory, run_of}
use Rattle.nl_volume_stage.specs.Turns.{CallsCore, FaultsStay, GoalsStay, PreservesCore, IsQuiet}
use Rattle.nl_volume_stage.proofs.Causes.{first_failed, first_sum, later_then, still_cause, still_failed}
use Rattle.nl_volume_stage.proofs.Histories.{calls_more, effects_more, goal_more, has_or_last, no_call, no_sync, pairs_more, syncs_in_range, syncs_more}

-- ---- a turn without an effect

module _ {D : Type 0} (g : Ghosts D) (origin : Core D) (o : Opening) (h : List Entry) (v : Core D) (done : ℕ) (e : Entry) (s : Serves g origin o h v done) (q : IsQuiet e) where
  no_effect : is_effect e ≡ false
  no_effect = ap not (eq-eqb e.line 0 q.line)

  no_fault : fault_of e.fault ≡ None
  no_fault = ap fault_of q.fault

  same_calls : marked_calls o (h ++ e ∷ []) ≡ marked_calls o h
  same_calls = calls_more o h e ∙ (ap (λ xs. marked_calls o h ++ xs) (no_call o e q.line) ∙ append-nil (marked_calls o h))

  same_syncs : syncs_of (h ++ e ∷ []) ≡ syncs_of h
  same_syncs = syncs_more h e ∙ (ap (λ xs. syncs_of h ++ xs) (no_sync e q.synced) ∙ append-nil (syncs_of h))

  same_run : run_of o (h ++ e ∷ []) ≡ run_of o h
  same_run = λ i. record { shape = o.shape; count = o.count; tree = o.tree; calls = same_calls i; syncs = same_syncs i }

  known_quiet : IsKnown o e
  known_quiet = record {
    has_call = λ is. absurd (cc (is, no_effect));
    has_sync = ap (λ (m : SyncMark). is_some (sync_of m)) q.synced ∙ sym (ap (λ b. is_sync (cond b (call_at o.lines e.line) None) && is_none (fault_of e.fault)) no_effect);
  }

  quiet_serves : Serves g origin o (h ++ e ∷ []) v done
  quiet_serves = record {
    few = s.few;
    lines = s.lines;
    core = s.core;
    known = λ x has. ⊎_elim (s.known x) (λ is. subst (IsKnown o) is known_quiet) (has_or_last h e x has);
    along = subst (λ r. FollowsRun g origin o.clock r v) (sym same_run) s.along;
    effects = s.effects ∙ ap saturated (sym (effects_more h e ∙ (ap (λ b. effects h + cond b 1 0) no_effect ∙ (omega arith))));
    since = s.since;
    next_stamp = s.next_stamp;
    stamps_rise = s.stamps_rise;
    read_only = s.read_only;
    marks = λ x has. ⊎_elim (s.marks x)
        (λ is. subst (λ (y : Entry). IfSome (fault_of y.fault) (FaultReplyHasCause g.tells o (counts_of g v.device) y)) is (subst (λ (f : Option FaultReply). IfSome f (FaultReplyHasCause g.tells o (counts_of g v.device) e)) (sym no_fault) tt))
        (has_or_last h e x has);
    syncs = syncs_in_range o h e s.syncs (subst (λ (m : SyncMark). IfSome (sync_of m) (λ x. IsSyncInRange o (h ++ e ∷ []) (length h) e.line x)) (sym q.synced) tt);
    moments = subst (λ xs. MomentsRise o xs v.committed v.moment (g.clock v.device)) (sym same_syncs) s.moments;
  }

  quiet_numbers : (flight : List InFlight) (stopped : ℕ) → NumbersDiffer h flight stopped → NumbersDiffer (h ++ e ∷ []) flight stopped
  quiet_numbers flight stopped numbers = record {
    past = pairs_more (λ a b. (n : ℕ) → eio_of (fault_of a.fault) ≡ Some n → eio_of (fault_of b.fault) ≡ Some n → n ≡ top) h e numbers.past (λ y has n one two. absurd (cc (two, no_fault)));
    kept = λ worker x n has is same. ⊎_elim (λ was. numbers.kept worker x n was is same) (λ at. absurd (cc (is, at, no_fault))) (has_or_last h e x has);
    apart = numbers.apart;
    one = λ x n has is. ⊎_elim (λ was. numbers.one x n was is) (λ at. absurd (cc (is, at, no_fault))) (has_or_last h e x has);
  }

-- a goal in flight is one with an entry more
pub goal_longer : (o : Opening) (h : List Entry) (e : Entry) (count line : ℕ) (x : Option ℕ) → IfSome x (IsGoal o h count line) → IfSome x (IsGoal o (h ++ e ∷ []) count line)
goal_longer o h e count line None is = tt
goal_longer o h e count line (Some goal) is = goal_more o h e count line goal is

pub quiet_stands : {D : Type 0} (g : Ghosts D) (origin : Core D) (o : Opening) (h : List Entry) (v : Core D) (done : ℕ) (e : Entry) → RepresentsHistory g origin o h v done → IsQuiet e → RepresentsHistory g origin o (h ++ e ∷ []) v done
quiet_stands g origin o h v done e s q = record {
  serves = quiet_serves g origin o h v done e s.serves q;
  flight = s.flight;
  goals = λ worker. goal_longer o h e v.count (of_worker v.flight worker).line (of_worker v.flight worker).goal (s.goals worker);
  numbers = quiet_numbers g origin o h v done e s.serves q v.flight v.stopped s.numbers;
}

-- ---- a call of the core

module _ {D : Type 0} (g : Ghosts D) (origin : Core D) (o : Opening) (h : List Entry) (u v : Core D) (done : ℕ) (s : Serves g origin o h u done) (c : PreservesCore g u v) where
  a : PreservesVolume g c.most u v
  a = c.goes

  pub later : NeverFall (counts_of g u.device) (counts_of g v.device)
  later = record { clock = a.clock; read_faults = a.reads; write_faults = a.writes }

  paid : g.clock v.device < top → g.write_faults v.device < top → g.next_stamp v.device ≤ o.next_stamp + (g.clock v.device - o.clock) + (g.write_faults v.device - o.write_faults)
  paid low less =
      let up = later in
      let clock = up.clock in
      let writes = up.write_faults in
      let first = s.since in
      let clock' = first.clock in
      let writes' = first.write_faults in
      let was = s.next_stamp (omega (arith, low, clock)) (omega (arith, less, writes)) in
      let more = a.stamps.paid low less in
      omega (arith, was, more, clock, writes, clock', writes')

  stopped_since : (u.stopped ≡ 0) ⊎ (u.stopped ≢ 0) → v.stopped ≢ 0 → WriteFailed (opening_counts o) (counts_of g v.device) × IsSumSince (opening_counts o) (counts_of g v.device) v.stopped
  stopped_since (inr was) now =
      let same = a.stops.stands was in
      let r = s.read_only was in (
        still_failed (opening_counts o) (counts_of g u.device) (counts_of g v.device) later s.since c.counts.write_faults r.0,
        subst (IsSumSince (opening_counts o) (counts_of g v.device)) (sym same) (fault_laws.stays (opening_counts o) (counts_of g u.device) (counts_of g v.device) u.stopped r.1 later),
      )
  stopped_since (inl none) now =
      let k = a.stops.some none now in
      let few = (s.core.writes none).counts in (
        first_failed (opening_counts o) (counts_of g u.device) (counts_of g v.device) s.since k.0 few,
        first_sum (opening_counts o) (counts_of g u.device) (counts_of g v.device) s.since k.0 few v.stopped k.1.0 k.1.1,
      )

  mark_on : (e : Entry) (f : Option FaultReply) → IfSome f (FaultReplyHasCause g.tells o (counts_of g u.device) e) → IfSome f (FaultReplyHasCause g.tells o (counts_of g v.device) e)
  mark_on e None is = is
  mark_on e (Some fault) is = (is.0, is.1, still_cause (opening_counts o) (counts_of g u.device) (counts_of g v.device) later s.since c.counts.write_faults c.counts.clock g.tells o.next_stamp is.0 fault is.2)

  since_on : Earlier (g.clock u.device) v.moment → g.clock u.device ≤ v.moment → Earlier o.clock v.moment
  since_on later from low =
      let first = s.since.clock in
      ⊎_elim (λ below. let far = later below in omega (arith, first, far)) (λ end. omega (arith, low, end, from)) (cases_lt (g.clock u.device) top)

  moments_on : ((v.moment ≡ u.moment) × (v.committed ≡ u.committed)) ⊎ (Earlier (g.clock u.device) v.moment × (g.clock u.device ≤ v.moment)) → MomentsRise o (syncs_of h) v.committed v.moment (g.clock v.device)
  moments_on (inl same) =
      let m = s.moments in
      let is = same.0 in
      let count = same.1 in
      let clock = a.clock in
      record {
        begins = let one = m.begins in omega (arith, one, is);
        ends = let one = m.ends in omega (arith, one, is, clock);
        since = subst (λ n. IsSinceOpening o n v.committed) (sym is) (subst (λ n. IsSinceOpening o u.moment n) (sym count) m.since);
        not_below = let one = m.not_below in omega (arith, one, count);
        rising = m.rising;
        within = λ x has. let k = m.within x has in (k.0, k.1, let two = k.2 in omega (arith, two, is));
      }
  moments_on (inr later) =
      let m = s.moments in
      let up = later.1 in
      record {
        begins = let one = s.since.clock in omega (arith, one, up);
        ends = c.core.moment;
        since = inl (since_on later.0 later.1);
        not_below = let one = m.not_below in let on = a.onward.committed in omega (arith, one, on);
        rising = m.rising;
        within = λ x has. let k = m.within x has in (k.0, k.1, let two = k.2 in let end = m.ends in omega (arith, two, end, up));
      }

  -- no line failed with the number 0
  pub no_zero : (e : Entry) (f : Option FaultReply) (n : ℕ) → IfSome f (FaultReplyHasCause g.tells o (counts_of g u.device) e) → eio_of f ≡ Some n → n ≡ 0 → ⊥
  no_zero e None n is same none = cc same
  no_zero e (Some (Eio m)) n is same none = let at : m ≡ n = cc same in ⊎_elim (λ low. omega (arith, low, at, none)) (λ high. omega (arith, high, at, none)) is.2.0
  no_zero e (Some (Erofs m)) n is same none = cc same
  no_zero e (Some Eworn) n is same none = cc same
  no_zero e (Some (Edamaged wanted found)) n is same none = cc same

  pub calls_serve : Serves g origin o h v done
  calls_serve = record {
    few = s.few;
    lines = s.lines;
    core = c.core;
    known = s.known;
    along = call_goes_along g c.most u v origin o.clock (run_of o h) a s.along;
    effects = s.effects;
    since = later_then (opening_counts o) (counts_of g u.device) (counts_of g v.device) s.since later;
    next_stamp = paid;
    stamps_rise = let was = s.stamps_rise in let up = a.stamps.never_falls in omega (arith, was, up);
    read_only = stopped_since (cases_eq u.stopped 0);
    marks = λ e has. mark_on e (fault_of e.fault) (s.marks e has);
    syncs = s.syncs;
    moments = moments_on a.moment;
  }

  -- a line that was refused has the number with which the volume became read-only
  pub none_read_only : ((e : Entry) (n : ℕ) → members.Has h e → erofs_of (fault_of e.fault) ≡ Some n → (n ≡ u.stopped) × (u.stopped ≢ 0)) → (u.stopped ≡ 0) ⊎ (u.stopped ≢ 0) → (e : Entry) (n : ℕ) → members.Has h e
      → erofs_of (fault_of e.fault) ≡ Some n → (n ≡ v.stopped) × (v.stopped ≢ 0)
  none_read_only one (inl none) e n has is = absurd ((one e n has is).1 none)
  none_read_only one (inr was) e n has is =
      let same = a.stops.stands was in
      let k = one e n has is in
      (k.0 ∙ sym same, λ none. was (sym same ∙ none))

-- ---- and keeps what is in flight in order

pub goals_on : {D : Type 0} (o : Opening) (h : List Entry) (u v : Core D) → v.count ≡ u.count → GoalsStay u.flight v.flight → GoalsAreKept o h u.count u.flight → GoalsAreKept o h v.count v.flight
goals_on o h u v count stay goals worker = ⊎_elim
    (λ none. subst (λ (x : Option ℕ). IfSome x (IsGoal o h v.count (of_worker v.flight worker).line)) (sym none) tt)
    (λ same.
    subst (λ n. IfSome (of_worker v.flight worker).goal (IsGoal o h n (of_worker v.flight worker).line)) (sym count)
    (subst (λ l. IfSome (of_worker v.flight worker).goal (IsGoal o h u.count l)) (sym same.1)
    (subst (λ (x : Option ℕ). IfSome x (IsGoal o h u.count (of_worker u.flight worker).line)) (sym same.0) (goals worker))))
    (stay worker)

module _ {D : Type 0} (g : Ghosts D) (origin : Core D) (o : Opening) (h : List Entry) (u v : Core D) (done : ℕ) (s : RepresentsHistory g origin o h u done) (on : PreservesCore g u v) where
  -- where no staging failed, the numbers of failed lines are those of before
  pub numbers_stay : FaultsStay u.flight v.flight → NumbersDiffer h v.flight v.stopped
  numbers_stay faults = record {
    past = s.numbers.past;
    kept = λ worker e n has is same. ⊎_elim (λ stays. s.numbers.kept worker e n has is (sym stays ∙ same))
        (λ none. absurd (no_zero g origin o h u v done s.serves on e (fault_of e.fault) n (s.serves.marks e has) is (sym same ∙ none))) (faults worker);
    apart = λ w w' other some same. ⊎_elim
        (λ one. ⊎_elim (λ two. one ∙ s.numbers.apart w w' other (λ none. some (one ∙ none)) (sym one ∙ (same ∙ two))) (λ none. absurd (some (same ∙ none))) (faults w'))
        (λ none. absurd (some none))
        (faults w);
    one = none_read_only g origin o h u v done s.serves on s.numbers.one (cases_eq u.stopped 0);
  }

module _ {D : Type 0} (g : Ghosts D) (origin : Core D) (o : Opening) (h : List Entry) (u v : Core D) (done : ℕ) (s : RepresentsHistory g origin o h u done) (c : CallsCore g o u v) where
  pub calls_stand_with : NumbersDiffer h v.flight v.stopped → RepresentsHistory g origin o h v done
  calls_stand_with numbers = record { serves = calls_serve g origin o h u v done s.serves c.on; flight = c.flight; goals = goals_on o h u v c.on.goes.count c.goals s.goals; numbers = numbers }

  pub calls_stand : FaultsStay u.flight v.flight → RepresentsHistory g origin o h v done
  calls_stand faults = calls_stand_with (numbers_stay g origin o h u v done s c.on faults)
