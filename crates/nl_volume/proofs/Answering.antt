-- A volume goes on to stand as a line is answered.
use Rattle.std.proofs.Common.{◌≡◌, ◌≢◌, ◌⊎◌, inl, inr, ⊎_elim, ℕ, ◌+◌, ◌<◌, ◌≤◌, ◌^◌, ◌==◌, Bool, cond, true, false, not, ◌&&◌, List, [], ◌∷◌, ◌++◌, Option, Some, None, IsTrue, refl, sym, ap, subst, ◌∙◌, arith, ne_eqb}
use Rattle.std.specs.Prelude.{IfSome, is_none}
use Rattle.std.proofs.lemmas.Bool.{cases_eq, cases_lt}
use Rattle.nl_field.specs.CrashStates.{saturated, top}
use Rattle.nl_field.specs.Members as members
use Rattle.nl_tree.specs.Causes.{FaultRose, FaultWithin, HasCause, IsSumSince, MayBeExhausted, NeverFall, eio_of, erofs_of, fault_in, fault_sum, is_changing, max_stamp}
use Rattle.nl_tree.specs.declared.call.Call.{Call}
use Rattle.nl_tree.specs.declared.call.Call.TheVariants.{Mkdir, Rmdir, Create, Unlink, Rename, Write, Fill, Read, Truncate, Stat, List as ListCall, Sync, Clean}
use Rattle.nl_tree.specs.declared.call.Line.{Line}
use Rattle.nl_tree.specs.declared.reply.FaultReply.{FaultReply}
use Rattle.nl_tree.specs.declared.reply.FaultReply.TheVariants.{Eio, Erofs, Eworn, Edamaged}
use Rattle.nl_tree.specs.declared.reply.Reply.{Reply}
use Rattle.nl_tree.specs.declared.reply.Reply.TheVariants.{Done, Count, Content, Names, File, Dir, Synced, No, Fault}
use Rattle.nl_tree.proofs.FaultProofs.{fault_laws}
use Rattle.nl_flight.specs.Flight.{InFlight, begun, of_worker}
use Rattle.nl_iface.specs.Device.{IsVolumeShape}
use Rattle.nl_iface.specs.declared.counts.Counts.{Ghosts}
use Rattle.nl_core.specs.Goes.{CommitsOnward}
use Rattle.nl_core.specs.declared.state.Core.{Core}
use Rattle.nl_core.proofs.Counts.{onward_as, onward_then}
use Rattle.nl_core.specs.Units.{goal_of, goal_or}
use Rattle.nl_calls_steps.proofs.Stepping.{steps_run}
use Rattle.nl_calls_steps.specs.Calls.{MakesTree, counts_of}
use Rattle.nl_core.specs.Calls.{counted}
use Rattle.nl_turns.specs.History.{Opening, call_at, fault_of, is_effect, is_sync, opening_counts}
use Rattle.nl_turns.specs.Served.{IsLineOf, effect_entry, fault_mark, sync_mark}
use Rattle.nl_turns.specs.declared.entry.Entry.{Entry}
use Rattle.nl_turns.specs.declared.entry.SyncMark.TheVariants.{NoSync, At}
use Rattle.nl_calls.specs.Answering.{MakesEffect, HasEffectOf, Syncs, is_sync_call, is_synced}
use Rattle.nl_volume.specs.Effects.{AnswersLine}
use Rattle.nl_volume_stage.specs.Serving.{refusing_of, some_number, staged_fault}
use Rattle.nl_volume_stage.specs.Standing.{FlightIsOfLines, GoalsAreKept, IsGoal, IsInFlight, FaultReplyHasCause, NumbersDiffer, Serves, RepresentsHistory}
use Rattle.nl_volume_stage.specs.Turns.{AreCounts}
use Rattle.nl_volume_stage.proofs.Causes.{still_cause}
use Rattle.nl_volume_stage.proofs.Due.{IsRefused, due_cases, marked, within_since}
use Rattle.nl_volume_stage.proofs.Effects.{count_so_far, effect_serves, sync_serves}
use Rattle.nl_volume_stage.proofs.Flights.{KeepsPages, goes_keeps, one_on, same_fault}
use Rattle.nl_volume_stage.proofs.Histories.{effects_more, goal_more, has_or_last, pairs_more}
use Rattle.nl_volume_stage.proofs.Serving.{runs_of, some_is}
use Rattle.nl_volume_stage.proofs.Standing.{calls_serve}

-- ---- what an effect keeps

module _ {D : Type 0} (g : Ghosts D) (goal : ℕ) (call : Call) (u w : Core D) where
  effect_keeps : (fault : Option FaultReply) → MakesEffect g call fault u w → KeepsPages g u w
  effect_keeps fault x =
      let m = x.steps.reads.medium in
      let goes = x.goes in
      record {
        later = record {
          clock = let one = goes.clock in let two = m.clock in omega (arith, one, two);
          read_faults = let one = goes.reads in let two = x.steps.read_faults in omega (arith, one, two);
          write_faults = let one = goes.writes in let two = m.write_faults in omega (arith, one, two);
        };
        runs = λ tells page_of_stamp tree at.
            let k = goes.runs tells page_of_stamp tree at in (
              _,
              record { pages = k.pages; extends = k.extends; runs = steps_run g x.between w k.pages tree _ tells x.steps k.runs (x.makes tells k.pages tree k.runs) },
            );
      }

  pub effect_of_keeps : (reply : Reply) → HasEffectOf g goal call u w reply → KeepsPages g u w
  effect_of_keeps Done x = effect_keeps None x
  effect_of_keeps (Count n) x = effect_keeps None x
  effect_of_keeps Content x = effect_keeps None x
  effect_of_keeps (Names n) x = effect_keeps None x
  effect_of_keeps (File size pages) x = effect_keeps None x
  effect_of_keeps (Dir entries) x = effect_keeps None x
  effect_of_keeps (Synced upto moment) x = goes_keeps g x.most u w x.goes
  effect_of_keeps (No refusal) x = effect_keeps None x
  effect_of_keeps (Fault fault) x = effect_keeps (Some fault) x

  -- a volume that is read-only stays so
  effect_stopped : (fault : Option FaultReply) → MakesEffect g call fault u w → (u.stopped ≡ 0 → ⊥) → w.stopped ≡ u.stopped
  effect_stopped fault x off = ap (λ (c : Core D). c.stopped) x.steps.others ∙ x.goes.stops.stands off

  pub stays_stopped : (reply : Reply) → HasEffectOf g goal call u w reply → (u.stopped ≡ 0 → ⊥) → w.stopped ≡ u.stopped
  stays_stopped Done x = effect_stopped None x
  stays_stopped (Count n) x = effect_stopped None x
  stays_stopped Content x = effect_stopped None x
  stays_stopped (Names n) x = effect_stopped None x
  stays_stopped (File size pages) x = effect_stopped None x
  stays_stopped (Dir entries) x = effect_stopped None x
  stays_stopped (Synced upto moment) x = x.goes.stops.stands
  stays_stopped (No refusal) x = effect_stopped None x
  stays_stopped (Fault fault) x = effect_stopped (Some fault) x

  -- what is committed does not fall, and no sync has more left
  effect_onward : (fault : Option FaultReply) → MakesEffect g call fault u w → CommitsOnward u w
  effect_onward fault x = onward_then u x.between w x.goes.count x.goes.onward
      (onward_as x.between w (ap (λ (c : Core D). c.committed) x.steps.others) (ap (λ (c : Core D). c.frozen) x.steps.others) (ap (λ (c : Core D). c.journal) x.steps.others) x.steps.pages.same_frozen)

  pub goes_onward : (reply : Reply) → HasEffectOf g goal call u w reply → CommitsOnward u w
  goes_onward Done x = effect_onward None x
  goes_onward (Count n) x = effect_onward None x
  goes_onward Content x = effect_onward None x
  goes_onward (Names n) x = effect_onward None x
  goes_onward (File size pages) x = effect_onward None x
  goes_onward (Dir entries) x = effect_onward None x
  goes_onward (Synced upto moment) x = x.goes.onward
  goes_onward (No refusal) x = effect_onward None x
  goes_onward (Fault fault) x = effect_onward (Some fault) x

-- ---- calls and marks

pub sync_is : (call : Call) → is_sync (Some call) ≡ is_sync_call call
sync_is (Mkdir path) = refl
sync_is (Rmdir path) = refl
sync_is (Create path) = refl
sync_is (Unlink path) = refl
sync_is (Rename from to) = refl
sync_is (Write path from bytes) = refl
sync_is (Fill path from len byte) = refl
sync_is (Read path from len) = refl
sync_is (Truncate path size) = refl
sync_is (Stat path) = refl
sync_is (ListCall path) = refl
sync_is Sync = refl
sync_is Clean = refl

is_sync_of : (call : Call) → is_sync_call call ≡ true → call ≡ Sync
is_sync_of (Mkdir path) e = absurd (cc e)
is_sync_of (Rmdir path) e = absurd (cc e)
is_sync_of (Create path) e = absurd (cc e)
is_sync_of (Unlink path) e = absurd (cc e)
is_sync_of (Rename from to) e = absurd (cc e)
is_sync_of (Write path from bytes) e = absurd (cc e)
is_sync_of (Fill path from len byte) e = absurd (cc e)
is_sync_of (Read path from len) e = absurd (cc e)
is_sync_of (Truncate path size) e = absurd (cc e)
is_sync_of (Stat path) e = absurd (cc e)
is_sync_of (ListCall path) e = absurd (cc e)
is_sync_of Sync e = refl
is_sync_of Clean e = absurd (cc e)

and_left : (a b : Bool) → true ≡ (a && b) → a ≡ true
and_left true b e = refl
and_left false b e = absurd (cc e)

-- the opening has the line's call
pub call_found : (o : Opening) (worker line : ℕ) (call : Call) → IsLineOf o worker line call → call_at o.lines line ≡ Some call
call_found o worker line call of = let f = of.found in ap (λ (x : Option Line). found_call x) f.1 ∙ ap Some f.3
  where
    found_call : Option Line → Option Call
    found_call None = None
    found_call (Some l) = Some l.call

-- ---- the line

module _ {D : Type 0} (g : Ghosts D) (origin : Core D) (o : Opening) (h : List Entry) (u w : Core D) (done worker line : ℕ) (call : Call) (reply : Reply) (out : List ℕ) (files : ℕ) (s : RepresentsHistory g origin o h u done) (of : IsLineOf o worker line call)
    (x : AnswersLine g worker line call u w reply out files) (most : AreCounts g w) (volume : IsVolumeShape (g.shape w.device)) where
  abbrev e : Entry
  e = effect_entry line reply

  -- the goal that it has as a sync
  abbrev goal : ℕ
  goal = goal_or (goal_of u.flight worker line) u.count

  keeps : KeepsPages g u w
  keeps = effect_of_keeps g goal call u w reply x.effect

  pub later : NeverFall (counts_of g u.device) (counts_of g w.device)
  later = keeps.later

  -- ---- why it has a fault

  cases_of : (f : FaultReply) → fault_in reply ≡ Some f → IsRefused (staged_fault u.flight worker line) (some_number u.stopped) (g.next_stamp u.device) call f ⊎ FaultWithin g.tells (counts_of g u.device) (counts_of g w.device) f
  cases_of f is = due_cases g.tells (refusing_of g u worker line) (counts_of g u.device) (counts_of g w.device) call reply f x.due is

  -- the number with which a staging of the line failed
  kept_number : (n : ℕ) → staged_fault u.flight worker line ≡ Some n → ((of_worker u.flight worker).fault ≢ 0) × ((of_worker u.flight worker).fault ≡ n)
  kept_number n is = by ((of_worker u.flight worker).line == line) is
    where
      by : (b : Bool) → cond b (some_number (of_worker u.flight worker).fault) None ≡ Some n → ((of_worker u.flight worker).fault ≢ 0) × ((of_worker u.flight worker).fault ≡ n)
      by true is = some_is (of_worker u.flight worker).fault n is
      by false is = absurd (cc is)

  sum_kept : (worker : ℕ) → (of_worker u.flight worker).fault ≢ 0 → IsSumSince (opening_counts o) (counts_of g u.device) (of_worker u.flight worker).fault
  sum_kept worker some = ⊎_elim (λ none. absurd (some none.1)) (λ (is : IsInFlight g o u.device worker (of_worker u.flight worker)). is.fault some) (s.flight worker)

  worn_since : 2 ^ 62 ≤ g.next_stamp u.device → (g.clock u.device < top) ⊎ (top ≤ g.clock u.device) → (g.write_faults u.device < top) ⊎ (top ≤ g.write_faults u.device) → MayBeExhausted (opening_counts o) (counts_of g u.device) o.next_stamp
  worn_since high (inl low) (inl less) = let n = s.serves.next_stamp low less in inl (omega (arith, high, n))
  worn_since high (inr full) b = let up = later.clock in let end = most.clock in inr (inl (omega (arith, full, up, end)))
  worn_since high (inl low) (inr full) = let up = later.write_faults in let end = most.write_faults in inr (inr (omega (arith, full, up, end)))

  refused_cause : (f : FaultReply) → IsRefused (staged_fault u.flight worker line) (some_number u.stopped) (g.next_stamp u.device) call f → HasCause g.tells (opening_counts o) (counts_of g u.device) o.next_stamp call f
  refused_cause f is = by is.why
    where
      by : ((n : ℕ) × (staged_fault u.flight worker line ≡ Some n) × (f ≡ Eio n)) ⊎ (IsTrue (is_changing call) × (((n : ℕ) × (some_number u.stopped ≡ Some n) × (f ≡ Erofs n)) ⊎ ((f ≡ Eworn) × (max_stamp ≤ g.next_stamp u.device))))
          → HasCause g.tells (opening_counts o) (counts_of g u.device) o.next_stamp call f
      by (inl k) =
          let n = kept_number k.0 k.1 in
          subst (HasCause g.tells (opening_counts o) (counts_of g u.device) o.next_stamp call) (sym k.2) (subst (IsSumSince (opening_counts o) (counts_of g u.device)) n.1 (sum_kept worker n.0))
      by (inr (changing, inl k)) =
          let n = some_is u.stopped k.0 k.1 in
          let r = s.serves.read_only n.0 in
          subst (HasCause g.tells (opening_counts o) (counts_of g u.device) o.next_stamp call) (sym k.2) (changing, r.0, subst (IsSumSince (opening_counts o) (counts_of g u.device)) n.1 r.1)
      by (inr (changing, inr k)) =
          subst (HasCause g.tells (opening_counts o) (counts_of g u.device) o.next_stamp call) (sym k.0) (changing, worn_since k.1 (cases_lt (g.clock u.device) top) (cases_lt (g.write_faults u.device) top))

  pub has_cause : (f : FaultReply) → fault_in reply ≡ Some f → HasCause g.tells (opening_counts o) (counts_of g w.device) o.next_stamp call f
  has_cause f is = ⊎_elim (λ r. still_cause (opening_counts o) (counts_of g u.device) (counts_of g w.device) later s.serves.since most.write_faults most.clock g.tells o.next_stamp call f (refused_cause f r))
      (λ within. within_since g.tells (opening_counts o) (counts_of g u.device) (counts_of g w.device) o.next_stamp call f s.serves.since later within)
      (cases_of f is)

  pub cause_since : IfSome (fault_of (fault_mark reply)) (HasCause g.tells (opening_counts o) (counts_of g w.device) o.next_stamp call)
  cause_since = by (fault_of (fault_mark reply)) (marked reply)
    where
      by : (k : Option FaultReply) → k ≡ fault_in reply → IfSome k (HasCause g.tells (opening_counts o) (counts_of g w.device) o.next_stamp call)
      by None is = tt
      by (Some f) is = has_cause f (sym is)

  -- ---- what is in flight

  flight_then : FlightIsOfLines g o w.device w.flight
  flight_then k = by (cases_eq k worker)
    where
      by : (k ≡ worker) ⊎ (k ≢ worker) → (((of_worker w.flight k).line ≡ 0) × ((of_worker w.flight k).fault ≡ 0)) ⊎ IsInFlight g o w.device k (of_worker w.flight k)
      by (inl here) = let is : of_worker w.flight k ≡ begun 0 = ap (of_worker w.flight) here ∙ x.ended.idle in inl (ap (λ (y : InFlight). y.line) is, ap (λ (y : InFlight). y.fault) is)
      by (inr far) = one_on g o u w s.serves.core x.core keeps (runs_of g origin o h u w done s) k (x.ended.others k far) (s.flight k)

  fault_here : (of_worker w.flight worker).fault ≡ 0
  fault_here = ap (λ (y : InFlight). y.fault) x.ended.idle

  fault_there : (k : ℕ) → k ≢ worker → (of_worker w.flight k).fault ≡ (of_worker u.flight k).fault
  fault_there k far = same_fault (of_worker u.flight k) (of_worker w.flight k) (x.ended.others k far)

  -- ---- its number

  -- no earlier line, and none in flight but this one, has it
  record IsOwn (n : ℕ) : Type 0 where
    pub some : n ≢ 0
    pub past : (y : Entry) → members.Has h y → eio_of (fault_of y.fault) ≡ Some n → n ≡ top
    pub kept : (k : ℕ) → k ≢ worker → (of_worker u.flight k).fault ≡ n → n ≡ top

  past_mark : (y : Entry) (r : Option FaultReply) (n : ℕ) → IfSome r (FaultReplyHasCause g.tells o (counts_of g u.device) y) → eio_of r ≡ Some n → IsSumSince (opening_counts o) (counts_of g u.device) n
  past_mark y None n is at = absurd (cc at)
  past_mark y (Some (Eio k)) n is at = let eq : k ≡ n = cc at in subst (IsSumSince (opening_counts o) (counts_of g u.device)) eq is.2
  past_mark y (Some (Erofs k)) n is at = absurd (cc at)
  past_mark y (Some Eworn) n is at = absurd (cc at)
  past_mark y (Some (Edamaged wanted found)) n is at = absurd (cc at)

  above : (n : ℕ) → FaultRose (counts_of g u.device) (counts_of g w.device) → IsSumSince (opening_counts o) (counts_of g u.device) n → n ≡ fault_sum (counts_of g w.device) → n ≡ top
  above n rose is same = ⊎_elim (λ low. absurd (let off : ⊥ = omega (arith, low, same) in off)) (λ end. same ∙ end) (fault_laws.above (opening_counts o) (counts_of g u.device) (counts_of g w.device) n is later rose)

  own_within : (n : ℕ) → FaultRose (counts_of g u.device) (counts_of g w.device) → n ≡ fault_sum (counts_of g w.device) → IsOwn n
  own_within n rose same = record {
    some = λ none. ⊎_elim (λ r. omega (arith, none, same, r)) (λ r. omega (arith, none, same, r)) rose;
    past = λ y has at. above n rose (past_mark y (fault_of y.fault) n (s.serves.marks y has) at) same;
    kept = λ k far at. ⊎_elim (λ none. absurd (⊎_elim (λ r. omega (arith, none, same, r, at)) (λ r. omega (arith, none, same, r, at)) rose))
        (λ some. above n rose (subst (IsSumSince (opening_counts o) (counts_of g u.device)) at (sum_kept k some)) same)
        (cases_eq (of_worker u.flight k).fault 0);
  }

  own_staged : (n : ℕ) → ((of_worker u.flight worker).fault ≢ 0) × ((of_worker u.flight worker).fault ≡ n) → IsOwn n
  own_staged n is = record {
    some = λ none. is.0 (is.1 ∙ none);
    past = λ y has at. s.numbers.kept worker y n has at is.1;
    kept = λ k far at. sym is.1 ∙ s.numbers.apart worker k (λ same. far (sym same)) is.0 (is.1 ∙ sym at);
  }

  own : (n : ℕ) → eio_of (fault_in reply) ≡ Some n → IsOwn n
  own n at = by (fault_in reply) refl at
    where
      refused : IsRefused (staged_fault u.flight worker line) (some_number u.stopped) (g.next_stamp u.device) call (Eio n) → IsOwn n
      refused r = from r.why
        where
          from : ((m : ℕ) × (staged_fault u.flight worker line ≡ Some m) × (Eio n ≡ Eio m)) ⊎ (IsTrue (is_changing call) × (((m : ℕ) × (some_number u.stopped ≡ Some m) × (Eio n ≡ Erofs m)) ⊎ ((Eio n ≡ Eworn) × (max_stamp ≤ g.next_stamp u.device))))
              → IsOwn n
          from (inl k) = let same : k.0 ≡ n = cc (sym k.2) in own_staged n (kept_number n (k.1 ∙ ap Some same))
          from (inr (changing, inl k)) = absurd (cc k.2)
          from (inr (changing, inr k)) = absurd (cc k.0)

      by : (r : Option FaultReply) → fault_in reply ≡ r → eio_of r ≡ Some n → IsOwn n
      by None is at = absurd (cc at)
      by (Some (Eio m)) is at = let same : m ≡ n = cc at in ⊎_elim refused (λ k. own_within n k.0 k.1) (cases_of (Eio n) (is ∙ ap (λ i. Some (Eio i)) same))
      by (Some (Erofs m)) is at = absurd (cc at)
      by (Some Eworn) is at = absurd (cc at)
      by (Some (Edamaged wanted found)) is at = absurd (cc at)

  -- a line that is refused has the number with which the volume became read-only
  read_only_number : (n : ℕ) → erofs_of (fault_in reply) ≡ Some n → (n ≡ w.stopped) × (w.stopped ≢ 0)
  read_only_number n at = by (fault_in reply) refl at
    where
      refused : IsRefused (staged_fault u.flight worker line) (some_number u.stopped) (g.next_stamp u.device) call (Erofs n) → (n ≡ w.stopped) × (w.stopped ≢ 0)
      refused r = from r.why
        where
          from : ((m : ℕ) × (staged_fault u.flight worker line ≡ Some m) × (Erofs n ≡ Eio m)) ⊎ (IsTrue (is_changing call) × (((m : ℕ) × (some_number u.stopped ≡ Some m) × (Erofs n ≡ Erofs m)) ⊎ ((Erofs n ≡ Eworn) × (max_stamp ≤ g.next_stamp u.device))))
              → (n ≡ w.stopped) × (w.stopped ≢ 0)
          from (inl k) = absurd (cc k.2)
          from (inr (changing, inl k)) =
              let m : k.0 ≡ n = cc (sym k.2) in
              let is = some_is u.stopped k.0 k.1 in
              let same = stays_stopped g goal call u w reply x.effect is.0 in
              (sym (same ∙ (is.1 ∙ m)), λ none. is.0 (sym same ∙ none))
          from (inr (changing, inr k)) = absurd (cc k.0)

      by : (r : Option FaultReply) → fault_in reply ≡ r → erofs_of r ≡ Some n → (n ≡ w.stopped) × (w.stopped ≢ 0)
      by None is at = absurd (cc at)
      by (Some (Eio m)) is at = absurd (cc at)
      by (Some (Erofs m)) is at = let same : m ≡ n = cc at in ⊎_elim refused (λ none. absurd none) (cases_of (Erofs n) (is ∙ ap (λ i. Some (Erofs i)) same))
      by (Some Eworn) is at = absurd (cc at)
      by (Some (Edamaged wanted found)) is at = absurd (cc at)

  numbers_then : NumbersDiffer (h ++ e ∷ []) w.flight w.stopped
  numbers_then = record {
    past = pairs_more (λ a b. (n : ℕ) → eio_of (fault_of a.fault) ≡ Some n → eio_of (fault_of b.fault) ≡ Some n → n ≡ top) h e s.numbers.past
        (λ y has n one two. (own n (ap eio_of (sym (marked reply)) ∙ two)).past y has one);
    kept = λ k y n has is same. ⊎_elim
        (λ here. let none : 0 ≡ n = sym fault_here ∙ (ap (λ i. (of_worker w.flight i).fault) (sym here) ∙ same) in
        ⊎_elim (λ was. absurd (no_zero y (fault_of y.fault) n (s.serves.marks y was) is (sym none)))
        (λ at. absurd ((own n (ap eio_of (sym (marked reply)) ∙ subst (λ (z : Entry). eio_of (fault_of z.fault) ≡ Some n) (sym at) is)).some (sym none)))
        (has_or_last h e y has))
        (λ far. let there : (of_worker u.flight k).fault ≡ n = sym (fault_there k far) ∙ same in
        ⊎_elim (λ was. s.numbers.kept k y n was is there)
        (λ at. (own n (ap eio_of (sym (marked reply)) ∙ subst (λ (z : Entry). eio_of (fault_of z.fault) ≡ Some n) (sym at) is)).kept k far there)
        (has_or_last h e y has))
        (cases_eq k worker);
    apart = λ k k' far some same. ⊎_elim
        (λ here. absurd (some (ap (λ i. (of_worker w.flight i).fault) here ∙ fault_here)))
        (λ off. ⊎_elim
        (λ here'. absurd (some (same ∙ (ap (λ i. (of_worker w.flight i).fault) here' ∙ fault_here))))
        (λ off'. let one = fault_there k off in let two = fault_there k' off' in one ∙ s.numbers.apart k k' far (λ none. some (one ∙ none)) (sym one ∙ (same ∙ two)))
        (cases_eq k' worker))
        (cases_eq k worker);
    one = λ y n has is. ⊎_elim
        (λ was. let k = s.numbers.one y n was is in let same = stays_stopped g goal call u w reply x.effect k.1 in (k.0 ∙ sym same, λ none. k.1 (sym same ∙ none)))
        (λ at. read_only_number n (ap erofs_of (sym (marked reply)) ∙ subst (λ (z : Entry). erofs_of (fault_of z.fault) ≡ Some n) (sym at) is))
        (has_or_last h e y has);
  }
    where
      no_zero : (y : Entry) (r : Option FaultReply) (n : ℕ) → IfSome r (FaultReplyHasCause g.tells o (counts_of g u.device) y) → eio_of r ≡ Some n → n ≡ 0 → ⊥
      no_zero y r n is at none = let sum = past_mark y r n is at in ⊎_elim (λ low. omega (arith, low, none)) (λ high. omega (arith, high, none)) sum.0

  -- ---- it serves

  has_line : is_effect e ≡ true
  has_line = ap not (ne_eqb line 0 (λ none. let some = of.numbered in let off : ⊥ = omega (arith, some, none) in off))

  at_line : call_at o.lines line ≡ Some call
  at_line = call_found o worker line call of

  plain_serves : (fault : Option FaultReply) → fault ≡ fault_of (fault_mark reply) → is_synced reply ≡ false → sync_mark reply ≡ NoSync → MakesEffect g call fault u w → Serves g origin o (h ++ e ∷ []) (counted w) (saturated (done + 1))
  plain_serves fault is plain none y =
      let m = y.steps.reads.medium in
      let clock = m.clock in
      let writes = m.write_faults in
      let end = most in
      let between : AreCounts g y.between = record { clock = let c = end.clock in omega (arith, clock, c); write_faults = let n = end.write_faults in omega (arith, writes, n) } in
      let t = calls_serve g origin o h u y.between done s.serves (record { core = y.core; counts = between; most = y.most; goes = y.goes }) in
      let shape : IsVolumeShape (g.shape y.between.device) = subst IsVolumeShape m.virtual.same_shape volume in
      let marks = marked reply in
      effect_serves g origin o h y.between w done e call t x.core y.steps has_line at_line cause_since (end.clock, end.write_faults) shape
      (subst (λ (f : Option FaultReply). MakesTree g y.between w (call, f)) is y.makes) none
      ((λ i. sync_is call i && is_none (marks i)) ∙ (sym x.synced ∙ plain))

  sync_serves_then : (upto moment : ℕ) → reply ≡ Synced upto moment → Syncs g goal upto moment u w → Serves g origin o (h ++ e ∷ []) (counted w) (saturated (done + 1))
  sync_serves_then upto moment is y =
      let call_is : call ≡ Sync = is_sync_of call (and_left (is_sync_call call) (is_none (fault_in reply)) (ap is_synced (sym is) ∙ x.synced)) in
      sync_serves g origin o h u w done worker e s (record { core = x.core; counts = most; most = y.most; goes = y.goes }) y.reached volume
      has_line (at_line ∙ ap Some call_is) (ap (λ r. fault_of (fault_mark r)) is) (ap sync_mark is ∙ (λ i. At (y.upto_is i) (y.moment_is i)))

  line_serves : (r : Reply) → reply ≡ r → HasEffectOf g goal call u w r → Serves g origin o (h ++ e ∷ []) (counted w) (saturated (done + 1))
  line_serves Done is y = plain_serves None (ap (λ r. fault_of (fault_mark r)) (sym is)) (ap is_synced is) (ap sync_mark is) y
  line_serves (Count n) is y = plain_serves None (ap (λ r. fault_of (fault_mark r)) (sym is)) (ap is_synced is) (ap sync_mark is) y
  line_serves Content is y = plain_serves None (ap (λ r. fault_of (fault_mark r)) (sym is)) (ap is_synced is) (ap sync_mark is) y
  line_serves (Names n) is y = plain_serves None (ap (λ r. fault_of (fault_mark r)) (sym is)) (ap is_synced is) (ap sync_mark is) y
  line_serves (File size pages) is y = plain_serves None (ap (λ r. fault_of (fault_mark r)) (sym is)) (ap is_synced is) (ap sync_mark is) y
  line_serves (Dir entries) is y = plain_serves None (ap (λ r. fault_of (fault_mark r)) (sym is)) (ap is_synced is) (ap sync_mark is) y
  line_serves (Synced upto moment) is y = sync_serves_then upto moment is y
  line_serves (No refusal) is y = plain_serves None (ap (λ r. fault_of (fault_mark r)) (sym is)) (ap is_synced is) (ap sync_mark is) y
  line_serves (Fault fault) is y = plain_serves (Some fault) (ap (λ r. fault_of (fault_mark r)) (sym is)) (ap is_synced is) (ap sync_mark is) y

  -- ---- the goals in flight

  more_calls : u.count ≤ saturated (w.count + 1)
  more_calls =
      let now = count_so_far g origin o (h ++ e ∷ []) (counted w) (saturated (done + 1)) (line_serves reply refl x.effect) in
      let was = count_so_far g origin o h u done s.serves in
      let more = effects_more h e in
      omega (arith, now, was, more)

  goals_then : GoalsAreKept o (h ++ e ∷ []) (saturated (w.count + 1)) w.flight
  goals_then k = by (cases_eq k worker)
    where
      longer : (line' : ℕ) (y : Option ℕ) → IfSome y (IsGoal o h u.count line') → IfSome y (IsGoal o (h ++ e ∷ []) (saturated (w.count + 1)) line')
      longer line' None is = tt
      longer line' (Some n) is =
          let k = goal_more o h e u.count line' n is in
          let to = k.not_beyond in
          let all = more_calls in
          record { begun = k.begun; staged = k.staged; not_below_begin = k.not_below_begin; not_beyond = omega (arith, to, all) }

      by : (k ≡ worker) ⊎ (k ≢ worker) → IfSome (of_worker w.flight k).goal (IsGoal o (h ++ e ∷ []) (saturated (w.count + 1)) (of_worker w.flight k).line)
      by (inl here) =
          let none : (of_worker w.flight k).goal ≡ None = ap (λ (y : InFlight). y.goal) (ap (of_worker w.flight) here ∙ x.ended.idle) in
          subst (λ (y : Option ℕ). IfSome y (IsGoal o (h ++ e ∷ []) (saturated (w.count + 1)) (of_worker w.flight k).line)) (sym none) tt
      by (inr far) =
          let alike = x.ended.others k far in
          let goal_is : (of_worker w.flight k).goal ≡ (of_worker u.flight k).goal = ap (λ (y : InFlight). y.goal) alike in
          let line_is : (of_worker w.flight k).line ≡ (of_worker u.flight k).line = ap (λ (y : InFlight). y.line) alike in
          subst (λ (y : Option ℕ). IfSome y (IsGoal o (h ++ e ∷ []) (saturated (w.count + 1)) (of_worker w.flight k).line)) (sym goal_is)
          (subst (λ l. IfSome (of_worker u.flight k).goal (IsGoal o (h ++ e ∷ []) (saturated (w.count + 1)) l)) (sym line_is) (longer (of_worker u.flight k).line (of_worker u.flight k).goal (s.goals k)))

  pub line_stands : RepresentsHistory g origin o (h ++ e ∷ []) (counted w) (saturated (done + 1))
  line_stands = record { serves = line_serves reply refl x.effect; flight = flight_then; goals = goals_then; numbers = numbers_then }
