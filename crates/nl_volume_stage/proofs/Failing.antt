-- A line keeps the number with which its staging failed: it is above each earlier one.
use Rattle.std.proofs.Common.{◌≡◌, ◌≢◌, ◌⊎◌, inl, inr, ⊎_elim, ℕ, ◌<◌, List, length, Option, Some, None, refl, sym, ap, subst, ◌∙◌, arith}
use Rattle.std.specs.Prelude.{IfSome, slice_get}
use Rattle.std.proofs.lemmas.Bool.{cases_eq}
use Rattle.std.proofs.lemmas.List.{set-get_or}
use Rattle.nl_field.specs.CrashStates.{top}
use Rattle.nl_field.specs.Members as members
use Rattle.nl_tree.specs.Causes.{IsSumSince, eio_of, fault_sum}
use Rattle.nl_tree.specs.declared.call.Call.{Call}
use Rattle.nl_tree.specs.declared.reply.FaultReply.{FaultReply}
use Rattle.nl_tree.specs.declared.reply.FaultReply.TheVariants.{Eio, Erofs, Eworn, Edamaged}
use Rattle.nl_tree.proofs.FaultProofs.{fault_laws}
use Rattle.nl_flight.specs.Flight.{InFlight, IsFlight, begun, carried, of_worker}
use Rattle.nl_flight.specs.declared.page.FlightPage.{FlightPage}
use Rattle.nl_iface.specs.Calls.{StoresPages}
use Rattle.nl_iface.specs.Device.{IsVolumeShape}
use Rattle.nl_iface.specs.declared.counts.Counts.{Ghosts}
use Rattle.nl_core.specs.Programming.{HasLineOrNone, line_of}
use Rattle.nl_core.specs.Lines.{notes_fault}
use Rattle.nl_core.specs.declared.state.Core.{Core}
use Rattle.nl_core.proofs.Lines.{carried_alike}
use Rattle.nl_calls_steps.proofs.LineEnds.{flight_step, other_lines}
use Rattle.nl_turns.specs.History.{Opening, fault_of, opening_counts}
use Rattle.nl_turns.specs.Served.{IsLineOf}
use Rattle.nl_turns.specs.declared.entry.Entry.{Entry}
use Rattle.nl_calls_steps.specs.Calls.{counts_of}
use Rattle.nl_calls_write.specs.Calls.{IsStagedPage}
use Rattle.nl_volume_stage.specs.Standing.{FlightIsOfLines, IsInFlight, FaultReplyHasCause, NumbersDiffer, RepresentsHistory}
use Rattle.nl_volume_stage.specs.Turns.{AreCounts, FailsSince, GoalsStay}
use Rattle.nl_volume_stage.proofs.Lines.{line_cases, one_call_of, other_with, own_with}
use Rattle.nl_calls_steps.proofs.LeavesTree.{step_goes}
use Rattle.nl_volume_stage.proofs.Standing.{calls_stand_with}

module _ {D : Type 0} (g : Ghosts D) (origin : Core D) (o : Opening) (h : List Entry) (start now : Core D) (done : ℕ) (a : RepresentsHistory g origin o h start done) (b : RepresentsHistory g origin o h now done) (f : FailsSince g start now)
    (worker line : ℕ) (call : Call) (known : worker < 8) (of : IsLineOf o worker line call) (has : HasLineOrNone now.flight worker line) (volume : IsVolumeShape (g.shape now.device)) (stores : g.tells → StoresPages g now.device) (most : AreCounts g now) where
  abbrev n : ℕ
  n = fault_sum (counts_of g now.device)

  abbrev pub v : Core D
  v = notes_fault g worker line now

  abbrev z : InFlight
  z = record (line_of now.flight worker line) { fault = n }

  in_now : worker < length now.flight
  in_now = let eight = b.serves.core.flight.eight in omega (arith, known, eight)

  own : of_worker v.flight worker ≡ z
  own = own_with now.flight worker z in_now

  others : (w : ℕ) → w ≢ worker → of_worker v.flight w ≡ of_worker now.flight w
  others w far = other_with now.flight worker w z far

  same_pages : z.pages ≡ (of_worker now.flight worker).pages
  same_pages = ⊎_elim (λ is. ap (λ (x : InFlight). x.pages) is.1 ∙ sym (b.serves.core.flight.idle worker is.0).0) (λ is. ap (λ (x : InFlight). x.pages) is.2) (line_cases now.flight worker line has)

  same_carried : carried v.flight ≡ carried now.flight
  same_carried = carried_alike now.flight worker in_now z (of_worker now.flight worker) same_pages ∙ ap carried (set-get_or now.flight worker (begun 0))

  line_is : z.line ≡ line
  line_is = ⊎_elim (λ is. ap (λ (x : InFlight). x.line) is.1) (λ is. ap (λ (x : InFlight). x.line) is.2 ∙ is.0) (line_cases now.flight worker line has)

  staged_in : (place : ℕ) (q : FlightPage) → slice_get z.pages place ≡ Some q → IsStagedPage g now.device call place q
  staged_in place q at = by (b.flight worker)
    where
      was : slice_get (of_worker now.flight worker).pages place ≡ Some q
      was = ap (λ (xs : List FlightPage). slice_get xs place) (sym same_pages) ∙ at

      by : (((of_worker now.flight worker).line ≡ 0) × ((of_worker now.flight worker).fault ≡ 0)) ⊎ IsInFlight g o now.device worker (of_worker now.flight worker) → IsStagedPage g now.device call place q
      by (inl none) = absurd (cc (subst (λ (xs : List FlightPage). slice_get xs place ≡ Some q) (b.serves.core.flight.idle worker none.0).0 was))
      by (inr is) =
          let some : (of_worker now.flight worker).line ≢ 0 = λ none. let m = is.known.numbered in let off : ⊥ = omega (arith, m, none) in off in
          let same : (of_worker now.flight worker).line ≡ line = ⊎_elim (λ none. absurd (some none.0)) (λ k. k.0) (line_cases now.flight worker line has) in
          subst (λ c. IsStagedPage g now.device c place q) (one_call_of o worker worker line is.call call (subst (λ l. IsLineOf o worker l is.call) same is.known) of) (is.staged place q was)

  sum_is : IsSumSince (opening_counts o) (counts_of g now.device) n
  sum_is = fault_laws.cause (opening_counts o) (counts_of g start.device) (counts_of g now.device) a.serves.since f.later f.rose

  flight_with : FlightIsOfLines g o v.device v.flight
  flight_with w = by (cases_eq w worker)
    where
      here : IsInFlight g o now.device worker z
      here = record { call = call; known = subst (λ l. IsLineOf o worker l call) (sym line_is) of; staged = staged_in; fault = λ some. sum_is }

      by : (w ≡ worker) ⊎ (w ≢ worker) → (((of_worker v.flight w).line ≡ 0) × ((of_worker v.flight w).fault ≡ 0)) ⊎ IsInFlight g o v.device w (of_worker v.flight w)
      by (inl at) = inr (subst (λ x. IsInFlight g o now.device x (of_worker v.flight x)) (sym at) (subst (λ (x : InFlight). IsInFlight g o now.device worker x) (sym own) here))
      by (inr far) = subst (λ (x : InFlight). ((x.line ≡ 0) × (x.fault ≡ 0)) ⊎ IsInFlight g o now.device w x) (sym (others w far)) (b.flight w)

  -- an earlier number is below it, or it is the greatest
  above_mark : (e : Entry) (r : Option FaultReply) (m : ℕ) → IfSome r (FaultReplyHasCause g.tells o (counts_of g start.device) e) → eio_of r ≡ Some m → n ≡ m → m ≡ top
  above_mark e None m is at same = cc at
  above_mark e (Some (Eio k)) m is at same = let eq : k ≡ m = cc at in ⊎_elim (λ low. absurd (let off : ⊥ = omega (arith, low, eq, same) in off)) (λ end. sym same ∙ end)
      (fault_laws.above (opening_counts o) (counts_of g start.device) (counts_of g now.device) k is.2 f.later f.rose)
  above_mark e (Some (Erofs k)) m is at same = cc at
  above_mark e (Some Eworn) m is at same = cc at
  above_mark e (Some (Edamaged wanted found)) m is at same = cc at

  -- a number that was kept is above too
  above_kept : (w : ℕ) → (of_worker now.flight w).fault ≢ 0 → n ≡ (of_worker now.flight w).fault → n ≡ top
  above_kept w some same = ⊎_elim (λ stays. by (a.flight w) stays) (λ none. absurd (some none)) (f.faults w)
    where
      by : (((of_worker start.flight w).line ≡ 0) × ((of_worker start.flight w).fault ≡ 0)) ⊎ IsInFlight g o start.device w (of_worker start.flight w) → (of_worker now.flight w).fault ≡ (of_worker start.flight w).fault → n ≡ top
      by (inl none) stays = absurd (some (stays ∙ none.1))
      by (inr is) stays = ⊎_elim (λ low. absurd (let off : ⊥ = omega (arith, low, same, stays) in off)) (λ end. end)
          (fault_laws.above (opening_counts o) (counts_of g start.device) (counts_of g now.device) (of_worker start.flight w).fault (is.fault (λ none. some (stays ∙ none))) f.later f.rose)

  fault_here : (of_worker v.flight worker).fault ≡ n
  fault_here = ap (λ (x : InFlight). x.fault) own

  numbers_with : NumbersDiffer h v.flight v.stopped
  numbers_with = record {
    past = b.numbers.past;
    kept = λ w e m had is same. kept_at (cases_eq w worker) e m had is same;
    apart = λ w w' far some same. apart_at (cases_eq w worker) (cases_eq w' worker) far some same;
    one = b.numbers.one;
  }
    where
      kept_at : {w : ℕ} → (w ≡ worker) ⊎ (w ≢ worker) → (e : Entry) (m : ℕ) → members.Has h e → eio_of (fault_of e.fault) ≡ Some m → (of_worker v.flight w).fault ≡ m → m ≡ top
      kept_at {w} (inl here) e m had is same = above_mark e (fault_of e.fault) m (a.serves.marks e had) is (sym fault_here ∙ (ap (λ x. (of_worker v.flight x).fault) (sym here) ∙ same))
      kept_at {w} (inr far) e m had is same = b.numbers.kept w e m had is (ap (λ (x : InFlight). x.fault) (sym (others w far)) ∙ same)

      apart_at : {w w' : ℕ} → (w ≡ worker) ⊎ (w ≢ worker) → (w' ≡ worker) ⊎ (w' ≢ worker) → w ≢ w' → (of_worker v.flight w).fault ≢ 0 → (of_worker v.flight w).fault ≡ (of_worker v.flight w').fault → (of_worker v.flight w).fault ≡ top
      apart_at {w} {w'} (inl here) (inl here') far some same = absurd (far (here ∙ sym here'))
      apart_at {w} {w'} (inl here) (inr far') far some same =
          let at : (of_worker v.flight w).fault ≡ n = ap (λ x. (of_worker v.flight x).fault) here ∙ fault_here in
          let two : n ≡ (of_worker now.flight w').fault = sym at ∙ (same ∙ ap (λ (x : InFlight). x.fault) (others w' far')) in
          at ∙ above_kept w' (λ none. some (at ∙ (two ∙ none))) two
      apart_at {w} {w'} (inr off) (inl here') far some same =
          let at : (of_worker v.flight w').fault ≡ n = ap (λ x. (of_worker v.flight x).fault) here' ∙ fault_here in
          let one : (of_worker v.flight w).fault ≡ (of_worker now.flight w).fault = ap (λ (x : InFlight). x.fault) (others w off) in
          same ∙ (at ∙ above_kept w (λ none. some (one ∙ none)) (sym at ∙ (sym same ∙ one)))
      apart_at {w} {w'} (inr off) (inr off') far some same =
          let one : (of_worker v.flight w).fault ≡ (of_worker now.flight w).fault = ap (λ (x : InFlight). x.fault) (others w off) in
          let two : (of_worker v.flight w').fault ≡ (of_worker now.flight w').fault = ap (λ (x : InFlight). x.fault) (others w' off') in
          one ∙ b.numbers.apart w w' far (λ none. some (one ∙ none)) (sym one ∙ (same ∙ two))

  goals_with : GoalsStay now.flight v.flight
  goals_with w = by (cases_eq w worker)
    where
      here : ((of_worker v.flight worker).goal ≡ None) ⊎ (((of_worker v.flight worker).goal ≡ (of_worker now.flight worker).goal) × ((of_worker v.flight worker).line ≡ (of_worker now.flight worker).line))
      here = ⊎_elim
          (λ is. inl (ap (λ (x : InFlight). x.goal) own ∙ ap (λ (x : InFlight). x.goal) is.1))
          (λ is. inr (ap (λ (x : InFlight). x.goal) own ∙ ap (λ (x : InFlight). x.goal) is.2, ap (λ (x : InFlight). x.line) own ∙ ap (λ (x : InFlight). x.line) is.2))
          (line_cases now.flight worker line has)

      by : (w ≡ worker) ⊎ (w ≢ worker) → ((of_worker v.flight w).goal ≡ None) ⊎ (((of_worker v.flight w).goal ≡ (of_worker now.flight w).goal) × ((of_worker v.flight w).line ≡ (of_worker now.flight w).line))
      by (inl at) = subst (λ k. ((of_worker v.flight k).goal ≡ None) ⊎ (((of_worker v.flight k).goal ≡ (of_worker now.flight k).goal) × ((of_worker v.flight k).line ≡ (of_worker now.flight k).line))) (sym at) here
      by (inr far) = inr (ap (λ (x : InFlight). x.goal) (others w far), ap (λ (x : InFlight). x.line) (others w far))

  pub failure_noted : IsFlight v.flight → RepresentsHistory g origin o h v done
  failure_noted lines = calls_stand_with g origin o h now v done b
      (record {
        on = record {
          core = other_lines g now v.flight b.serves.core volume stores lines same_carried;
          counts = record { clock = most.clock; write_faults = most.write_faults };
          most = 0;
          goes = step_goes g now v b.serves.core volume (flight_step g now v.flight) refl (λ page_of_stamp tree runs. runs);
        };
        flight = flight_with;
        goals = goals_with;
      })
      numbers_with
