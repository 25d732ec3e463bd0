-- A sync whose goal is fixed, and whose units are staged one by one.
use Rattle.std.proofs.Common.{◌≡◌, ◌≢◌, ◌⊎◌, inl, inr, ⊎_elim, ℕ, ◌+◌, ◌-◌, ◌<◌, ◌≤◌, ◌==◌, Bool, true, false, cond, List, [], ◌∷◌, ◌++◌, length, map, Option, Some, None, refl, sym, ap, subst, ◌∙◌, arith, eq-eqb, ne_eqb}
use Rattle.std.specs.Prelude.{IfSome, slice_get}
use Rattle.std.proofs.lemmas.Bool.{cases_eq, le-ltb, lt-ltb, true≢false}
use Rattle.nl_field.specs.CrashStates.{saturated}
use Rattle.nl_tree.specs.Causes.{FaultRose, IsSumSince, LostHasCause, fault_sum}
use Rattle.nl_tree.specs.declared.call.Call.TheVariants.{Sync}
use Rattle.nl_tree.specs.declared.turn.Stage.{Stage}
use Rattle.nl_tree.specs.declared.turn.Stage.TheVariants as stage
use Rattle.nl_core_callbacks.specs.Handled.{nameless_line}
use Rattle.nl_flight.specs.Flight.{InFlight, IsFlight, of_worker}
use Rattle.nl_flight.specs.declared.page.FlightPage.{FlightPage}
use Rattle.nl_iface.specs.Calls.{StoresPages}
use Rattle.nl_iface.specs.Device.{IsVolumeShape}
use Rattle.nl_iface.specs.declared.counts.Counts.{Ghosts}
use Rattle.nl_core.specs.Calls.{KeepsLines}
use Rattle.nl_core.specs.Core.{IsCore}
use Rattle.nl_core.specs.Goes.{PreservesVolume}
use Rattle.nl_core.specs.Lines.{fixes_goal, notes_fault, with_goal}
use Rattle.nl_core.specs.Programming.{HasLineOrNone, line_of}
use Rattle.nl_core.specs.LastCommit.{LeavesMedium}
use Rattle.nl_core.specs.Units.{DoesUnit, goal_of, goal_or, is_unit_left, most_units, units_for}
use Rattle.nl_core.specs.declared.state.Core.{Core}
use Rattle.nl_core.proofs.LastCommits.{leaves_none}
use Rattle.nl_core.proofs.Onward.{goes_then}
use Rattle.nl_core.proofs.Reached.{few_units}
use Rattle.nl_calls_steps.proofs.LeavesTree.{step_goes}
use Rattle.nl_calls_steps.proofs.LineEnds.{flight_step}
use Rattle.nl_field.specs.declared.answers.VirtualWrite.{VirtualWrite}
use Rattle.nl_field.specs.declared.answers.VirtualWrite.TheVariants as write
use Rattle.nl_calls_steps.specs.Calls.{OtherLinesStay, counts_of}
use Rattle.nl_calls_write.specs.Calls.{IsStagedPage}
use Rattle.nl_turns.specs.History.{Opening, effects, opening_counts}
use Rattle.nl_turns.specs.Served.{IsLineOf, is_fault, is_staged, stage_entry}
use Rattle.nl_turns.specs.declared.entry.Entry.{Entry}
use Rattle.nl_volume_stage.specs.Serving.{left_in_flight, some_number, staged_fault, to_stage_of, units_to_stage}
use Rattle.nl_volume_stage.specs.StagedPages.{EndsTried, KeepsLinePages, flight_of}
use Rattle.nl_volume_stage.specs.Staging.{FindsUnit, StagesTurn, StandsAfterStaging, TellsUnit}
use Rattle.nl_volume_stage.specs.Standing.{FlightIsOfLines, GoalsAreKept, IsGoal, IsInFlight, RepresentsHistory}
use Rattle.nl_volume_stage.specs.Turns.{AreCounts, FaultsStay, PreservesCore}
use Rattle.nl_volume_stage.proofs.Effects.{count_so_far}
use Rattle.nl_volume_stage.proofs.Failing.{failure_noted}
use Rattle.nl_volume_stage.proofs.Histories.{goal_more, goal_new}
use Rattle.nl_volume_stage.proofs.Lines.{line_cases, one_call_of, other_with, own_with}
use Rattle.nl_volume_stage.proofs.Pages.{own_pages}
use Rattle.nl_volume_stage.proofs.Serving.{GoalsWithin, keeps_lines_stands, never_fall, room_at, room_beside, some_of}
use Rattle.nl_volume_stage.proofs.Standing.{calls_serve, numbers_stay, quiet_stands}

-- ---- the goal is fixed

module _ {D : Type 0} (g : Ghosts D) (u : Core D) (worker line : ℕ) (core : IsCore g u) (known : worker < 8) (some : 0 < line) (has : HasLineOrNone u.flight worker line) where
  abbrev pub z : InFlight
  z = with_goal (line_of u.flight worker line) u.count

  abbrev pub fixed : Core D
  fixed = fixes_goal worker line u

  in_u : worker < length u.flight
  in_u = let eight = core.flight.eight in omega (arith, known, eight)

  pub fixed_own : of_worker fixed.flight worker ≡ z
  fixed_own = own_with u.flight worker z in_u

  pub fixed_others : (w : ℕ) → w ≢ worker → of_worker fixed.flight w ≡ of_worker u.flight w
  fixed_others w far = other_with u.flight worker w z far

  fixed_line : z.line ≡ line
  fixed_line = ⊎_elim (λ is. ap (λ (x : InFlight). x.line) is.1) (λ is. ap (λ (x : InFlight). x.line) is.2 ∙ is.0) (line_cases u.flight worker line has)

  fixed_pages : z.pages ≡ (of_worker u.flight worker).pages
  fixed_pages = ⊎_elim (λ is. ap (λ (x : InFlight). x.pages) is.1 ∙ sym (core.flight.idle worker is.0).0) (λ is. ap (λ (x : InFlight). x.pages) is.2) (line_cases u.flight worker line has)

  -- the goal that it had as this line is the one that it keeps
  pub goal_before : (line_of u.flight worker line).goal ≡ goal_of u.flight worker line
  goal_before = ⊎_elim
      (λ is.
      ap (λ (x : InFlight). x.goal) is.1
      ∙ sym (ap (λ b. cond b (of_worker u.flight worker).goal None) (ne_eqb (of_worker u.flight worker).line line (λ same. let none = is.0 in let off : ⊥ = omega (arith, same, none, some) in off))))
      (λ is. ap (λ (x : InFlight). x.goal) is.2 ∙ sym (ap (λ b. cond b (of_worker u.flight worker).goal None) (eq-eqb (of_worker u.flight worker).line line is.0)))
      (line_cases u.flight worker line has)

  abbrev pub goal : ℕ
  goal = goal_or (goal_of u.flight worker line) u.count

  pub goal_is : goal_or (line_of u.flight worker line).goal u.count ≡ goal
  goal_is = ap (λ (x : Option ℕ). goal_or x u.count) goal_before

  pub fixed_goal : goal_of fixed.flight worker line ≡ Some goal
  fixed_goal =
      ap (λ (x : InFlight). cond (x.line == line) x.goal None) fixed_own
      ∙ ap (λ b. cond b z.goal None) (eq-eqb z.line line fixed_line) ∙ ap Some goal_is

  fixed_fault : staged_fault fixed.flight worker line ≡ staged_fault u.flight worker line
  fixed_fault =
      ap (λ (x : InFlight). cond (x.line == line) (some_number x.fault) None) fixed_own
      ∙ ap (λ b. cond b (some_number z.fault) None) (eq-eqb z.line line fixed_line)
      ∙ ⊎_elim
      (λ is. ap (λ (x : InFlight). some_number x.fault) is.1
      ∙ sym (ap (λ b. cond b (some_number (of_worker u.flight worker).fault) None) (ne_eqb (of_worker u.flight worker).line line (λ same. let none = is.0 in let off : ⊥ = omega (arith, same, none, some) in off))))
      (λ is. ap (λ (x : InFlight). some_number x.fault) is.2 ∙ sym (ap (λ b. cond b (some_number (of_worker u.flight worker).fault) None) (eq-eqb (of_worker u.flight worker).line line is.0)))
      (line_cases u.flight worker line has)

  -- no staging failed
  pub fixed_faults : FaultsStay u.flight fixed.flight
  fixed_faults w = by (cases_eq w worker)
    where
      here : ((of_worker fixed.flight worker).fault ≡ (of_worker u.flight worker).fault) ⊎ ((of_worker fixed.flight worker).fault ≡ 0)
      here = ⊎_elim (λ none. inr (ap (λ (x : InFlight). x.fault) fixed_own ∙ ap (λ (x : InFlight). x.fault) none.1)) (λ is. inl (ap (λ (x : InFlight). x.fault) fixed_own ∙ ap (λ (x : InFlight). x.fault) is.2)) (line_cases u.flight worker line has)

      by : (w ≡ worker) ⊎ (w ≢ worker) → ((of_worker fixed.flight w).fault ≡ (of_worker u.flight w).fault) ⊎ ((of_worker fixed.flight w).fault ≡ 0)
      by (inl at) = subst (λ x. ((of_worker fixed.flight x).fault ≡ (of_worker u.flight x).fault) ⊎ ((of_worker fixed.flight x).fault ≡ 0)) (sym at) here
      by (inr far) = inl (ap (λ (x : InFlight). x.fault) (fixed_others w far))

  module _ (after : IsCore g fixed) (most : AreCounts g fixed) (goes : PreservesVolume g 0 u fixed) (origin : Core D) (o : Opening) (h : List Entry) (done : ℕ) (s : RepresentsHistory g origin o h u done) (of : IsLineOf o worker line Sync) where
    on : PreservesCore g u fixed
    on = record { core = after; counts = most; most = 0; goes = goes }

    staged_in : (place : ℕ) (q : FlightPage) → slice_get z.pages place ≡ Some q → IsStagedPage g u.device Sync place q
    staged_in place q at = by (s.flight worker)
      where
        was : slice_get (of_worker u.flight worker).pages place ≡ Some q
        was = ap (λ (xs : List FlightPage). slice_get xs place) (sym fixed_pages) ∙ at

        by : (((of_worker u.flight worker).line ≡ 0) × ((of_worker u.flight worker).fault ≡ 0)) ⊎ IsInFlight g o u.device worker (of_worker u.flight worker) → IsStagedPage g u.device Sync place q
        by (inl none) = absurd (cc (subst (λ (xs : List FlightPage). slice_get xs place ≡ Some q) (core.flight.idle worker none.0).0 was))
        by (inr is) =
            let positive : (of_worker u.flight worker).line ≢ 0 = λ none. let m = is.known.numbered in let off : ⊥ = omega (arith, m, none) in off in
            let same : (of_worker u.flight worker).line ≡ line = ⊎_elim (λ none. absurd (positive none)) (λ k. k) has in
            subst (λ c. IsStagedPage g u.device c place q) (one_call_of o worker worker line is.call Sync (subst (λ l. IsLineOf o worker l is.call) same is.known) of) (is.staged place q was)

    fault_in : z.fault ≢ 0 → IsSumSince (opening_counts o) (counts_of g u.device) z.fault
    fault_in off = ⊎_elim
        (λ is. absurd (off (ap (λ (x : InFlight). x.fault) is.1)))
        (λ is.
        let same : z.fault ≡ (of_worker u.flight worker).fault = ap (λ (x : InFlight). x.fault) is.2 in
        ⊎_elim (λ none. absurd (is.1 none.0))
        (λ (f : IsInFlight g o u.device worker (of_worker u.flight worker)). subst (IsSumSince (opening_counts o) (counts_of g u.device)) (sym same) (f.fault (λ none. off (same ∙ none))))
        (s.flight worker))
        (line_cases u.flight worker line has)

    flight_then : FlightIsOfLines g o fixed.device fixed.flight
    flight_then w = by (cases_eq w worker)
      where
        here : IsInFlight g o u.device worker z
        here = record { call = Sync; known = subst (λ l. IsLineOf o worker l Sync) (sym fixed_line) of; staged = staged_in; fault = fault_in }

        by : (w ≡ worker) ⊎ (w ≢ worker) → (((of_worker fixed.flight w).line ≡ 0) × ((of_worker fixed.flight w).fault ≡ 0)) ⊎ IsInFlight g o fixed.device w (of_worker fixed.flight w)
        by (inl at) = inr (subst (λ x. IsInFlight g o u.device x (of_worker fixed.flight x)) (sym at) (subst (λ (x : InFlight). IsInFlight g o u.device worker x) (sym fixed_own) here))
        by (inr far) = subst (λ (x : InFlight). ((x.line ≡ 0) × (x.fault ≡ 0)) ⊎ IsInFlight g o u.device w x) (sym (fixed_others w far)) (s.flight w)

    -- the goal is that of an entry of the history that staged the line
    own_goal : IsGoal o h u.count line (goal_or (line_of u.flight worker line).goal u.count) → GoalsAreKept o h fixed.count fixed.flight
    own_goal is w = by (cases_eq w worker)
      where
        here : IfSome z.goal (IsGoal o h u.count z.line)
        here = subst (λ l. IsGoal o h u.count l (goal_or (line_of u.flight worker line).goal u.count)) (sym fixed_line) is

        by : (w ≡ worker) ⊎ (w ≢ worker) → IfSome (of_worker fixed.flight w).goal (IsGoal o h u.count (of_worker fixed.flight w).line)
        by (inl at) = subst (λ x. IfSome (of_worker fixed.flight x).goal (IsGoal o h u.count (of_worker fixed.flight x).line)) (sym at)
            (subst (λ (x : InFlight). IfSome x.goal (IsGoal o h u.count x.line)) (sym fixed_own) here)
        by (inr far) = subst (λ (x : InFlight). IfSome x.goal (IsGoal o h u.count x.line)) (sym (fixed_others w far)) (s.goals w)

    pub fixed_stands : IsGoal o h u.count line (goal_or (line_of u.flight worker line).goal u.count) → RepresentsHistory g origin o h fixed done
    fixed_stands is = record {
      serves = calls_serve g origin o h u fixed done s.serves on;
      flight = flight_then;
      goals = own_goal is;
      numbers = numbers_stay g origin o h u fixed done s on fixed_faults;
    }

  -- with the entry of the staging, the goal has its justification
  pub fixed_then : IsCore g fixed → AreCounts g fixed → PreservesVolume g 0 u fixed → (answer : Stage) → StandsAfterStaging g worker line Sync u fixed answer
  fixed_then after most goes answer origin o h done s of =
      let e = stage_entry line answer in
      let longer = quiet_stands g origin o h u done e s (record { line = refl; fault = refl; synced = refl }) in
      fixed_stands after most goes origin o (h ++ e ∷ []) done longer of (justified o h e (count_so_far g origin o h u done s.serves) (s.goals worker) (eq-eqb line line refl))
    where
      justified : (o : Opening) (h : List Entry) (e : Entry) → u.count ≡ saturated (o.count + effects h) → IfSome (of_worker u.flight worker).goal (IsGoal o h u.count (of_worker u.flight worker).line) → (e.staged == line) ≡ true
          → IsGoal o (h ++ e ∷ []) u.count line (goal_or (line_of u.flight worker line).goal u.count)
      justified o h e all old is = ⊎_elim
          (λ new. subst (λ (x : Option ℕ). IsGoal o (h ++ e ∷ []) u.count line (goal_or x u.count)) (sym (ap (λ (x : InFlight). x.goal) new.1)) (goal_new o h e u.count line is all))
          (λ had.
          subst (λ (x : Option ℕ). IsGoal o (h ++ e ∷ []) u.count line (goal_or x u.count)) (sym (ap (λ (x : InFlight). x.goal) had.2))
          (by (of_worker u.flight worker).goal (subst (λ l. IfSome (of_worker u.flight worker).goal (IsGoal o h u.count l)) had.0 old)))
          (line_cases u.flight worker line has)
        where
          by : (x : Option ℕ) → IfSome x (IsGoal o h u.count line) → IsGoal o (h ++ e ∷ []) u.count line (goal_or x u.count)
          by None at = goal_new o h e u.count line is all
          by (Some n) at = goal_more o h e u.count line n at

  pub line_fixed : (of_worker fixed.flight worker).line ≡ line
  line_fixed = ap (λ (x : InFlight). x.line) fixed_own ∙ fixed_line

  -- what a core with these lines has to stage of the line
  pub room_fixed : (w : Core D) → cond ((of_worker fixed.flight worker).line == line) (left_in_flight w (of_worker fixed.flight worker)) (16 + most_units) ≡ (16 - length (of_worker u.flight worker).pages) + units_for w goal
  room_fixed w =
      ap (λ (x : InFlight). cond (x.line == line) (left_in_flight w x) (16 + most_units)) fixed_own
      ∙ (room_at w z line fixed_line ∙ (λ i. (16 - length (fixed_pages i)) + units_for w (goal_is i)))

  pub others_fixed : OtherLinesStay worker u.flight fixed.flight
  others_fixed w far = ap nameless_line (fixed_others w far)

  pub fault_fixed : staged_fault fixed.flight worker line ≡ staged_fault u.flight worker line
  fault_fixed = fixed_fault

  pub pages_fixed : KeepsLinePages worker line u.flight fixed.flight
  pages_fixed =
      ap (λ (x : InFlight). map (λ (page : FlightPage). (page.tag, page.at.stamp)) x.pages) fixed_own
      ∙ ap (λ (xs : List FlightPage). map (λ (page : FlightPage). (page.tag, page.at.stamp)) xs) fixed_pages
      ∙ own_pages u.flight worker line some has (λ none. (core.flight.idle worker none).0)

  pub leaves_fixed : LeavesMedium g u fixed
  leaves_fixed = record { medium = (leaves_none g u).medium; commit = record { begun = refl; moment = refl; committed = refl } }

  pub has_fixed : HasLineOrNone fixed.flight worker line
  has_fixed = inr line_fixed

  -- no unit was left
  pub turn_whole : IsCore g fixed → AreCounts g fixed → PreservesVolume g 0 u fixed → StagesTurn g worker line Sync u fixed stage.Whole
  turn_whole after most goes = record {
    most = 0;
    goes = goes;
    on = fixed_then after most goes stage.Whole;
    others = others_fixed;
    fault = fault_fixed;
    falls = λ no. absurd (cc no);
    failed = λ no. absurd (cc no);
    lost = λ x f no. absurd (cc no);
  }

  pub due_within : GoalsWithin u → goal ≤ u.count
  due_within within = either ((of_worker u.flight worker).line == line) (of_worker u.flight worker).goal (within worker)
    where
      either : (b : Bool) (x : Option ℕ) → IfSome x (λ n. n ≤ u.count) → goal_or (cond b x None) u.count ≤ u.count
      either true None is = omega arith
      either true (Some n) is = is
      either false x is = omega arith

  pub none_left : goal ≤ u.committed → is_unit_left Sync (goal_of u.flight worker line) u.committed u.count ≡ false
  none_left low = le-ltb u.committed goal low

  pub some_left : u.committed < goal → is_unit_left Sync (goal_of u.flight worker line) u.committed u.count ≡ true
  some_left more = lt-ltb u.committed goal more

  pub tells_whole : goal ≤ u.committed → TellsUnit g worker line Sync u fixed stage.Whole
  tells_whole low = record {
    whole = λ is. none_left low;
    none = λ is no. inl refl;
    done = λ is no. absurd (cc no);
    goal = λ is off. fixed_goal;
  }

-- the medium is not as it was told, and that is the cause
pub lost_cause : (tells : Type 0) (wanted found : ℕ) → LostHasCause tells wanted found → (x f : ℕ) → stage.Lost wanted found ≡ stage.Lost x f → LostHasCause tells x f
lost_cause tells wanted found is x f same =
    let one : wanted ≡ x = cc same in
    let two : found ≡ f = cc same in
    subst (λ k. LostHasCause tells k f) one (subst (λ k. LostHasCause tells wanted k) two is)

-- ---- a unit is done, or is not

module _ {D : Type 0} (g : Ghosts D) (u : Core D) (worker line : ℕ) (core : IsCore g u) (known : worker < 8) (some : 0 < line) (has : HasLineOrNone u.flight worker line) (within : GoalsWithin u) (w : Core D) (done : VirtualWrite)
    (after : IsCore g (fixes_goal worker line u)) (fixed_counts : AreCounts g (fixes_goal worker line u)) (fixed_goes : PreservesVolume g 0 u (fixes_goal worker line u)) (then_core : IsCore g w) (most : AreCounts g w) (goes : PreservesVolume g 1 (fixes_goal worker line u) w)
    (does : DoesUnit g (fixes_goal worker line u) w done) where
  abbrev v : Core D
  v = fixes_goal worker line u

  abbrev due : ℕ
  due = goal_or (goal_of u.flight worker line) u.count

  same_lines : KeepsLines v w
  same_lines = ap (λ (f : List InFlight). map nameless_line f) does.same_flight

  pub unit_goes : PreservesVolume g 1 u w
  unit_goes = goes_then g u v w 0 1 fixed_goes goes

  unit_on : (answer : Stage) → StandsAfterStaging g worker line Sync u w answer
  unit_on answer origin o h n s of = keeps_lines_stands g origin o (h ++ stage_entry line answer ∷ []) v w n (fixed_then g u worker line core known some has after fixed_counts fixed_goes answer origin o h n s of) 1 then_core goes same_lines most

  unit_others : OtherLinesStay worker u.flight w.flight
  unit_others k far = ap (λ (f : List InFlight). nameless_line (of_worker f k)) does.same_flight ∙ others_fixed g u worker line core known some has k far

  unit_fault : staged_fault w.flight worker line ≡ staged_fault u.flight worker line
  unit_fault = ap (λ (f : List InFlight). staged_fault f worker line) does.same_flight ∙ fault_fixed g u worker line core known some has

  unit_line : HasLineOrNone w.flight worker line
  unit_line = inr (ap (λ (f : List InFlight). (of_worker f worker).line) does.same_flight ∙ line_fixed g u worker line core known some has)

  unit_pages : KeepsLinePages worker line u.flight w.flight
  unit_pages = ap (λ (f : List InFlight). flight_of f worker) does.same_flight ∙ pages_fixed g u worker line core known some has

  -- no staging failed
  unit_faults : FaultsStay u.flight w.flight
  unit_faults k = subst (λ (f : List InFlight). ((of_worker f k).fault ≡ (of_worker u.flight k).fault) ⊎ ((of_worker f k).fault ≡ 0)) (sym does.same_flight) (fixed_faults g u worker line core known some has k)

  -- the goal of the line then
  pub unit_goal : goal_of w.flight worker line ≡ Some due
  unit_goal = ap (λ (f : List InFlight). goal_of f worker line) does.same_flight ∙ fixed_goal g u worker line core known some has

  room_then : to_stage_of w worker line ≡ (16 - length (of_worker u.flight worker).pages) + units_for w due
  room_then =
      ap (λ (f : List InFlight). cond ((of_worker f worker).line == line) (left_in_flight w (of_worker f worker)) (16 + most_units)) does.same_flight
      ∙ room_fixed g u worker line core known some has w

  room_before : (16 - length (of_worker u.flight worker).pages) + units_for u due ≤ to_stage_of u worker line
  room_before = ⊎_elim
      (λ is.
      let far = room_beside u (of_worker u.flight worker) line (λ same. let none = is.0 in let off : ⊥ = omega (arith, same, none, some) in off) in
      let few = few_units g u core due in
      all_most (to_stage_of u worker line) (length (of_worker u.flight worker).pages) (units_for u due) far few)
      (λ is.
      let here = room_at u (of_worker u.flight worker) line is.0 in
      let units = units_most (of_worker u.flight worker).goal (ap (λ b. cond b (of_worker u.flight worker).goal None) (eq-eqb (of_worker u.flight worker).line line is.0)) in
      sum_most (to_stage_of u worker line) (16 - length (of_worker u.flight worker).pages) (units_for u due) (units_to_stage u (of_worker u.flight worker).goal) here units)
      (line_cases u.flight worker line has)
    where
      all_most : (a n x : ℕ) → a ≡ 16 + most_units → x ≤ 196 → (16 - n) + x ≤ a
      all_most a n x is few = omega (arith, is, few)

      sum_most : (a n x y : ℕ) → a ≡ n + y → x ≤ y → n + x ≤ a
      sum_most a n x y is low = omega (arith, is, low)

      units_most : (x : Option ℕ) → goal_of u.flight worker line ≡ x → units_for u due ≤ units_to_stage u x
      units_most None is = few_units g u core due
      units_most (Some n) is = let same : units_for u due ≡ units_for u n = ap (λ (y : Option ℕ). units_for u (goal_or y u.count)) is in le_by (units_for u due) (units_for u n) same
        where
          le_by : (a b : ℕ) → a ≡ b → a ≤ b
          le_by a b same = omega (arith, same)

  falls : done ≡ write.Done → due ≤ u.count → u.committed < due → to_stage_of w worker line < to_stage_of u worker line
  falls is low more =
      let less = does.less is due low more in
      let now = room_then in
      let was = room_before in
      fewer (to_stage_of w worker line) (to_stage_of u worker line) (16 - length (of_worker u.flight worker).pages) (units_for w due) (units_for u due) now less was
    where
      fewer : (a b n x y : ℕ) → a ≡ n + x → x < y → n + y ≤ b → a < b
      fewer a b n x y one two three = omega (arith, one, two, three)

  -- an answer that is no failure
  pub turn_done : (answer : Stage) → is_fault answer ≡ false → (is_staged answer ≡ true → done ≡ write.Done) → due ≤ u.count → u.committed < due → (answer ≡ stage.Fault → ⊥) → ((x f : ℕ) → answer ≡ stage.Lost x f → LostHasCause g.tells x f)
      → StagesTurn g worker line Sync u w answer
  turn_done answer plain staged low more off lost = record {
    most = 1;
    goes = unit_goes;
    on = unit_on answer;
    others = unit_others;
    fault = unit_fault ∙ sym (ap (λ b. cond b (Some (fault_sum (counts_of g w.device))) (staged_fault u.flight worker line)) plain);
    falls = λ is. falls (staged is) low more;
    failed = λ is. absurd (off is);
    lost = lost;
  }

  -- a failure that the line keeps
  module _ (volume : IsVolumeShape (g.shape w.device)) (stores : g.tells → StoresPages g w.device) (rose : FaultRose (counts_of g u.device) (counts_of g w.device)) (lines : IsFlight (notes_fault g worker line w).flight) where
    abbrev pub failed_core : Core D
    failed_core = notes_fault g worker line w

    abbrev own_z : InFlight
    own_z = record (line_of w.flight worker line) { fault = fault_sum (counts_of g w.device) }

    in_w : worker < length w.flight
    in_w = let eight = then_core.flight.eight in omega (arith, known, eight)

    own_failed : of_worker failed_core.flight worker ≡ own_z
    own_failed = own_with w.flight worker own_z in_w

    line_z : own_z.line ≡ line
    line_z = ⊎_elim (λ is. ap (λ (x : InFlight). x.line) is.1) (λ is. ap (λ (x : InFlight). x.line) is.2 ∙ is.0) (line_cases w.flight worker line unit_line)

    positive : fault_sum (counts_of g w.device) ≢ 0
    positive none = ⊎_elim (λ r. omega (arith, none, r)) (λ r. omega (arith, none, r)) rose

    pub turn_failed : StagesTurn g worker line Sync u failed_core stage.Fault
    turn_failed = record {
      most = 1;
      goes = goes_then g u w failed_core 1 0 unit_goes (step_goes g w failed_core then_core volume (flight_step g w failed_core.flight) refl (λ page_of_stamp tree runs. runs));
      on = λ origin o h n s of.
          let e = stage_entry line stage.Fault in
          let start = quiet_stands g origin o h u n e s (record { line = refl; fault = refl; synced = refl }) in
          failure_noted g origin o (h ++ e ∷ []) u w n start (unit_on stage.Fault origin o h n s of) (record { later = never_fall g 1 u w core unit_goes; rose = rose; faults = unit_faults }) worker line Sync known of unit_line volume stores most lines;
      others = λ k far. ap nameless_line (other_with w.flight worker k own_z far) ∙ unit_others k far;
      fault =
          ap (λ (x : InFlight). cond (x.line == line) (some_number x.fault) None) own_failed
          ∙ (ap (λ b. cond b (some_number own_z.fault) None) (eq-eqb own_z.line line line_z) ∙ some_of (fault_sum (counts_of g w.device)) positive);
      falls = λ no. absurd (cc no);
      failed = λ is. rose;
      lost = λ x f no. absurd (cc no);
    }

    pub failed_line : HasLineOrNone failed_core.flight worker line
    failed_line = inr (ap (λ (x : InFlight). x.line) own_failed ∙ line_z)

    pub failed_pages : KeepsLinePages worker line u.flight failed_core.flight
    failed_pages =
        let kept : own_z.pages ≡ (of_worker w.flight worker).pages = ⊎_elim (λ is. ap (λ (x : InFlight). x.pages) is.1 ∙ sym (then_core.flight.idle worker is.0).0) (λ is. ap (λ (x : InFlight). x.pages) is.2) (line_cases w.flight worker line unit_line) in
        ap (λ (x : InFlight). map (λ (page : FlightPage). (page.tag, page.at.stamp)) x.pages) own_failed
        ∙ ap (λ (xs : List FlightPage). map (λ (page : FlightPage). (page.tag, page.at.stamp)) xs) kept
        ∙ unit_pages

    pub failed_goal : goal_of failed_core.flight worker line ≡ Some due
    failed_goal =
        let kept : own_z.goal ≡ (of_worker w.flight worker).goal = ⊎_elim (λ is. ap (λ (x : InFlight). x.goal) is.1 ∙ sym (then_core.flight.idle worker is.0).1) (λ is. ap (λ (x : InFlight). x.goal) is.2) (line_cases w.flight worker line unit_line) in
        ap (λ (x : InFlight). cond (x.line == line) x.goal None) own_failed
        ∙ (ap (λ b. cond b own_z.goal None) (eq-eqb own_z.line line line_z) ∙ (kept ∙ (sym (ap (λ b. cond b (of_worker w.flight worker).goal None) (eq-eqb (of_worker w.flight worker).line line (at_line unit_line))) ∙ unit_goal)))
      where
        at_line : HasLineOrNone w.flight worker line → (of_worker w.flight worker).line ≡ line
        at_line x = ap (λ (f : List InFlight). (of_worker f worker).line) does.same_flight ∙ line_fixed g u worker line core known some has

  -- ---- how a staging of a unit ends

  -- all but the line is as it was before the unit
  finds_fixed : FindsUnit g u v
  finds_fixed = record { kept = leaves_fixed g u worker line core known some has; others = refl }

  due_low : due ≤ u.count → u.committed < due → is_unit_left Sync (goal_of u.flight worker line) u.committed u.count ≡ true
  due_low low more = some_left g u worker line core known some has more

  pub tells_unit : (x : Core D) (answer : Stage) → (answer ≡ stage.Staged → (x ≡ w) × (done ≡ write.Done)) → (answer ≡ stage.Whole → ⊥) → due ≤ u.count → u.committed < due → goal_of x.flight worker line ≡ Some due → TellsUnit g worker line Sync u x answer
  tells_unit x answer staged off low more goal = record {
    whole = λ is. absurd (off is);
    none = λ is no. absurd (true≢false (sym (due_low low more) ∙ no));
    done = λ is at. (v, finds_fixed, subst (λ (y : Core D). DoesUnit g v y write.Done) (sym (staged at).0) (subst (λ (a : VirtualWrite). DoesUnit g v w a) (staged at).1 does));
    goal = λ is far. goal;
  }

  module _ (runs : u.stopped ≡ 0) (volume : IsVolumeShape (g.shape w.device)) (stores : g.tells → StoresPages g w.device) (low : due ≤ u.count) (more : u.committed < due) where
    pub turn_tried : (answer : Stage) (x : Core D) (result : Stage) → StagesTurn g worker line Sync u w answer → EndsTried g worker line answer w x result → StagesTurn g worker line Sync u x result
    turn_tried answer x result is (inl e) = subst (λ (r : Stage). StagesTurn g worker line Sync u x r) (sym e.0) (subst (λ (y : Core D). StagesTurn g worker line Sync u y answer) (sym e.1) is)
    turn_tried answer x result is (inr e) =
        subst (λ (r : Stage). StagesTurn g worker line Sync u x r) (sym e.0)
        (subst (λ (y : Core D). StagesTurn g worker line Sync u y stage.Fault) (sym e.1)
        (turn_failed volume stores (inr (unit_goes.stops.some runs e.2).0) (subst (λ (y : Core D). IsFlight y.flight) e.1 e.3)))

    pub tells_tried : (answer : Stage) (x : Core D) (result : Stage) → (answer ≡ stage.Staged → done ≡ write.Done) → (answer ≡ stage.Whole → ⊥) → EndsTried g worker line answer w x result → TellsUnit g worker line Sync u x result
    tells_tried answer x result is off (inl e) =
        tells_unit x result (λ at. (e.1, is (sym e.0 ∙ at))) (λ at. off (sym e.0 ∙ at)) low more (ap (λ (y : Core D). goal_of y.flight worker line) e.1 ∙ unit_goal)
    tells_tried answer x result is off (inr e) =
        let not_staged : result ≡ stage.Staged → ⊥ = λ at. let same : stage.Fault ≡ stage.Staged = sym e.0 ∙ at in cc same in
        let not_whole : result ≡ stage.Whole → ⊥ = λ at. let same : stage.Fault ≡ stage.Whole = sym e.0 ∙ at in cc same in
        tells_unit x result (λ at. absurd (not_staged at)) not_whole low more
        (ap (λ (y : Core D). goal_of y.flight worker line) e.1 ∙ failed_goal volume stores (inr (unit_goes.stops.some runs e.2).0) (subst (λ (y : Core D). IsFlight y.flight) e.1 e.3))

    pub line_tried : (answer : Stage) (x : Core D) (result : Stage) → EndsTried g worker line answer w x result → HasLineOrNone x.flight worker line
    line_tried answer x result (inl e) = subst (λ (y : Core D). HasLineOrNone y.flight worker line) (sym e.1) unit_line
    line_tried answer x result (inr e) =
        subst (λ (y : Core D). HasLineOrNone y.flight worker line) (sym e.1) (failed_line volume stores (inr (unit_goes.stops.some runs e.2).0) (subst (λ (y : Core D). IsFlight y.flight) e.1 e.3))

    pub pages_tried : (answer : Stage) (x : Core D) (result : Stage) → EndsTried g worker line answer w x result → KeepsLinePages worker line u.flight x.flight
    pages_tried answer x result (inl e) = subst (λ (y : Core D). KeepsLinePages worker line u.flight y.flight) (sym e.1) unit_pages
    pages_tried answer x result (inr e) =
        subst (λ (y : Core D). KeepsLinePages worker line u.flight y.flight) (sym e.1) (failed_pages volume stores (inr (unit_goes.stops.some runs e.2).0) (subst (λ (y : Core D). IsFlight y.flight) e.1 e.3))
