-- What the parts of a staging do to a volume, and what they do together.
use Rattle.std.proofs.lemmas.Bool.{cases_eq}
use Rattle.std.proofs.Common.{◌≡◌, ◌≢◌, ◌⊎◌, inl, inr, ⊎_elim, ℕ, ◌+◌, ◌-◌, ◌<◌, ◌≤◌, ◌==◌, Bool, true, false, cond, List, length, map, Option, Some, None, refl, sym, ap, subst, ◌∙◌, arith, length-append, eq-eqb, ne_eqb}
use Rattle.nl_field.specs.declared.pointer.Tag.{Tag}
use Rattle.nl_tree.specs.Causes.{FaultRose, LostHasCause, fault_sum}
use Rattle.nl_tree.specs.Event.{page_given}
use Rattle.nl_tree.specs.declared.call.Call.{Call}
use Rattle.nl_tree.specs.declared.turn.Stage.{Stage}
use Rattle.nl_tree.specs.declared.turn.Stage.TheVariants as stage
use Rattle.nl_core_callbacks.specs.Handled.{nameless_line}
use Rattle.nl_flight.specs.Flight.{InFlight, IsFlight, begun, of_worker}
use Rattle.nl_flight.specs.declared.page.FlightPage.{FlightPage}
use Rattle.nl_iface.specs.Calls.{StoresPages}
use Rattle.nl_iface.specs.Device.{IsVolumeShape}
use Rattle.nl_iface.specs.declared.counts.Counts.{Ghosts}
use Rattle.nl_core.specs.Calls.{KeepsLines}
use Rattle.nl_core.specs.Core.{IsCore}
use Rattle.nl_core.specs.Dropping.{DropsLine}
use Rattle.nl_core.specs.Goes.{PreservesVolume}
use Rattle.nl_core.specs.Lines.{notes_fault}
use Rattle.nl_core.specs.Programming.{HasLineOrNone, PutsInFlight, behind, line_of, with_page}
use Rattle.nl_core.specs.declared.state.Core.{Core}
use Rattle.nl_core.proofs.Onward.{goes_none, goes_then}
use Rattle.nl_calls_steps.specs.Steps.{ReadsOn}
use Rattle.nl_calls_steps.proofs.LineEnds.{flight_step}
use Rattle.nl_calls_steps.proofs.Stepping.{read_alike}
use Rattle.nl_turns.specs.Served.{is_fault}
use Rattle.nl_calls_steps.specs.Calls.{counts_of}
use Rattle.nl_core.specs.Units.{most_units}
use Rattle.nl_volume_stage.specs.Serving.{left_in_flight, some_number, staged_fault, to_stage_of, units_to_stage}
use Rattle.nl_volume_stage.specs.StagedPages.{EndsTried}
use Rattle.nl_volume_stage.specs.Staging.{IsNextTag, PassesOn, StagesOn}
use Rattle.nl_volume_stage.specs.Turns.{AreCounts, FaultsStay, GoalsStay}
use Rattle.nl_volume_stage.proofs.Failing.{failure_noted}
use Rattle.nl_volume_stage.proofs.Alike.{line_alike}
use Rattle.nl_volume_stage.proofs.Flights.{same_fault, same_line}
use Rattle.nl_volume_stage.proofs.Lines.{dropped_faults, dropped_stands, line_cases, other_with, own_with, put_faults, put_stands}
use Rattle.nl_calls_steps.proofs.LeavesTree.{reads_go, step_goes}
use Rattle.nl_volume_stage.proofs.Serving.{GoalsWithin, alike_count, keeps_lines_stands, never_fall, room_at, room_beside, runs_of, some_of, staged_same, to_stage_less, units_less}
use Rattle.nl_volume_stage.proofs.Standing.{calls_stand}

-- ---- nothing

pub passes_none : {D : Type 0} (g : Ghosts D) (worker line : ℕ) (v : Core D) → IsCore g v → PassesOn g worker line v v
passes_none g worker line v core = record { most = 0; goes = goes_none g v core; on = λ origin o h done s. s; others = λ w far. refl; fault = refl; room = omega arith }

-- ---- reads

module _ {D : Type 0} (g : Ghosts D) (worker line : ℕ) (u v : Core D) (core : IsCore g u) (volume : IsVolumeShape (g.shape u.device)) (formed : g.formed v.device) (stores : g.tells → StoresPages g v.device) (most : AreCounts g v) (r : ReadsOn g u v) (within : GoalsWithin u) where
  same_flight : v.flight ≡ u.flight
  same_flight = ap (λ (x : Core D). x.flight) r.others

  reads_core : IsCore g v
  reads_core = (read_alike g u v volume formed stores r).core core

  pub same_lines : KeepsLines u v
  same_lines = ap (λ (f : List InFlight). map nameless_line f) same_flight

  pub passes_reads : PassesOn g worker line u v
  passes_reads = record {
    most = 0;
    goes = reads_go g u v core volume formed stores r;
    on = λ origin o h done s. keeps_lines_stands g origin o h u v done s 0 reads_core (reads_go g u v core volume formed stores r) same_lines most;
    others = λ w far. line_alike u.flight v.flight w same_lines;
    fault = staged_same u.flight v.flight worker line (line_alike u.flight v.flight worker same_lines);
    room = to_stage_less u v (reads_go g u v core volume formed stores r).onward within worker line (line_alike u.flight v.flight worker same_lines);
  }

-- ---- a call of the core that keeps the lines

pub passes_kept : {D : Type 0} (g : Ghosts D) (worker line : ℕ) (u v : Core D) → IsCore g v → AreCounts g v → (n : ℕ) → PreservesVolume g n u v → KeepsLines u v → GoalsWithin u → PassesOn g worker line u v
passes_kept g worker line u v core most n goes lines within = record {
  most = n;
  goes = goes;
  on = λ origin o h done s. keeps_lines_stands g origin o h u v done s n core goes lines most;
  others = λ w far. line_alike u.flight v.flight w lines;
  fault = staged_same u.flight v.flight worker line (line_alike u.flight v.flight worker lines);
  room = to_stage_less u v goes.onward within worker line (line_alike u.flight v.flight worker lines);
}

pub keeps_line : (u v : List InFlight) (worker line : ℕ) → map nameless_line v ≡ map nameless_line u → HasLineOrNone u worker line → HasLineOrNone v worker line
keeps_line u v worker line lines has =
    let same = same_line (of_worker u worker) (of_worker v worker) (line_alike u v worker lines) in
    ⊎_elim (λ none. inl (same ∙ none)) (λ is. inr (same ∙ is)) has

same_most : (a b n : ℕ) → a ≡ n → b ≡ n → a ≤ b
same_most a b n one two = omega (arith, one, two)

-- ---- a line is dropped

module _ {D : Type 0} (g : Ghosts D) (worker line : ℕ) (u v : Core D) (core : IsCore g u) (after : IsCore g v) (most : AreCounts g v) (known : worker < 8) (some : 0 < line) (other : (of_worker u.flight worker).line ≢ line)
    (n : ℕ) (goes : PreservesVolume g n u v) (d : DropsLine g worker u v) where
  in_flight : worker < length u.flight
  in_flight = let eight = core.flight.eight in omega (arith, known, eight)

  gone : of_worker v.flight worker ≡ begun 0
  gone = ap (λ (f : List InFlight). of_worker f worker) d.flight ∙ own_with u.flight worker (begun 0) in_flight

  none_of : (x : InFlight) → x.line ≢ line → cond (x.line == line) (some_number x.fault) None ≡ None
  none_of x far = ap (λ b. cond b (some_number x.fault) None) (ne_eqb x.line line far)

  now_other : (of_worker v.flight worker).line ≢ line
  now_other is = let at = ap (λ (x : InFlight). x.line) gone in omega (arith, some, is, at)

  dropped_goals : GoalsStay u.flight v.flight
  dropped_goals w = ⊎_elim
      (λ here. inl (ap (λ k. (of_worker v.flight k).goal) here ∙ ap (λ (x : InFlight). x.goal) gone))
      (λ far. let same : of_worker v.flight w ≡ of_worker u.flight w = ap (λ (f : List InFlight). of_worker f w) d.flight ∙ other_with u.flight worker w (begun 0) far in
      inr (ap (λ (x : InFlight). x.goal) same, ap (λ (x : InFlight). x.line) same))
      (cases_eq w worker)

  pub passes_dropped : PassesOn g worker line u v
  passes_dropped = record {
    most = n;
    goes = goes;
    on = λ origin o h done s. calls_stand g origin o h u v done s
        (record { on = record { core = after; counts = most; most = n; goes = goes }; flight = dropped_stands g o n u v core after goes (runs_of g origin o h u v done s) worker known d s.flight; goals = dropped_goals })
        (dropped_faults g o n u v core after goes (runs_of g origin o h u v done s) worker known d);
    others = λ w far. ap (λ (f : List InFlight). nameless_line (of_worker f w)) d.flight ∙ ap nameless_line (other_with u.flight worker w (begun 0) far);
    fault = none_of (of_worker v.flight worker) now_other ∙ sym (none_of (of_worker u.flight worker) other);
    room = let now = room_beside v (of_worker v.flight worker) line now_other in let was = room_beside u (of_worker u.flight worker) line other in same_most (to_stage_of v worker line) (to_stage_of u worker line) (16 + most_units) now was;
  }

-- ---- a page is put in flight

cond_same : {X : Type 0} (b : Bool) (x : X) → cond b x x ≡ x
cond_same true x = refl
cond_same false x = refl

-- what a line shows that is this one
fault_at : (x : InFlight) (line : ℕ) → x.line ≡ line → cond (x.line == line) (some_number x.fault) None ≡ some_number x.fault
fault_at x line is = ap (λ b. cond b (some_number x.fault) None) (eq-eqb x.line line is)

module _ {D : Type 0} (g : Ghosts D) (worker line : ℕ) (call : Call) (u v : Core D) (core : IsCore g u) (after : IsCore g v) (most : AreCounts g v) (known : worker < 8) (some : 0 < line) (n : ℕ) (goes : PreservesVolume g n u v)
    (tag : Tag) (main : List ℕ) (p : PutsInFlight g worker line tag main u v) (has : HasLineOrNone u.flight worker line) (next : IsNextTag call (length (of_worker u.flight worker).pages) tag) (given : page_given call tag.index ≡ Some main) (few : length (of_worker u.flight worker).pages < 16)
    (within : GoalsWithin u) where
  abbrev was : InFlight
  was = of_worker u.flight worker

  abbrev put : InFlight
  put = behind (line_of u.flight worker line) tag p.at

  in_u : worker < length u.flight
  in_u = let eight = core.flight.eight in omega (arith, known, eight)

  own_alike : nameless_line (of_worker v.flight worker) ≡ nameless_line put
  own_alike = line_alike (with_page u.flight worker line tag p.at) v.flight worker p.flight ∙ ap nameless_line (own_with u.flight worker put in_u)

  other_alike : (w : ℕ) → w ≢ worker → nameless_line (of_worker v.flight w) ≡ nameless_line (of_worker u.flight w)
  other_alike w far = line_alike (with_page u.flight worker line tag p.at) v.flight w p.flight ∙ ap nameless_line (other_with u.flight worker w put far)

  line_now : (of_worker v.flight worker).line ≡ line
  line_now = same_line put (of_worker v.flight worker) own_alike
      ∙ ⊎_elim (λ is. ap (λ (x : InFlight). x.line) is.1) (λ is. ap (λ (x : InFlight). x.line) is.2 ∙ is.0) (line_cases u.flight worker line has)

  pages_of : (line_of u.flight worker line).pages ≡ was.pages
  pages_of = ⊎_elim (λ is. ap (λ (x : InFlight). x.pages) is.1 ∙ sym (core.flight.idle worker is.0).0) (λ is. ap (λ (x : InFlight). x.pages) is.2) (line_cases u.flight worker line has)

  count_now : length (of_worker v.flight worker).pages ≡ length was.pages + 1
  count_now = alike_count put (of_worker v.flight worker) own_alike ∙ (length-append (line_of u.flight worker line).pages _ ∙ ap (λ (xs : List FlightPage). length xs + 1) pages_of)

  -- the goal is that of the line before
  goal_of_put : put.goal ≡ (of_worker u.flight worker).goal
  goal_of_put = ⊎_elim (λ is. ap (λ (x : InFlight). x.goal) is.1 ∙ sym (core.flight.idle worker is.0).1) (λ is. ap (λ (x : InFlight). x.goal) is.2) (line_cases u.flight worker line has)

  goal_now : (of_worker v.flight worker).goal ≡ (of_worker u.flight worker).goal
  goal_now = ap (λ (x : InFlight). x.goal) own_alike ∙ goal_of_put

  units_now : units_to_stage v (of_worker v.flight worker).goal ≤ units_to_stage u (of_worker u.flight worker).goal
  units_now = subst (λ (x : Option ℕ). units_to_stage v x ≤ units_to_stage u (of_worker u.flight worker).goal) (sym goal_now) (units_less u v goes.onward (of_worker u.flight worker).goal (within worker))

  -- the line has less to stage
  less : to_stage_of v worker line < to_stage_of u worker line
  less =
      let now = room_at v (of_worker v.flight worker) line line_now in
      let count = count_now in
      let units = units_now in
      ⊎_elim
      (λ is.
      let far = room_beside u was line (λ same. let none = is.0 in let off : ⊥ = omega (arith, same, none, some) in off) in
      let idle = core.flight.idle worker is.0 in
      let empty = ap (λ (xs : List FlightPage). length xs) idle.0 in
      let all : units_to_stage u was.goal ≡ most_units = ap (units_to_stage u) idle.1 in
      fewer (to_stage_of v worker line) (to_stage_of u worker line) (length (of_worker v.flight worker).pages) (length was.pages) (units_to_stage v (of_worker v.flight worker).goal) (units_to_stage u was.goal) (16 + most_units) now far count few units
      (omega (arith, empty, all)))
      (λ is.
      let old = room_at u was line is.0 in
      fewer (to_stage_of v worker line) (to_stage_of u worker line) (length (of_worker v.flight worker).pages) (length was.pages) (units_to_stage v (of_worker v.flight worker).goal) (units_to_stage u was.goal) (left_in_flight u was) now old count few units
      (omega arith))
      (line_cases u.flight worker line has)
    where
      fewer : (a b m n x y r : ℕ) → a ≡ (16 - m) + x → b ≡ r → m ≡ n + 1 → n < 16 → x ≤ y → (16 - n) + y ≤ r → a < b
      fewer a b m n x y r one two count few units most = omega (arith, one, two, count, few, units, most)

  put_goals : GoalsStay u.flight v.flight
  put_goals w = by (cases_eq w worker)
    where
      here : ((of_worker v.flight worker).goal ≡ None) ⊎ (((of_worker v.flight worker).goal ≡ (of_worker u.flight worker).goal) × ((of_worker v.flight worker).line ≡ (of_worker u.flight worker).line))
      here = ⊎_elim (λ is. inl (goal_now ∙ (core.flight.idle worker is.0).1)) (λ is. inr (goal_now, line_now ∙ sym is.0)) (line_cases u.flight worker line has)

      by : (w ≡ worker) ⊎ (w ≢ worker) → ((of_worker v.flight w).goal ≡ None) ⊎ (((of_worker v.flight w).goal ≡ (of_worker u.flight w).goal) × ((of_worker v.flight w).line ≡ (of_worker u.flight w).line))
      by (inl at) = subst (λ k. ((of_worker v.flight k).goal ≡ None) ⊎ (((of_worker v.flight k).goal ≡ (of_worker u.flight k).goal) × ((of_worker v.flight k).line ≡ (of_worker u.flight k).line))) (sym at) here
      by (inr far) = inr (ap (λ (x : InFlight). x.goal) (other_alike w far), same_line (of_worker u.flight w) (of_worker v.flight w) (other_alike w far))

  fault_now : staged_fault v.flight worker line ≡ staged_fault u.flight worker line
  fault_now =
      let now : staged_fault v.flight worker line ≡ some_number put.fault = fault_at (of_worker v.flight worker) line line_now ∙ ap some_number (same_fault put (of_worker v.flight worker) own_alike) in
      ⊎_elim
      (λ is.
      let far : was.line ≢ line = λ same. let none = is.0 in let off : ⊥ = omega (arith, same, none, some) in off in
      now ∙ (ap (λ (x : InFlight). some_number x.fault) is.1 ∙ sym (ap (λ b. cond b (some_number was.fault) None) (ne_eqb was.line line far))))
      (λ is. now ∙ (ap (λ (x : InFlight). some_number x.fault) is.2 ∙ sym (fault_at was line is.0)))
      (line_cases u.flight worker line has)

  pub stages_put : StagesOn g worker line call u v stage.Staged
  stages_put = record {
    most = n;
    goes = goes;
    on = λ origin o h done s of.
        let runs = runs_of g origin o h u v done s in
        calls_stand g origin o h u v done s
        (record {
          on = record { core = after; counts = most; most = n; goes = goes };
          flight = put_stands g o n u v core after goes runs worker known line tag main call p has of next.index given s.flight;
          goals = put_goals;
        })
        (put_faults g o n u v core after goes runs worker known line tag main call p has of next.index given s.flight);
    others = other_alike;
    fault = fault_now;
    falls = λ staged. less;
    failed = λ no. absurd (cc no);
    lost = λ w f no. absurd (cc no);
  }

-- ---- no page is put in flight

module _ {D : Type 0} (g : Ghosts D) (worker line : ℕ) (call : Call) (u v : Core D) (p : PassesOn g worker line u v) where
  pub stages_whole : StagesOn g worker line call u v stage.Whole
  stages_whole = record { most = p.most; goes = p.goes; on = λ origin o h done s of. p.on origin o h done s; others = p.others; fault = p.fault; falls = λ no. absurd (cc no); failed = λ no. absurd (cc no); lost = λ w f no. absurd (cc no) }

  pub stages_stopped : StagesOn g worker line call u v stage.Stopped
  stages_stopped = record { most = p.most; goes = p.goes; on = λ origin o h done s of. p.on origin o h done s; others = p.others; fault = p.fault; falls = λ no. absurd (cc no); failed = λ no. absurd (cc no); lost = λ w f no. absurd (cc no) }

  pub stages_lost : (wanted found : ℕ) → LostHasCause g.tells wanted found → StagesOn g worker line call u v (stage.Lost wanted found)
  stages_lost wanted found is = record {
    most = p.most;
    goes = p.goes;
    on = λ origin o h done s of. p.on origin o h done s;
    others = p.others;
    fault = p.fault;
    falls = λ no. absurd (cc no);
    failed = λ no. absurd (cc no);
    lost = λ w f same. let one : wanted ≡ w = cc same in let two : found ≡ f = cc same in subst (λ k. LostHasCause g.tells k f) one (subst (λ k. LostHasCause g.tells wanted k) two is);
  }

-- ---- an operation of the medium failed, and the line keeps that

module _ {D : Type 0} (g : Ghosts D) (worker line : ℕ) (call : Call) (u v : Core D) (before : Stage) (p : StagesOn g worker line call u v before) (core : IsCore g u) (after : IsCore g v) (volume : IsVolumeShape (g.shape v.device)) (stores : g.tells → StoresPages g v.device) (most : AreCounts g v)
    (known : worker < 8) (some : 0 < line) (has : HasLineOrNone v.flight worker line) (rose : FaultRose (counts_of g u.device) (counts_of g v.device)) (faults : FaultsStay u.flight v.flight) (lines : IsFlight (notes_fault g worker line v).flight) where
  abbrev pub w : Core D
  w = notes_fault g worker line v

  abbrev z : InFlight
  z = record (line_of v.flight worker line) { fault = fault_sum (counts_of g v.device) }

  in_v : worker < length v.flight
  in_v = let eight = after.flight.eight in omega (arith, known, eight)

  own : of_worker w.flight worker ≡ z
  own = own_with v.flight worker z in_v

  line_z : z.line ≡ line
  line_z = ⊎_elim (λ is. ap (λ (x : InFlight). x.line) is.1) (λ is. ap (λ (x : InFlight). x.line) is.2 ∙ is.0) (line_cases v.flight worker line has)

  positive : fault_sum (counts_of g v.device) ≢ 0
  positive none = ⊎_elim (λ r. omega (arith, none, r)) (λ r. omega (arith, none, r)) rose

  pub stages_noted : StagesOn g worker line call u w stage.Fault
  stages_noted = record {
    most = p.most + 0;
    goes = goes_then g u v w p.most 0 p.goes (step_goes g v w after volume (flight_step g v w.flight) refl (λ page_of_stamp tree runs. runs));
    on = λ origin o h done s of. failure_noted g origin o h u v done s (p.on origin o h done s of) (record { later = never_fall g p.most u v core p.goes; rose = rose; faults = faults }) worker line call known of has volume stores most lines;
    others = λ x far. ap nameless_line (other_with v.flight worker x z far) ∙ p.others x far;
    fault = ap (λ (x : InFlight). cond (x.line == line) (some_number x.fault) None) own ∙ (fault_at z line line_z ∙ some_of (fault_sum (counts_of g v.device)) positive);
    falls = λ no. absurd (cc no);
    failed = λ same. rose;
    lost = λ x f no. absurd (cc no);
  }

-- where no page was put in flight
pub stages_failed : {D : Type 0} (g : Ghosts D) (worker line : ℕ) (call : Call) (u v : Core D) → PassesOn g worker line u v → IsCore g u → IsCore g v → IsVolumeShape (g.shape v.device) → (g.tells → StoresPages g v.device) → AreCounts g v
    → worker < 8 → 0 < line → HasLineOrNone v.flight worker line → FaultRose (counts_of g u.device) (counts_of g v.device) → FaultsStay u.flight v.flight → IsFlight (notes_fault g worker line v).flight → StagesOn g worker line call u (notes_fault g worker line v) stage.Fault
stages_failed g worker line call u v p core after volume stores most known some has rose faults lines =
    stages_noted g worker line call u v stage.Whole (stages_whole g worker line call u v p) core after volume stores most known some has rose faults lines

-- ---- how a staging ends that has reached the device

module _ {D : Type 0} (g : Ghosts D) (worker line : ℕ) (call : Call) (u v : Core D) (answer : Stage) (p : StagesOn g worker line call u v answer) (core : IsCore g u) (after : IsCore g v) (volume : IsVolumeShape (g.shape v.device)) (stores : g.tells → StoresPages g v.device) (most : AreCounts g v)
    (known : worker < 8) (some : 0 < line) (has : HasLineOrNone v.flight worker line) (faults : FaultsStay u.flight v.flight) (writes : u.stopped ≡ 0) where
  pub stages_tried : (w : Core D) (result : Stage) → EndsTried g worker line answer v w result → StagesOn g worker line call u w result
  stages_tried w result (inl e) = subst (λ (r : Stage). StagesOn g worker line call u w r) (sym e.0) (subst (λ (x : Core D). StagesOn g worker line call u x answer) (sym e.1) p)
  stages_tried w result (inr e) =
      subst (λ (r : Stage). StagesOn g worker line call u w r) (sym e.0)
      (subst (λ (x : Core D). StagesOn g worker line call u x stage.Fault) (sym e.1)
      (stages_noted g worker line call u v answer p core after volume stores most known some has (inr (p.goes.stops.some writes e.2).0) faults (subst (λ (x : Core D). IsFlight x.flight) e.1 e.3)))

-- ---- one part after the other

pub passes_then : {D : Type 0} (g : Ghosts D) (worker line : ℕ) (call : Call) (u v w : Core D) (answer : Stage) → PassesOn g worker line u v → StagesOn g worker line call v w answer → StagesOn g worker line call u w answer
passes_then g worker line call u v w answer p q = record {
  most = p.most + q.most;
  goes = goes_then g u v w p.most q.most p.goes q.goes;
  on = λ origin o h done s of. q.on origin o h done (p.on origin o h done s) of;
  others = λ x far. q.others x far ∙ p.others x far;
  fault = q.fault ∙ ap (λ (k : Option ℕ). cond (is_fault answer) (Some (fault_sum (counts_of g w.device))) k) p.fault;
  falls = λ staged. let same = p.room in let less = q.falls staged in omega (arith, same, less);
  failed = λ is. earlier (q.failed is);
  lost = q.lost;
}
  where
    earlier : FaultRose (counts_of g v.device) (counts_of g w.device) → FaultRose (counts_of g u.device) (counts_of g w.device)
    earlier (inl rose) = inl (let low = p.goes.reads in omega (arith, rose, low))
    earlier (inr rose) = inr (let low = p.goes.writes in omega (arith, rose, low))
