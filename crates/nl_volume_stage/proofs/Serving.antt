-- What a volume shows, through calls of its core.
use Rattle.std.proofs.Common.{◌≡◌, ◌≢◌, ◌⊎◌, inl, inr, ⊎_elim, ℕ, ◌-◌, ◌<◌, ◌==◌, cond, List, [], ◌∷◌, ◌++◌, length, Option, Some, None, refl, sym, ap, subst, ◌∙◌, arith, eq-eqb, ne_eqb}
use Rattle.std.specs.Prelude.{◌+◌, ◌≤◌, IfSome, is_some}
use Rattle.std.proofs.lemmas.Bool.{cases_eq}
use Rattle.std.proofs.lemmas.List.{length-map}
use Rattle.nl_tree.specs.Causes.{NeverFall}
use Rattle.nl_tree.specs.Tree.{Tree}
use Rattle.nl_tree.specs.declared.call.Call.{Call}
use Rattle.nl_tree.specs.declared.call.Line.{Line}
use Rattle.nl_core_callbacks.specs.Handled.{nameless_line}
use Rattle.nl_flight.specs.Flight.{InFlight, of_worker}
use Rattle.nl_iface.specs.declared.counts.Counts.{Ghosts}
use Rattle.nl_meta.proofs.Lists.{member-find}
use Rattle.nl_meta.specs.Consistent.{PageOfStamp}
use Rattle.nl_core.specs.Calls.{KeepsLines}
use Rattle.nl_core.specs.Core.{IsCore}
use Rattle.nl_core.specs.Goes.{CommitsOnward, PreservesVolume}
use Rattle.nl_core.specs.Units.{most_units}
use Rattle.nl_core.specs.Trees.{CoreRepresentsTree}
use Rattle.nl_core.specs.declared.state.Core.{Core}
use Rattle.nl_turns.specs.History.{Opening}
use Rattle.nl_tree.specs.declared.turn.DutyAnswer.{DutyAnswer}
use Rattle.nl_turns.specs.Served.{IsLineOf, NoMoreToStage, StaysReadOnly, duty_entry}
use Rattle.nl_turns.specs.declared.entry.Entry.{Entry}
use Rattle.nl_calls_steps.specs.Calls.{counts_of}
use Rattle.nl_volume_stage.specs.Serving.{left_in_flight, some_number, staged_fault, to_stage_of, units_to_stage}
use Rattle.nl_volume_stage.specs.Standing.{IsGoal, Serves, RepresentsHistory}
use Rattle.nl_volume_stage.specs.Turns.{AreCounts, GoalsStay}
use Rattle.nl_volume_stage.proofs.Causes.{first_sum}
use Rattle.nl_volume_stage.proofs.Alike.{line_alike}
use Rattle.nl_volume_stage.proofs.Flights.{faults_on, flight_on, goes_keeps, same_fault, same_line, same_pages, strip}
use Rattle.nl_volume_stage.proofs.Standing.{calls_stand, quiet_stands}

-- ---- numbers

pub some_is : (n m : ℕ) → some_number n ≡ Some m → (n ≢ 0) × (n ≡ m)
some_is n m is = by (cases_eq n 0)
  where
    by : (n ≡ 0) ⊎ (n ≢ 0) → (n ≢ 0) × (n ≡ m)
    by (inl none) = absurd (cc (sym (ap (λ b. cond b None (Some n)) (eq-eqb n 0 none)) ∙ is))
    by (inr some) = (some, cc (sym (ap (λ b. cond b None (Some n)) (ne_eqb n 0 some)) ∙ is))

pub some_of : (n : ℕ) → n ≢ 0 → some_number n ≡ Some n
some_of n some = ap (λ b. cond b None (Some n)) (ne_eqb n 0 some)

pub none_is : (n : ℕ) → some_number n ≡ None → n ≡ 0
none_is n is = ⊎_elim (λ none. none) (λ some. absurd (cc (sym (some_of n some) ∙ is))) (cases_eq n 0)

-- ---- calls of the core

module _ {D : Type 0} (g : Ghosts D) (n : ℕ) (u v : Core D) (core : IsCore g u) (a : PreservesVolume g n u v) where
  pub never_fall : NeverFall (counts_of g u.device) (counts_of g v.device)
  never_fall = record { clock = a.clock; read_faults = a.reads; write_faults = a.writes }

  pub stays_read_only : StaysReadOnly (counts_of g u.device) (counts_of g v.device) (some_number u.stopped) (some_number v.stopped)
  stays_read_only = record {
    stays = λ m is. let k = some_is u.stopped m is in ap some_number (a.stops.stands k.0) ∙ is;
    begins = λ m none is.
        let off = none_is u.stopped none in
        let k = some_is v.stopped m is in
        let s = a.stops.some off k.0 in
        let few = (core.writes off).counts in (
          s.0,
          first_sum (counts_of g u.device) (counts_of g u.device) (counts_of g v.device) (record { clock = omega arith; read_faults = omega arith; write_faults = omega arith }) s.0 few m
              (let one = s.1.0 in let same = k.1 in omega (arith, one, same)) (let one = s.1.1 in let same = k.1 in omega (arith, one, same)),
        );
    always = λ low. ⊎_elim (λ none. absurd (a.stops.none none (omega (arith, low)))) (λ some. ap (λ (x : Option ℕ). is_some x) (some_of v.stopped some)) (cases_eq v.stopped 0);
  }

-- lines that are alike but for names show the same
module _ (was now : InFlight) (alike : nameless_line now ≡ nameless_line was) where
  pub alike_count : length now.pages ≡ length was.pages
  alike_count = sym (length-map now.pages (strip was now alike)) ∙ (ap length (same_pages was now alike) ∙ length-map was.pages (strip was now alike))

module _ (old new : List InFlight) (worker line : ℕ) (alike : nameless_line (of_worker new worker) ≡ nameless_line (of_worker old worker)) where
  pub staged_same : staged_fault new worker line ≡ staged_fault old worker line
  staged_same = λ i. cond (same_line (of_worker old worker) (of_worker new worker) alike i == line) (some_number (same_fault (of_worker old worker) (of_worker new worker) alike i)) None

-- what a line has left in flight, where it is this one, and where it is another
pub room_at : {D : Type 0} (v : Core D) (x : InFlight) (line : ℕ) → x.line ≡ line → cond (x.line == line) (left_in_flight v x) (16 + most_units) ≡ left_in_flight v x
room_at v x line is = ap (λ b. cond b (left_in_flight v x) (16 + most_units)) (eq-eqb x.line line is)

pub room_beside : {D : Type 0} (v : Core D) (x : InFlight) (line : ℕ) → x.line ≢ line → cond (x.line == line) (left_in_flight v x) (16 + most_units) ≡ 16 + most_units
room_beside v x line far = ap (λ b. cond b (left_in_flight v x) (16 + most_units)) (ne_eqb x.line line far)

-- the goals of lines in flight are no more than the calls that were answered
abbrev pub GoalsWithin : {D : Type 0} → Core D → Type 0
GoalsWithin v = (worker : ℕ) → IfSome (of_worker v.flight worker).goal (λ goal. goal ≤ v.count)

module _ {D : Type 0} (u v : Core D) (onward : CommitsOnward u v) where
  pub units_less : (x : Option ℕ) → IfSome x (λ goal. goal ≤ u.count) → units_to_stage v x ≤ units_to_stage u x
  units_less None low = omega arith
  units_less (Some goal) low = onward.units goal low

  pub left_less : (was now : InFlight) → length now.pages ≡ length was.pages → now.goal ≡ was.goal → IfSome was.goal (λ goal. goal ≤ u.count) → left_in_flight v now ≤ left_in_flight u was
  left_less was now pages goal low =
      let units : units_to_stage v now.goal ≤ units_to_stage u was.goal = subst (λ (x : Option ℕ). units_to_stage v x ≤ units_to_stage u was.goal) (sym goal) (units_less was.goal low) in
      less_sum (length now.pages) (length was.pages) (units_to_stage v now.goal) (units_to_stage u was.goal) pages units
    where
      less_sum : (m n a b : ℕ) → m ≡ n → a ≤ b → (16 - m) + a ≤ (16 - n) + b
      less_sum m n a b same low = omega (arith, same, low)

  module _ (within : GoalsWithin u) (worker line : ℕ) (alike : nameless_line (of_worker v.flight worker) ≡ nameless_line (of_worker u.flight worker)) where
    pub to_stage_less : to_stage_of v worker line ≤ to_stage_of u worker line
    to_stage_less = by (cases_eq (of_worker u.flight worker).line line)
      where
        le_by : (a b x y : ℕ) → a ≡ x → b ≡ y → x ≤ y → a ≤ b
        le_by a b x y one two low = omega (arith, one, two, low)

        by : ((of_worker u.flight worker).line ≡ line) ⊎ ((of_worker u.flight worker).line ≢ line) → to_stage_of v worker line ≤ to_stage_of u worker line
        by (inl is) = le_by (to_stage_of v worker line) (to_stage_of u worker line) (left_in_flight v (of_worker v.flight worker)) (left_in_flight u (of_worker u.flight worker))
            (room_at v (of_worker v.flight worker) line (same_line (of_worker u.flight worker) (of_worker v.flight worker) alike ∙ is)) (room_at u (of_worker u.flight worker) line is)
            (left_less (of_worker u.flight worker) (of_worker v.flight worker) (alike_count (of_worker u.flight worker) (of_worker v.flight worker) alike) (ap (λ (x : InFlight). x.goal) alike) (within worker))
        by (inr far) = le_by (to_stage_of v worker line) (to_stage_of u worker line) (16 + most_units) (16 + most_units)
            (room_beside v (of_worker v.flight worker) line (λ is. far (sym (same_line (of_worker u.flight worker) (of_worker v.flight worker) alike) ∙ is))) (room_beside u (of_worker u.flight worker) line far) (omega arith)

-- lines that are alike keep their goals
pub goals_alike : {D : Type 0} (u v : Core D) → KeepsLines u v → GoalsStay u.flight v.flight
goals_alike u v lines worker =
    let alike = line_alike u.flight v.flight worker lines in
    inr (ap (λ (x : InFlight). x.goal) alike, same_line (of_worker u.flight worker) (of_worker v.flight worker) alike)

-- the goals of a volume that stands
pub goals_within : {D : Type 0} (g : Ghosts D) (origin : Core D) (o : Opening) (h : List Entry) (v : Core D) (done : ℕ) → RepresentsHistory g origin o h v done → GoalsWithin v
goals_within g origin o h v done s worker = by (of_worker v.flight worker).goal (s.goals worker)
  where
    by : (x : Option ℕ) → IfSome x (IsGoal o h v.count (of_worker v.flight worker).line) → IfSome x (λ goal. goal ≤ v.count)
    by None is = tt
    by (Some goal) is = is.not_beyond

-- ---- a duty

module _ {D : Type 0} (g : Ghosts D) (origin : Core D) (o : Opening) (h : List Entry) (u v : Core D) (done : ℕ) (s : RepresentsHistory g origin o h u done) where
  -- while the medium tells its contents, it runs as the tree after the history
  pub runs_of : g.tells → (page_of_stamp : ℕ → Option PageOfStamp) × (tree : Tree) × CoreRepresentsTree g u page_of_stamp tree
  runs_of tells = let k = s.serves.along.runs tells in (k.0, _, k.1)

  module _ (n : ℕ) (core : IsCore g v) (goes : PreservesVolume g n u v) (lines : KeepsLines u v) (counts : AreCounts g v) where
    pub keeps_lines_stands : RepresentsHistory g origin o h v done
    keeps_lines_stands = calls_stand g origin o h u v done s
        (record { on = record { core = core; counts = counts; most = n; goes = goes }; flight = flight_on g o u v s.serves.core core (goes_keeps g n u v goes) runs_of lines s.flight; goals = goals_alike u v lines })
        (faults_on u v lines)

    pub duty_stands : (answer : DutyAnswer) → RepresentsHistory g origin o (h ++ duty_entry answer ∷ []) v done
    duty_stands answer = quiet_stands g origin o h v done (duty_entry answer) keeps_lines_stands (record { line = refl; fault = refl; synced = refl })

pub no_more : {D : Type 0} (g : Ghosts D) (n : ℕ) (u v : Core D) → PreservesVolume g n u v → GoalsWithin u → KeepsLines u v → NoMoreToStage (to_stage_of u) (to_stage_of v)
no_more g n u v goes within lines w l = to_stage_less u v goes.onward within w l (line_alike u.flight v.flight w lines)

-- ---- a line's worker is one of eight

pub worker_known : {D : Type 0} (g : Ghosts D) (origin : Core D) (o : Opening) (h : List Entry) (v : Core D) (done worker line : ℕ) (call : Call) → Serves g origin o h v done → IsLineOf o worker line call → worker < 8
worker_known g origin o h v done worker line call s of =
    let f = of.found in
    let few = (s.lines f.0 (member-find (λ (l : Line). l.line == line) o.lines f.0 f.1).0).worker in
    let same = f.2 in
    omega (arith, few, same)
