-- The line of a worker that has a goal.
use Rattle.std.proofs.Common.{set-set, ◌≡◌, ◌≢◌, ℕ, ◌<◌, cond, List, length, Option, Some, sym, ap, ◌∙◌, eq-eqb, ne_eqb}
use Rattle.std.proofs.lemmas.List.{get_or-set_same}
use Rattle.nl_flight.specs.Flight.{InFlight, begun, of_worker, with_line}
use Rattle.nl_core.specs.Lines.{with_goal}
use Rattle.nl_core.specs.Programming.{line_of}
use Rattle.nl_core.specs.Units.{goal_or}

module _ (f mid new : List InFlight) (worker line count : ℕ) (goal : Option ℕ) (fixed : ℕ) where
  line_none : (of_worker f worker).line ≡ 0 → line_of f worker line ≡ begun line
  line_none none = ap (λ b. cond b (begun line) (of_worker f worker)) (eq-eqb (of_worker f worker).line 0 none)

  line_some : (of_worker f worker).line ≢ 0 → line_of f worker line ≡ of_worker f worker
  line_some some = ap (λ b. cond b (begun line) (of_worker f worker)) (ne_eqb (of_worker f worker).line 0 some)

  -- the line that the worker has, with the goal that it had or with this count
  same_goal : goal ≡ (of_worker mid worker).goal → fixed ≡ goal_or goal count → (x : InFlight) → of_worker mid worker ≡ x → (record (of_worker mid worker) { goal = Some fixed }) ≡ with_goal x count
  same_goal was is x at =
      ap (λ n. record (of_worker mid worker) { goal = Some n }) (is ∙ ap (λ (o : Option ℕ). goal_or o count) was) ∙ ap (λ (y : InFlight). with_goal y count) at

  pub goal_new : worker < length f → (of_worker f worker).line ≡ 0 → mid ≡ with_line f worker (begun line) → goal ≡ (of_worker mid worker).goal → fixed ≡ goal_or goal count
      → new ≡ with_line mid worker (record (of_worker mid worker) { goal = Some fixed }) → new ≡ with_line f worker (with_goal (line_of f worker line) count)
  goal_new known none begins was is kept =
      let own : of_worker mid worker ≡ line_of f worker line =
      ap (λ (x : List InFlight). of_worker x worker) begins ∙ get_or-set_same f worker (begun line) (begun 0) known ∙ sym (line_none none) in
      kept
      ∙ ap (λ (y : InFlight). with_line mid worker y) (same_goal was is (line_of f worker line) own)
      ∙ ap (λ (x : List InFlight). with_line x worker (with_goal (line_of f worker line) count)) begins
      ∙ set-set f worker (begun line) (with_goal (line_of f worker line) count)

  pub goal_old : (of_worker f worker).line ≢ 0 → mid ≡ f → goal ≡ (of_worker mid worker).goal → fixed ≡ goal_or goal count
      → new ≡ with_line mid worker (record (of_worker mid worker) { goal = Some fixed }) → new ≡ with_line f worker (with_goal (line_of f worker line) count)
  goal_old some begins was is kept =
      let own : of_worker mid worker ≡ line_of f worker line = ap (λ (x : List InFlight). of_worker x worker) begins ∙ sym (line_some some) in
      kept
      ∙ ap (λ (y : InFlight). with_line mid worker y) (same_goal was is (line_of f worker line) own)
      ∙ ap (λ (x : List InFlight). with_line x worker (with_goal (line_of f worker line) count)) begins
