-- The goal of a line at its effect.
use Rattle.std.proofs.Common.{◌≡◌, ⊎_elim, ℕ, ◌≤◌, ◌<◌, cond, Option, Some, None, sym, ap, ◌∙◌, arith, eq-eqb, ne_eqb}
use Rattle.std.specs.Prelude.{IfSome}
use Rattle.nl_flight.specs.Flight.{IsFlight, of_worker}
use Rattle.nl_core.specs.Programming.{HasLineOrNone}
use Rattle.nl_core.specs.Units.{goal_of, goal_or}
use Rattle.nl_core.specs.declared.state.Core.{Core}
use Rattle.nl_calls.specs.Answering.{goal_now}
use Rattle.nl_volume_stage.proofs.Serving.{GoalsWithin}

-- no more calls than were answered
pub goal_within : {D : Type 0} (v : Core D) (worker : ℕ) → GoalsWithin v → goal_now v worker ≤ v.count
goal_within v worker within = by (of_worker v.flight worker).goal (within worker)
  where
    by : (x : Option ℕ) → IfSome x (λ goal. goal ≤ v.count) → goal_or x v.count ≤ v.count
    by None is = omega arith
    by (Some n) is = is

-- once another line of the worker was left, it is the goal of this one
module _ {D : Type 0} (u v : Core D) (worker line : ℕ) (lines : IsFlight v.flight) (some : 0 < line) (has : HasLineOrNone v.flight worker line) where
  own_goal : (of_worker v.flight worker).goal ≡ goal_of v.flight worker line
  own_goal = ⊎_elim
      (λ none. (lines.idle worker none).1
      ∙ sym (ap (λ b. cond b (of_worker v.flight worker).goal None) (ne_eqb (of_worker v.flight worker).line line (λ same. let off : ⊥ = omega (arith, same, none, some) in off))))
      (λ is. sym (ap (λ b. cond b (of_worker v.flight worker).goal None) (eq-eqb (of_worker v.flight worker).line line is)))
      has

  pub goal_due : goal_of v.flight worker line ≡ goal_of u.flight worker line → v.count ≡ u.count → goal_now v worker ≡ goal_or (goal_of u.flight worker line) u.count
  goal_due goal count = ap (λ (x : Option ℕ). goal_or x v.count) (own_goal ∙ goal) ∙ ap (λ n. goal_or (goal_of u.flight worker line) n) count
