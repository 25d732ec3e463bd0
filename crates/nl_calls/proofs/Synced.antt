-- A line that goes on as a sync: it is dropped, and its goal is reached or not.
use Rattle.std.proofs.Common.{◌≡◌, ℕ, ◌<◌, ◌≤◌, sym, ap, subst, ◌∙◌, arith}
use Rattle.nl_field.specs.declared.answers.VirtualWrite.{VirtualWrite}
use Rattle.nl_field.specs.declared.answers.VirtualWrite.TheVariants as write
use Rattle.nl_iface.specs.declared.counts.Counts.{Ghosts}
use Rattle.nl_core.specs.Calls.{FailureIsCounted}
use Rattle.nl_core.specs.Core.{IsCore}
use Rattle.nl_core.specs.Dropping.{DropsLine}
use Rattle.nl_core.specs.Goes.{PreservesVolume}
use Rattle.nl_core.specs.LastCommit.{LeavesMedium}
use Rattle.nl_core.specs.Units.{ReachesGoal}
use Rattle.nl_core.specs.declared.state.Core.{Core}
use Rattle.nl_core.proofs.LastCommits.{drops_leaves}
use Rattle.nl_core.proofs.Onward.{cause_then, goes_then}
use Rattle.nl_calls.specs.Answering.{EndsLine, goal_now}
use Rattle.nl_calls.proofs.Ended.{ends_dropped}

module _ {D : Type 0} (g : Ghosts D) (worker : ℕ) (u v : Core D) (d : DropsLine g worker u v) where
  pub still_runs : u.stopped ≡ 0 → v.stopped ≡ 0
  still_runs runs = ap (λ (x : Core D). x.stopped) d.others ∙ runs

  pub in_reach : (goal : ℕ) → goal ≡ goal_now u worker → goal_now u worker ≤ u.count → goal ≤ v.count
  in_reach goal is low = let count = ap (λ (x : Core D). x.count) d.others in omega (arith, is, low, count)

  module _ (w : Core D) (goal : ℕ) (core : IsCore g u) (known : worker < 8) (is : goal ≡ goal_now u worker) (first : PreservesVolume g 0 u v) (second : PreservesVolume g 256 v w) (answer : VirtualWrite) (r : ReachesGoal g goal v w answer) where
    pub sync_goes : PreservesVolume g 256 u w
    sync_goes = goes_then g u v w 0 256 first second

    pub sync_ends : EndsLine worker u.flight w.flight
    sync_ends = ends_dropped worker u.flight w.flight (let eight = core.flight.eight in omega (arith, eight, known)) (r.same_flight ∙ d.flight)

    pub sync_leaves : goal_now u worker ≤ u.committed → LeavesMedium g u w
    sync_leaves low =
        let committed = ap (λ (x : Core D). x.committed) d.others in
        subst (λ (x : Core D). LeavesMedium g u x) (sym (r.at_once (omega (arith, is, low, committed))).1) (drops_leaves g worker u v d)

    pub sync_reached : answer ≡ write.Done → goal_now u worker ≤ w.committed
    sync_reached done = let low = r.reached done in omega (arith, is, low)

    pub sync_cause : FailureIsCounted g (answer ≡ write.Fault) v w → FailureIsCounted g (answer ≡ write.Fault) u w
    sync_cause cause = cause_then g (answer ≡ write.Fault) (answer ≡ write.Fault) u v w 0 first cause (λ f. f)
