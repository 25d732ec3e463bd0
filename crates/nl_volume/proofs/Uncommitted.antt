-- Effects that leave the medium, and those that commit nothing.
use Rattle.std.proofs.Common.{◌≡◌, inl, inr, ⊎_elim, ℕ, false, None, sym, ◌∙◌, arith}
use Rattle.std.specs.Prelude.{IsTrue}
use Rattle.std.proofs.lemmas.Bool.{cases_Bool, false≢true}
use Rattle.nl_tree.specs.Causes.{fault_due, is_changing}
use Rattle.nl_tree.specs.declared.call.Call.{Call}
use Rattle.nl_iface.specs.declared.counts.Counts.{Ghosts}
use Rattle.nl_core.specs.LastCommit.{KeepsCommit, LeavesMedium}
use Rattle.nl_core.specs.declared.state.Core.{Core}
use Rattle.nl_core.specs.Calls.{counted}
use Rattle.nl_volume_stage.specs.Serving.{refusing_of}
use Rattle.nl_volume_stage.proofs.Due.{tried_may}
use Rattle.nl_volume_stage.proofs.Serving.{none_is}
use Rattle.nl_volume.specs.Effects.{CannotChange}

-- a call that is tried, and cannot change anything, only looks
pub tried_looks : {D : Type 0} (g : Ghosts D) (u : Core D) (worker line : ℕ) (call : Call) → fault_due (refusing_of g u worker line) call ≡ None → CannotChange g call u → is_changing call ≡ false
tried_looks g u worker line call tried cannot = ⊎_elim (λ changes. absurd (by changes cannot)) (λ looks. looks) (cases_Bool (is_changing call))
  where
    by : IsTrue (is_changing call) → CannotChange g call u → ⊥
    by changes (inl looks) = false≢true (sym looks ∙ changes)
    by changes (inr (inl off)) = off (none_is u.stopped (tried_may (refusing_of g u worker line) call tried changes).0)
    by changes (inr (inr high)) = let low = (tried_may (refusing_of g u worker line) call tried changes).1 in omega (arith, high, low)

-- a call is counted
pub counted_commit : {D : Type 0} (u w : Core D) → KeepsCommit u w → KeepsCommit u (counted w)
counted_commit u w k = record { begun = k.begun; moment = k.moment; committed = k.committed }

pub counted_leaves : {D : Type 0} (g : Ghosts D) (u w : Core D) → LeavesMedium g u w → LeavesMedium g u (counted w)
counted_leaves g u w k = record { medium = k.medium; commit = counted_commit u w k.commit }
