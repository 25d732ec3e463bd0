-- A commit behind a call, by its answer.
use Rattle.std.proofs.Common.{◌≡◌, [], refl}
use Rattle.nl_tree.specs.Causes.{FaultRose}
use Rattle.nl_iface.specs.declared.counts.Counts.{Ghosts}
use Rattle.nl_journal.specs.declared.answers.Committing.{Committing}
use Rattle.nl_journal.specs.declared.answers.Committing.TheVariants.{Done, Lost, Fault}
use Rattle.nl_core.specs.Calls.{CommitsByAnswer, FailureIsCounted}
use Rattle.nl_core.specs.declared.state.Core.{Core}
use Rattle.nl_calls_steps.specs.Calls.{counts_of}

module _ {D : Type 0} (g : Ghosts D) (u v : Core D) where
  pub committed_flight : (a : Committing) → CommitsByAnswer g u v a → v.flight ≡ u.flight
  committed_flight (Done n) x = x.same_flight
  committed_flight (Lost w f) x = x.0.same_flight
  committed_flight Fault x = x.same_flight

  -- no page awaits its free where nothing failed
  pub committed_freed : (a : Committing) → CommitsByAnswer g u v a → g.tells → FailureIsCounted g (a ≡ Fault) u v → (FaultRose (counts_of g u.device) (counts_of g v.device) → ⊥) → v.freeing.items ≡ []
  committed_freed (Done n) x tells cause none = x.freed
  committed_freed (Lost w f) x tells cause none = absurd (x.2 tells)
  committed_freed Fault x tells cause none = absurd (none (cause refl))
