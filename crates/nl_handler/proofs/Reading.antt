-- How a call ends that reads after one that did not fail.
use Rattle.std.proofs.Common.{◌≡◌, ℕ, Option, Some, None, sym, subst, ◌∙◌}
use Rattle.std.specs.Prelude.{⊤}
use Rattle.nl_iface.specs.Calls.{OnlyReads}
use Rattle.nl_iface.specs.Counting.{FailuresCounted}
use Rattle.nl_iface.specs.declared.counts.Counts.{Ghosts}
use Rattle.nl_meta_running.specs.Reading.{ReadsExplainStop}
use Rattle.nl_meta_running.specs.declared.answer.Stop.{Stop}
use Rattle.nl_meta_running.specs.declared.answer.Stop.TheVariants as stop

pub reads-over : {D : Type 0} (g : Ghosts D) (s t u : D) → OnlyReads g s t → g.read_faults t ≡ g.read_faults s → (o : Option Stop) → ReadsExplainStop g t u o → ReadsExplainStop g s u o
reads-over g s t u reads same None h = h ∙ same
reads-over g s t u reads same (Some stop.Fault) h = subst (λ (n : ℕ). FailuresCounted ⊤ n (g.read_faults u) ⊤) same h
reads-over g s t u reads same (Some (stop.Lost w f)) h = (h.0 ∙ same, (h.1.0, sym (reads.medium.virtual.same_stamps h.1.0) ∙ h.1.1), h.2, h.3)
