use Rattle.std.proofs.Common.{⊎_elim, refl, sym, ◌∙◌}
use Rattle.nl_volume_stage.proofs.closing.commit_last.Goals as goal

pub returns-in-Fault-clause-why : goal.returns-in-Fault-clause-why
returns-in-Fault-clause-why g c = ((λ no. absurd (cc no)), λ why. absurd (⊎_elim (λ e. cc (sym e ∙ c.if-worn.false)) (λ off. off c.if-core-ne0.false) why))

pub returns-in-Lost-clause-meets : goal.returns-in-Lost-clause-meets
returns-in-Lost-clause-meets g c is = (c.in-Lost.ensures.commits.0, c.in-Lost.ensures.commits.2)

pub returns-in-Fault-clause-fault : goal.returns-in-Fault-clause-fault
returns-in-Fault-clause-fault g c is = c.in-Fault.ensures.faults refl
