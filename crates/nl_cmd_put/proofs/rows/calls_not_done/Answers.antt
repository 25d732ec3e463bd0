use Rattle.std.proofs.Common.{refl}
use Rattle.nl_cmd_put.specs.Asking.{MetFault}
use Rattle.nl_cmd_put.specs.Examples.{three_asked}
use Rattle.nl_cmd_put.proofs.rows.calls_not_done.Goals as goal

pub returns-clause-fault : goal.returns-clause-fault
returns-clause-fault c = record { refused = λ told refusal e. absurd (cc e); fault = λ told not_refused. refl }

none_met : MetFault three_asked → ⊥
none_met met = cc met

pub returns-clause-no_fault : goal.returns-clause-no_fault
returns-clause-no_fault c s = none_met (s.fault tt (λ refusal e. cc e))
