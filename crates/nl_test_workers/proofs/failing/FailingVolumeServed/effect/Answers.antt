use Rattle.std.proofs.Common.{rules, ◌≡◌, inl}
use Rattle.nl_field.specs.CrashStates.{Rose}
use Rattle.nl_tree.specs.Causes.{fault_sum}
use Rattle.nl_test_workers.specs.Failing.{failing_counts}
use Rattle.nl_test_workers.proofs.FaultDue.{due}
use Rattle.nl_test_workers.proofs.failing.FailingVolumeServed.effect.Goals as goal

pub returns-clause-cause : goal.returns-clause-cause
returns-clause-cause c =
    let n = c.saturating_add-self-3.result in
    let rose : Rose c.args.self.now.faults n = search rules in
    let sum : n ≡ fault_sum (failing_counts n) = search rules in
    due (failing_counts c.args.self.now.faults) (failing_counts n) c.args._call.now n (inl rose) sum
