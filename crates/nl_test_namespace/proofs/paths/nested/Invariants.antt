use Rattle.nl_tree.specs.Calls.{AreNames}
use Rattle.nl_test_namespace.proofs.paths.nested.Given as goal

abbrev pub invariant-loop : goal.invariant-loop
invariant-loop l = AreNames l.path
