use Rattle.nl_tree.specs.Calls.{AreNames}
use Rattle.nl_test_namespace.proofs.paths.path_of.Given as goal

abbrev pub invariant-loop-at : goal.invariant-loop-at
invariant-loop-at l = AreNames l.path
