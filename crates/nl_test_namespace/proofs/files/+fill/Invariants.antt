use Rattle.nl_test_namespace.proofs.files.+fill.Given as goal

abbrev pub decreases-fill : goal.decreases-fill
decreases-fill g l = l.count
