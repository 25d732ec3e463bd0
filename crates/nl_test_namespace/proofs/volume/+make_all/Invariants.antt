use Rattle.nl_test_namespace.proofs.volume.+make_all.Given as goal

abbrev pub decreases-make_all : goal.decreases-make_all
decreases-make_all g l = l.parts
