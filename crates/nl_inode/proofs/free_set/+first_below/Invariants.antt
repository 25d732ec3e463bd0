use Rattle.nl_inode.proofs.free_set.+first_below.Given as goal

abbrev pub decreases-first_below : goal.decreases-first_below
decreases-first_below l = l.height
