use Rattle.std.proofs.Common.{◌+◌, ◌*◌, vec_len}
use Rattle.nl_test_workers.proofs.rounds.+fn-round-join+arg3+round.Given as goal

abbrev pub decreases-join+arg3 : goal.decreases-join+arg3
decreases-join+arg3 g l = 2 * vec_len l.outs + 1

abbrev pub decreases-round : goal.decreases-round
decreases-round g l = 2 * vec_len l.outs
