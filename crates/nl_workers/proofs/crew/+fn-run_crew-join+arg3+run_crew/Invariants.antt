use Rattle.std.proofs.Common.{◌+◌, ◌*◌, vec_len}
use Rattle.nl_workers.proofs.crew.+fn-run_crew-join+arg3+run_crew.Given as goal

abbrev pub decreases-join+arg3 : goal.decreases-join+arg3
decreases-join+arg3 g l = 2 * vec_len l.stations + 1

abbrev pub decreases-run_crew : goal.decreases-run_crew
decreases-run_crew g l = 2 * vec_len l.stations
