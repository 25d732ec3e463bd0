use Rattle.nl_cmd_compare.proofs.Completing.{compare_completes}
use Rattle.nl_cmd_compare.proofs.laws.compare_completes.Goals as goal

pub returns : goal.returns
returns g c = compare_completes g.M.Nand.tells c.done_completes.ensures
