use Rattle.nl_cmd_put.proofs.Completing.{put_completes}
use Rattle.nl_cmd_put.proofs.laws.put_completes.Goals as goal

pub returns : goal.returns
returns g c = λ old new. put_completes g.M.Nand.tells c.opening_completes.ensures _ _
