use Rattle.nl_cmd_view.proofs.GetCompleting.{get_completes}
use Rattle.nl_cmd_view.proofs.laws.get_completes.Goals as goal

pub returns : goal.returns
returns g c = get_completes g.M.Nand.tells c.done_completes.ensures c.opening_completes.ensures c.represents_one.ensures
