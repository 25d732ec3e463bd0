use Rattle.nl_cmd_map.proofs.Completing.{map_completes}
use Rattle.nl_cmd_map.proofs.laws.map_completes.Goals as goal

pub returns : goal.returns
returns g c = map_completes g.M.Nand.tells c.done_completes.ensures c.sound_is_readable.ensures
