use Rattle.nl_cmd_words.proofs.Completing.{format_completes}
use Rattle.nl_cmd_words.proofs.laws.format_completes.Goals as goal

pub returns : goal.returns
returns g c = format_completes g.M.Nand.tells
