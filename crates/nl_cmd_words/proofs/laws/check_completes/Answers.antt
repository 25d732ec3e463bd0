use Rattle.nl_cmd_words.proofs.Completing.{check_completes}
use Rattle.nl_cmd_words.proofs.laws.check_completes.Goals as goal

pub returns : goal.returns
returns g c = check_completes c.sound_is_readable.ensures g.M.Nand.tells
