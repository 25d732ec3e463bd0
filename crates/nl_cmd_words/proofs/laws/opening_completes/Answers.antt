use Rattle.nl_cmd_words.proofs.Completing.{opening_completes}
use Rattle.nl_cmd_words.proofs.laws.opening_completes.Goals as goal

pub returns : goal.returns
returns g c = opening_completes c.sound_is_readable.ensures g.M.Nand.tells
