use Rattle.nl_cmd_words.proofs.Completing.{done_completes}
use Rattle.nl_cmd_words.proofs.laws.done_completes.Goals as goal

pub returns : goal.returns
returns c = done_completes
