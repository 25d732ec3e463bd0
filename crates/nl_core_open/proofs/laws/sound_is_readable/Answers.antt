use Rattle.nl_core_open.proofs.Readable.{sound_is_readable}
use Rattle.nl_core_open.proofs.laws.sound_is_readable.Goals as goal

pub returns : goal.returns
returns c = sound_is_readable
