use Rattle.nl_callbacks.proofs.Relaying.{takes, front}
use Rattle.nl_callbacks.proofs.notices.Notices.take.Goals as goal

pub pop_as-requires-clause-rule : goal.pop_as-requires-clause-rule
pop_as-requires-clause-rule g c = (takes _ _ c.requires.may, front _ _ c.requires.may)
