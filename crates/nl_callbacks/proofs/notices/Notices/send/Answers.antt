use Rattle.nl_callbacks.proofs.Relaying.{sends, back}
use Rattle.nl_callbacks.proofs.notices.Notices.send.Goals as goal

pub push_as-requires-clause-rule : goal.push_as-requires-clause-rule
push_as-requires-clause-rule g c = (sends _ _ _ _ c.requires.may, back _ _ c.requires.may)
