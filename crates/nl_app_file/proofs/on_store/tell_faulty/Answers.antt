use Rattle.nl_app_file.proofs.Endings.{told_faulty}
use Rattle.nl_app_file.proofs.on_store.tell_faulty.Goals as goal

pub returns-clause-status : goal.returns-clause-status
returns-clause-status g c = (told_faulty c.requires c.nameless-status.ensures.ended).two

pub returns-clause-source : goal.returns-clause-source
returns-clause-source g c = (told_faulty c.requires c.nameless-status.ensures.ended).same

pub returns-clause-prints : goal.returns-clause-prints
returns-clause-prints g c = (told_faulty c.requires c.nameless-status.ensures.ended).prints
