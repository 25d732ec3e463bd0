use Rattle.std.proofs.Common.{◌∙◌, sym}
use Rattle.nl_app_file.proofs.Endings.{faulty_on_store}
use Rattle.nl_app_file.proofs.on_store.answer_on.Goals as goal

pub returns-in-None-clause-ended : goal.returns-in-None-clause-ended
returns-in-None-clause-ended g c =
    faulty_on_store g.B.Store c.args.words.now c.args.store (sym c.command_of.ensures.command ∙ c.in-None.is)
    (record { two = c.tell_faulty-status.ensures.status; same = c.tell_faulty-status.ensures.source; prints = c.tell_faulty-status.ensures.prints })
