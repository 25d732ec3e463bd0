use Rattle.std.proofs.Common.{◌∙◌, sym, refl, Result, Ok, Err, IfOk}
use Rattle.nl_app_file.proofs.Endings.{faulty_on_file, on_file}
use Rattle.nl_store.specs.contracts.file_store.FileStoreStore.TheImpl.{ghosts}
use Rattle.nl_app_file.proofs.program.answer.Goals as goal

pub returns-in-None-clause-ended : goal.returns-in-None-clause-ended
returns-in-None-clause-ended g c =
    faulty_on_file (sym c.command_of.ensures.command ∙ c.in-None.is)
    (record { two = c.tell_faulty.ensures.status; same = c.tell_faulty.ensures.source; prints = c.tell_faulty.ensures.prints })

each : {X E : Type 0} (r : Result X E) (P Q : X → Type 0) → ((x : X) → P x → Q x) → IfOk r P → IfOk r Q
each (Ok x) P Q by is = by x is
each (Err e) P Q by is = tt

pub returns-clause-ended : goal.returns-clause-ended
returns-clause-ended g c = each c.answer_on-ending.result.ending _ _ (λ ending ends. on_file ghosts refl ends) c.answer_on-ending.ensures.ended
