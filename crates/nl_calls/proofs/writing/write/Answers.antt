use Rattle.std.proofs.Common.{◌∙◌, [], refl, sym, ap, subst}
use Rattle.nl_tree.specs.Step.{step}
use Rattle.nl_tree.specs.declared.reply.FaultReply.TheVariants.{Edamaged, Eio}
use Rattle.nl_tree.specs.declared.reply.Reply.TheVariants.{Count, Fault as FaultAnswer, No}
use Rattle.nl_core.proofs.Onward.{goes_then}
use Rattle.nl_calls.specs.Answering.{AnswersCall}
use Rattle.nl_calls.proofs.Answered.{rose_on}
use Rattle.nl_calls.proofs.Counted.{goes_counted}
use Rattle.nl_calls.proofs.Ended.{ends_then}
use Rattle.nl_calls.proofs.Steps.{count_answers, write_bytes}
use Rattle.nl_calls.proofs.Tried.{fails, meets_fault, takes_effect, writing_is, written_done, written_no}
use Rattle.nl_core.proofs.LastCommits.{commit_then}
use Rattle.nl_calls.proofs.Uncommitted.{writes_room}
use Rattle.nl_calls.proofs.writing.write.Goals as goal

pub returns-in-Done-clause-answers : goal.returns-in-Done-clause-answers
returns-in-Done-clause-answers g c =
    let G = g.D.Counts in
    let u = c.args.core.now in
    let v = c.write_call-written.new.core in
    let e = c.in-Done.ensures.ends in
    let is = writing_is c.args.call.now c.requires.writing in
    let t = e.done.0 in
    written_done G c.args.worker c.args.call.now u v c.in-Done.files is.0 is.1 e.done.1 (record { idle = t.ended; others = e.others }) (Count c.length_of.result) [] refl refl
    (takes_effect G _ c.args.worker c.args.call.now u v is.2 t)
    (λ tells page_of_stamp tree runs. count_answers (step (G.shape u.device) tree c.args.call.now) c.length_of.result _ (e.answers tells page_of_stamp tree runs) c.length_of.ensures (write_bytes (G.shape u.device) tree c.args.call.now c.requires.writing))

pub returns-in-No-clause-answers : goal.returns-in-No-clause-answers
returns-in-No-clause-answers g c =
    let G = g.D.Counts in
    let u = c.args.core.now in
    let v = c.write_call-written.new.core in
    let w = c.undone.new.core in
    let e = c.in-No.ensures.ends in
    let d = c.undone.ensures in
    let is = writing_is c.args.call.now c.requires.writing in
    let x = written_no G c.args.worker c.args.call.now u w c.args.files is.0 is.1 (c.in-No.ensures.files ∙ sym (goes_counted G 0 v w d.goes c.pages_stay_as_many.ensures)) (ends_then c.args.worker u.flight v.flight w.flight e.others d.line)
    c.in-No.refusal _ d.core (goes_then G u v w _ 0 e.undone d.goes) c.requires.can.runs e.answers in
    subst (λ r. AnswersCall G c.args.worker c.args.call.now u w r [] c.undone.result.files) (sym d.answer.0) (subst (λ n. AnswersCall G c.args.worker c.args.call.now u w (No c.in-No.refusal) [] n) (sym d.answer.1) x)

pub returns-in-Lost-clause-answers : goal.returns-in-Lost-clause-answers
returns-in-Lost-clause-answers g c =
    let G = g.D.Counts in
    let u = c.args.core.now in
    let v = c.write_call-written.new.core in
    let w = c.undone-in-Lost.new.core in
    let e = c.in-Lost.ensures.ends in
    let d = c.undone-in-Lost.ensures in
    let f = Edamaged c.in-Lost.wanted c.in-Lost.found in
    let x = meets_fault G c.args.worker c.args.call.now _ u w c.args.files d.core (goes_then G u v w _ 0 e.undone d.goes) c.pages_stay_as_many.ensures c.requires.can.files_are (ends_then c.args.worker u.flight v.flight w.flight e.others d.line) [] refl
    f (e.early.1, λ same. e.early.0 (sym same)) in
    subst (λ r. AnswersCall G c.args.worker c.args.call.now u w r [] c.undone-in-Lost.result.files) (sym d.answer.0) (subst (λ n. AnswersCall G c.args.worker c.args.call.now u w (FaultAnswer f) [] n) (sym d.answer.1) x)

pub returns-in-Fault-clause-answers : goal.returns-in-Fault-clause-answers
returns-in-Fault-clause-answers g c =
    let G = g.D.Counts in
    let u = c.args.core.now in
    let v = c.write_call-written.new.core in
    let w = c.undone-in-Fault.new.core in
    let e = c.in-Fault.ensures.ends in
    let d = c.undone-in-Fault.ensures in
    let x = fails G c.args.worker c.args.call.now _ u w c.args.files d.core (goes_then G u v w _ 0 e.undone d.goes) c.pages_stay_as_many.ensures c.requires.can.files_are (ends_then c.args.worker u.flight v.flight w.flight e.others d.line) [] refl
    c.undone-in-Fault.result.reply (d.answer.0 ∙ (c.failed-reply.ensures ∙ ap (λ n. FaultAnswer (Eio n)) (sym d.faults))) (rose_on G u v w d.goes e.early) in
    subst (λ n. AnswersCall G c.args.worker c.args.call.now u w c.undone-in-Fault.result.reply [] n) (sym d.answer.1) x

pub returns-in-Done-clause-commit : goal.returns-in-Done-clause-commit
returns-in-Done-clause-commit g c needs = c.write_call-written.ensures.commit (writes_room g.D.Counts c.args.core.now c.args.call.now c.requires.writing needs)

pub returns-in-No-clause-commit : goal.returns-in-No-clause-commit
returns-in-No-clause-commit g c needs =
    commit_then c.args.core.now c.write_call-written.new.core c.undone.new.core (c.write_call-written.ensures.commit (writes_room g.D.Counts c.args.core.now c.args.call.now c.requires.writing needs)) c.undone.ensures.commit

pub returns-in-Lost-clause-commit : goal.returns-in-Lost-clause-commit
returns-in-Lost-clause-commit g c needs =
    commit_then c.args.core.now c.write_call-written.new.core c.undone-in-Lost.new.core (c.write_call-written.ensures.commit (writes_room g.D.Counts c.args.core.now c.args.call.now c.requires.writing needs)) c.undone-in-Lost.ensures.commit

pub returns-in-Fault-clause-commit : goal.returns-in-Fault-clause-commit
returns-in-Fault-clause-commit g c needs =
    commit_then c.args.core.now c.write_call-written.new.core c.undone-in-Fault.new.core (c.write_call-written.ensures.commit (writes_room g.D.Counts c.args.core.now c.args.call.now c.requires.writing needs)) c.undone-in-Fault.ensures.commit
