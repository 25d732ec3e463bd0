use Rattle.std.proofs.Common.{IsTrue, refl, subst, sym}
use Rattle.nl_spec_headline.specs.Status.{RunFailed}
use Rattle.nl_spec_headline.specs.Streams.{stream}
use Rattle.nl_tree.specs.Causes.{Counts}
use Rattle.nl_top.specs.Telling.{told_text}
use Rattle.nl_top.proofs.Failed.{failed_by, failed_some, some_failed}
use Rattle.nl_top.proofs.telling.tell.Goals as goal

pub returns-clause-prints : goal.returns-clause-prints
returns-clause-prints g c =
    let e = c.print-answer.ensures in
    record {
      answer = c.print-answer.result;
      taken = e.text;
      never_falls = e.never_falls;
      cause = e.cause;
    }

pub returns-clause-status : goal.returns-clause-status
returns-clause-status g c =
    let m = g.M.Nand in
    let k = g.K.Sink in
    let ran = c.args.ran in
    let order = c.list_answers.new.order.items in
    let before : Counts = record { clock = m.clock ran.media; read_faults = c.args.before.reads; write_faults = c.args.before.writes } in
    let now : Counts = record { clock = m.clock ran.media; read_faults = m.read_faults ran.media; write_faults = m.write_faults ran.media } in
    let any = c.any_of-failed.ensures in
    let old = stream (k.taken c.args.sink.now) (k.faults c.args.sink.now) in
    let new = stream (k.taken c.print-answer.new.sink) (k.faults c.print-answer.new.sink) in
    let text = told_text c.args.told ran.count ran.charges c.args.tables.answers.rows in
    failed_by c.status_of.result (IsTrue c.any_of-failed.result) (RunFailed order before now ran.lost ran.worn) old new text
    (λ yes. some_failed order before now ran.lost ran.worn c.has_failed.result c.has_fault.result ran.lost ran.worn c.has_failed.ensures.yes c.has_fault.ensures refl refl (subst IsTrue any yes))
    (λ failed. subst IsTrue (sym any) (failed_some order before now ran.lost ran.worn c.has_failed.result c.has_fault.result ran.lost ran.worn c.has_failed.ensures.no c.has_fault.ensures refl refl failed))
    (c.status_of.ensures.done old new text c.print-answer.ensures.text c.print-answer.ensures.cause)
