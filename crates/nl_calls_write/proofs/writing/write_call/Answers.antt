use Rattle.std.proofs.Common.{sym, subst, ◌^◌}
use Rattle.nl_calls_write.specs.Calls.{EndsWrite}
use Rattle.nl_calls_steps.specs.declared.answer.Written.{Written}
use Rattle.nl_calls_write.proofs.Parts.{undone_files}
use Rattle.nl_calls_write.proofs.writing.write_call.Goals as goal

pub returns-in-Ok-clause-files : goal.returns-in-Ok-clause-files
returns-in-Ok-clause-files g c =
    let G = g.D.Counts in
    undone_files G (2 ^ 40) c.args.files c.args.core.now c.write_path.new.core c.in-Ok.written c.requires.can.files_are c.in-Ok.ensures.ends.undone

pub returns-in-Err-clause-files : goal.returns-in-Err-clause-files
returns-in-Err-clause-files g c =
    let G = g.D.Counts in
    let ends = subst (λ (a : Written). EndsWrite G (2 ^ 40) c.args.worker c.args.call.now c.args.core.now c.write_path.new.core a) (sym c.ended_early.ensures) c.in-Err.ensures.ends in
    undone_files G (2 ^ 40) c.args.files c.args.core.now c.write_path.new.core c.ended_early.result c.requires.can.files_are ends.undone

pub returns-in-Err-clause-ends : goal.returns-in-Err-clause-ends
returns-in-Err-clause-ends g c =
    let G = g.D.Counts in
    subst (λ (a : Written). EndsWrite G (2 ^ 40) c.args.worker c.args.call.now c.args.core.now c.write_path.new.core a) (sym c.ended_early.ensures) c.in-Err.ensures.ends

pub returns-in-Ok-clause-commit : goal.returns-in-Ok-clause-commit
returns-in-Ok-clause-commit g c = c.write_path.ensures.commit

pub returns-in-Err-clause-commit : goal.returns-in-Err-clause-commit
returns-in-Err-clause-commit g c = c.write_path.ensures.commit
