use Rattle.std.proofs.Common.{◌≡◌, inl, sym, arith}
use Rattle.nl_tree.specs.declared.reply.FaultReply.TheVariants.{Edamaged}
use Rattle.nl_calls.specs.Answering.{pages_of_files}
use Rattle.nl_calls.proofs.Counted.{counted_after, few_after}
use Rattle.nl_calls.proofs.Ended.{ends_same}
use Rattle.nl_calls.proofs.Tried.{named_done, named_failed, named_fault, named_no}
use Rattle.nl_calls_steps.proofs.LastCommitOn.{steps_commit}
use Rattle.nl_calls.proofs.naming.name_now.Goals as goal

pub held_after-held-requires-clause-within : goal.held_after-held-requires-clause-within
held_after-held-requires-clause-within g c =
    let G = g.D.Counts in
    let e = c.change_names-named.ensures in
    let count = counted_after G c.args.core.now c.change_names-named.new.core c.requires.core e.core e.steps e.flight in
    let before = c.len-before.ensures.count in
    let after = c.len.ensures.count in
    let files = c.requires.files in
    omega (arith, count, before, after, files)

pub held_after-held-requires-clause-few : goal.held_after-held-requires-clause-few
held_after-held-requires-clause-few g c =
    let G = g.D.Counts in
    let u = c.args.core.now in
    let v = c.change_names-named.new.core in
    let e = c.change_names-named.ensures in
    let count = counted_after G u v c.requires.core e.core e.steps e.flight in
    let few = few_after G u v c.requires.core e.core e.steps e.flight c.device_stands.ensures.volume in
    let before = c.len-before.ensures.count in
    let after = c.len.ensures.count in
    let files = c.requires.files in
    omega (arith, count, few, before, after, files)

pub returns-in-Done-clause-answers : goal.returns-in-Done-clause-answers
returns-in-Done-clause-answers g c =
    let G = g.D.Counts in
    let u = c.args.core.now in
    let v = c.change_names-named.new.core in
    let e = c.in-Done.ensures in
    let count = counted_after G u v c.requires.core e.core e.steps e.flight in
    let before = c.len-before.ensures.count in
    let after = c.len.ensures.count in
    let files = c.requires.files in
    let held = c.held_after-held.ensures in
    let are : c.held_after-held.result ≡ pages_of_files G v = omega (arith, count, before, after, files, held) in
    named_done G c.args.worker c.args.call.now u v c.held_after-held.result c.requires.of_names c.requires.core e.steps e.takes are (ends_same c.args.worker u.flight v.flight e.flight c.requires.idle)
    e.steps.reads.medium.virtual.same_shape e.answer

pub returns-in-No-clause-answers : goal.returns-in-No-clause-answers
returns-in-No-clause-answers g c =
    let G = g.D.Counts in
    let u = c.args.core.now in
    let v = c.change_names-named.new.core in
    let e = c.in-No.ensures in
    let count = counted_after G u v c.requires.core e.core e.steps e.flight in
    let before = c.len-before.ensures.count in
    let after = c.len.ensures.count in
    let files = c.requires.files in
    let held = c.held_after-held.ensures in
    let are : c.held_after-held.result ≡ pages_of_files G v = omega (arith, count, before, after, files, held) in
    named_no G c.args.worker c.args.call.now u v c.held_after-held.result c.requires.of_names c.requires.core e.steps e.takes are (ends_same c.args.worker u.flight v.flight e.flight c.requires.idle)
    c.in-No.refusal e.steps.reads.medium.virtual.same_shape e.answer

pub returns-in-Lost-clause-answers : goal.returns-in-Lost-clause-answers
returns-in-Lost-clause-answers g c =
    let G = g.D.Counts in
    let u = c.args.core.now in
    let v = c.change_names-named.new.core in
    let e = c.in-Lost.ensures in
    let count = counted_after G u v c.requires.core e.core e.steps e.flight in
    let before = c.len-before.ensures.count in
    let after = c.len.ensures.count in
    let files = c.requires.files in
    let held = c.held_after-held.ensures in
    let are : c.held_after-held.result ≡ pages_of_files G v = omega (arith, count, before, after, files, held) in
    named_fault G c.args.worker c.args.call.now u v c.held_after-held.result c.requires.of_names c.requires.core e.steps e.takes are (ends_same c.args.worker u.flight v.flight e.flight c.requires.idle)
    (Edamaged c.in-Lost.wanted c.in-Lost.found) (e.reads.3, λ same. e.reads.2 (sym same)) e.answer

pub returns-in-Fault-clause-answers : goal.returns-in-Fault-clause-answers
returns-in-Fault-clause-answers g c =
    let G = g.D.Counts in
    let u = c.args.core.now in
    let v = c.change_names-named.new.core in
    let e = c.in-Fault.ensures in
    let count = counted_after G u v c.requires.core e.core e.steps e.flight in
    let before = c.len-before.ensures.count in
    let after = c.len.ensures.count in
    let files = c.requires.files in
    let held = c.held_after-held.ensures in
    let are : c.held_after-held.result ≡ pages_of_files G v = omega (arith, count, before, after, files, held) in
    named_failed G c.args.worker c.args.call.now u v c.held_after-held.result c.requires.of_names c.requires.core e.steps e.takes are (ends_same c.args.worker u.flight v.flight e.flight c.requires.idle)
    c.failed-reply.result c.failed-reply.ensures (inl (e.reads.cause tt)) e.answer

pub returns-in-Done-clause-commit : goal.returns-in-Done-clause-commit
returns-in-Done-clause-commit g c = steps_commit g.D.Counts c.args.core.now c.change_names-named.new.core c.change_names-named.ensures.steps

pub returns-in-No-clause-commit : goal.returns-in-No-clause-commit
returns-in-No-clause-commit g c = steps_commit g.D.Counts c.args.core.now c.change_names-named.new.core c.change_names-named.ensures.steps

pub returns-in-Lost-clause-commit : goal.returns-in-Lost-clause-commit
returns-in-Lost-clause-commit g c = steps_commit g.D.Counts c.args.core.now c.change_names-named.new.core c.change_names-named.ensures.steps

pub returns-in-Fault-clause-commit : goal.returns-in-Fault-clause-commit
returns-in-Fault-clause-commit g c = steps_commit g.D.Counts c.args.core.now c.change_names-named.new.core c.change_names-named.ensures.steps
