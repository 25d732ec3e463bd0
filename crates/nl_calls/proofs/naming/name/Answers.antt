use Rattle.std.proofs.Common.{◌∙◌, ℕ, ◌==◌, not, List, [], length, refl, sym, ap, arith}
use Rattle.nl_tree.specs.declared.reply.FaultReply.TheVariants.{Edamaged}
use Rattle.nl_meta.proofs.Rising.{filtered_few}
use Rattle.nl_meta.specs.Pages.{besides_0}
use Rattle.nl_calls.proofs.Answered.{answer_after}
use Rattle.nl_calls.proofs.Counted.{goes_counted}
use Rattle.nl_calls.proofs.Ended.{ends_same}
use Rattle.std.proofs.lemmas.Bool.{false≢true}
use Rattle.nl_calls.proofs.Tried.{fails, meets_fault, of_names}
use Rattle.nl_calls.proofs.Uncommitted.{names_dirty}
use Rattle.nl_calls.proofs.naming.name.Goals as goal

pub name_now-requires-clause-room : goal.name_now-requires-clause-room
name_now-requires-clause-room g c =
    let few = filtered_few (λ a. not (a == 0)) c.args.core.now.meta.dirty in
    let count = c.dirty.ensures in
    let low = c.if-dirty-le-FEW.true in
    omega (arith, few, count, low)

pub name_now-requires-in-Done-clause-room : goal.name_now-requires-in-Done-clause-room
name_now-requires-in-Done-clause-room g c = let none = ap (λ (xs : List ℕ). length (besides_0 xs)) c.in-Done.ensures.commits.clean in omega (arith, none)

pub name_now-requires-in-Done-clause-idle : goal.name_now-requires-in-Done-clause-idle
name_now-requires-in-Done-clause-idle g c =
    let u = c.args.core.now in
    let v = c.commit-committed.new.self in
    (ends_same c.args.worker u.flight v.flight c.in-Done.ensures.commits.same_flight c.requires.idle).idle

pub name_now-requires-in-Done-clause-files : goal.name_now-requires-in-Done-clause-files
name_now-requires-in-Done-clause-files g c =
    let G = g.D.Counts in
    c.requires.files ∙ sym (goes_counted G _ c.args.core.now c.commit-committed.new.self c.in-Done.ensures.goes c.pages_stay_as_many.ensures)

pub returns-in-Done-clause-answers : goal.returns-in-Done-clause-answers
returns-in-Done-clause-answers g c =
    let G = g.D.Counts in
    let u = c.args.core.now in
    let v = c.commit-committed.new.self in
    let e = c.in-Done.ensures in
    let r = c.name_now-in-Done in
    answer_after G c.args.call.now _ u v r.new.core e.goes c.args.worker r.result.reply [] r.result.files (ends_same c.args.worker u.flight v.flight e.commits.same_flight c.requires.idle).others
    (λ sync. absurd (false≢true (sym (of_names c.args.call.now c.requires.of_names).0 ∙ sync))) r.ensures.answers

pub returns-in-Lost-clause-answers : goal.returns-in-Lost-clause-answers
returns-in-Lost-clause-answers g c =
    let G = g.D.Counts in
    let u = c.args.core.now in
    let v = c.commit-committed.new.self in
    let e = c.in-Lost.ensures in
    meets_fault G c.args.worker c.args.call.now _ u v c.args.files e.core e.goes c.pages_stay_as_many.ensures c.requires.files (ends_same c.args.worker u.flight v.flight e.commits.0.same_flight c.requires.idle) _ refl
    (Edamaged c.in-Lost.wanted c.in-Lost.found) (e.commits.2, λ same. e.commits.1 (sym same))

pub returns-in-Fault-clause-answers : goal.returns-in-Fault-clause-answers
returns-in-Fault-clause-answers g c =
    let G = g.D.Counts in
    let u = c.args.core.now in
    let v = c.commit-committed.new.self in
    let e = c.in-Fault.ensures in
    fails G c.args.worker c.args.call.now _ u v c.args.files e.core e.goes c.pages_stay_as_many.ensures c.requires.files (ends_same c.args.worker u.flight v.flight e.commits.same_flight c.requires.idle) _ refl
    c.failed.result c.failed.ensures (e.faults refl)

pub returns-then-dirty-le-FEW-clause-commit : goal.returns-then-dirty-le-FEW-clause-commit
returns-then-dirty-le-FEW-clause-commit g c needs = c.name_now.ensures.commit

pub returns-in-Done-clause-commit : goal.returns-in-Done-clause-commit
returns-in-Done-clause-commit g c needs =
    let room = names_dirty g.D.Counts c.args.core.now c.args.call.now c.requires.of_names needs in
    let count = c.dirty.ensures in
    let high = c.if-dirty-le-FEW.false in
    absurd (let no : ⊥ = omega (arith, room, count, high) in no)

pub returns-in-Lost-clause-commit : goal.returns-in-Lost-clause-commit
returns-in-Lost-clause-commit g c needs =
    let room = names_dirty g.D.Counts c.args.core.now c.args.call.now c.requires.of_names needs in
    let count = c.dirty.ensures in
    let high = c.if-dirty-le-FEW.false in
    absurd (let no : ⊥ = omega (arith, room, count, high) in no)

pub returns-in-Fault-clause-commit : goal.returns-in-Fault-clause-commit
returns-in-Fault-clause-commit g c needs =
    let room = names_dirty g.D.Counts c.args.core.now c.args.call.now c.requires.of_names needs in
    let count = c.dirty.ensures in
    let high = c.if-dirty-le-FEW.false in
    absurd (let no : ⊥ = omega (arith, room, count, high) in no)
