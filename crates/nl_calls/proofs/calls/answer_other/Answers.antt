use Rattle.std.proofs.Common.{ℕ, List, [], sym, subst, refl}
use Rattle.nl_tree.specs.declared.call.Call.{Call}
use Rattle.nl_calls.specs.Answering.{AnswersCall}
use Rattle.nl_calls.specs.Commits.{NeedsNoCommit}
use Rattle.nl_calls.proofs.Uncommitted.{commits_not, looks_not, not_looking}
use Rattle.nl_calls.proofs.calls.answer_other.Goals as goal

pub returns-in-Clean-clause-answers : goal.returns-in-Clean-clause-answers
returns-in-Clean-clause-answers g c =
    let G = g.D.Counts in
    let a = c.clean in
    subst (λ (o : List ℕ). AnswersCall G c.args.worker c.args.call.now c.args.core.now a.new.core a.result.reply o a.result.files) (sym c.requires.nothing)
    (subst (λ (call : Call). AnswersCall G c.args.worker call c.args.core.now a.new.core a.result.reply [] a.result.files) (sym c.in-Clean.is) a.ensures.answers)

pub returns-in-Truncate-clause-answers : goal.returns-in-Truncate-clause-answers
returns-in-Truncate-clause-answers g c =
    let G = g.D.Counts in
    let a = c.truncate in
    subst (λ (o : List ℕ). AnswersCall G c.args.worker c.args.call.now c.args.core.now a.new.core a.result.reply o a.result.files) (sym c.requires.nothing)
    (subst (λ (call : Call). AnswersCall G c.args.worker call c.args.core.now a.new.core a.result.reply [] a.result.files) (sym c.in-Truncate.is) a.ensures.answers)

pub returns-in_default-clause-answers : goal.returns-in_default-clause-answers
returns-in_default-clause-answers g c =
    let G = g.D.Counts in
    let a = c.name in
    subst (λ (o : List ℕ). AnswersCall G c.args.worker c.args.call.now c.args.core.now a.new.core a.result.reply o a.result.files) (sym c.requires.nothing) a.ensures.answers

-- ---- what is committed, and what is left as it is

pub returns-in-Read-clause-commit : goal.returns-in-Read-clause-commit
returns-in-Read-clause-commit g c needs = c.look.ensures.leaves.commit

pub returns-in-Read-clause-leaves : goal.returns-in-Read-clause-leaves
returns-in-Read-clause-leaves g c only = c.look.ensures.leaves

pub returns-in-Clean-clause-commit : goal.returns-in-Clean-clause-commit
returns-in-Clean-clause-commit g c needs = absurd (commits_not c.args.call.now _ needs.plain c.in-Clean.is refl)

pub returns-in-Clean-clause-leaves : goal.returns-in-Clean-clause-leaves
returns-in-Clean-clause-leaves g c only = absurd (looks_not c.args.call.now _ only c.in-Clean.is refl)

pub returns-in-Truncate-clause-commit : goal.returns-in-Truncate-clause-commit
returns-in-Truncate-clause-commit g c needs =
    let G = g.D.Counts in
    c.truncate.ensures.commit (subst (λ (call : Call). NeedsNoCommit G call c.args.core.now) c.in-Truncate.is needs).room

pub returns-in-Truncate-clause-leaves : goal.returns-in-Truncate-clause-leaves
returns-in-Truncate-clause-leaves g c only = absurd (looks_not c.args.call.now _ only c.in-Truncate.is refl)

pub returns-in_default-clause-commit : goal.returns-in_default-clause-commit
returns-in_default-clause-commit g c = c.name.ensures.commit

pub returns-in_default-clause-leaves : goal.returns-in_default-clause-leaves
returns-in_default-clause-leaves g c only = absurd (not_looking c.args.call.now c.in_default.not-Read c.in_default.not-Stat c.in_default.not-List only)
