use Rattle.std.proofs.Common.{◌≡◌, ⊎_elim, ◌+◌, ◌∙◌, Some, sym, subst}
use Rattle.std.proofs.lemmas.Bool.{cases_eq}
use Rattle.nl_tree.specs.declared.turn.DutyAnswer.{DutyAnswer}
use Rattle.nl_tree.specs.declared.turn.DutyAnswer.TheVariants as duty
use Rattle.nl_core_callbacks.specs.declared.draining.Drained.TheVariants as drained
use Rattle.nl_journal.specs.declared.answers.Committing.{Committing}
use Rattle.nl_core.specs.Calls.{CommitsByAnswer, CommitsAll}
use Rattle.nl_core.specs.Core.{begun_of}
use Rattle.nl_core.specs.Handling.{HandlesWithRoom}
use Rattle.nl_core.proofs.HandledNumber.{fault_only, with_room}
use Rattle.nl_core.proofs.Onward.{cause_then, goes_then}
use Rattle.nl_core.proofs.state.Core.handle_with_room.Goals as goal

pub returns-in-Done-clause-goes : goal.returns-in-Done-clause-goes
returns-in-Done-clause-goes g c =
    let G = g.D.Counts in
    goes_then G c.args.self.now c.commit.new.self c.handle_once-tried.new.self 512 0 c.commit.ensures.goes c.handle_once-tried.ensures.goes

pub returns-in-Done-clause-handles : goal.returns-in-Done-clause-handles
returns-in-Done-clause-handles g c =
    let G = g.D.Counts in
    let v = c.args.self.now in
    let u = c.commit.new.self in
    let w = c.handle_once-tried.new.self in
    let e = c.handle_once-tried.ensures in
    let all : CommitsAll G v u c.in-Done.field-0 = subst (λ (a : Committing). CommitsByAnswer G v u a) c.in-Done.is c.commit.ensures.commits in
    subst (λ (d : DutyAnswer). HandlesWithRoom G c.args.number v w d) (sym c.answer_of.ensures)
    (with_room G (begun_of u + 1) c.args.number c.in-Done.field-0 v u w c.handle_once-tried.result e.tries all
    (λ none. ⊎_elim (λ z. z) (λ off. absurd (off (sym (e.goes.stops.stands off) ∙ none))) (cases_eq u.stopped 0)))

pub returns-in-Done-clause-faults : goal.returns-in-Done-clause-faults
returns-in-Done-clause-faults g c =
    let G = g.D.Counts in
    cause_then G (c.handle_once-tried.result ≡ Some drained.Fault) (c.answer_of.result ≡ duty.Fault) c.args.self.now c.commit.new.self c.handle_once-tried.new.self 512 c.commit.ensures.goes c.handle_once-tried.ensures.faults
    (λ is. fault_only c.handle_once-tried.result (sym c.answer_of.ensures ∙ is))

pub returns-in-Lost-clause-faults : goal.returns-in-Lost-clause-faults
returns-in-Lost-clause-faults g c is = absurd (let no : ⊥ = cc in no)

pub returns-in-Fault-clause-faults : goal.returns-in-Fault-clause-faults
returns-in-Fault-clause-faults g c is = c.commit.ensures.faults c.in-Fault.is
