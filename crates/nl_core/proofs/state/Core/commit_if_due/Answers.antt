use Rattle.std.proofs.Common.{◌≡◌, ℕ, ap, map, arith}
use Rattle.nl_core_callbacks.specs.Handled.{nameless_line}
use Rattle.nl_iface.proofs.RoundSteps.{empties_laws}
use Rattle.nl_core.specs.Core.{names_of}
use Rattle.nl_core.specs.declared.rounds.Rounded.TheVariants as rounded
use Rattle.nl_core.proofs.NonePending.{none_pending}
use Rattle.nl_core.proofs.Onward.{cause_stopped, goes_more, goes_none}
use Rattle.nl_core.proofs.state.Core.commit_if_due.Goals as goal

done_fault : rounded.Done ≡ rounded.Fault → ⊥
done_fault e = cc

lost_fault : (wanted found : ℕ) → rounded.Lost wanted found ≡ rounded.Fault → ⊥
lost_fault wanted found e = cc

pub returns-then-not-is_due-clause-goes : goal.returns-then-not-is_due-clause-goes
returns-then-not-is_due-clause-goes g c =
    let G = g.D.Counts in
    let v = c.args.self.now in
    goes_more G 0 512 v v (omega arith) (goes_none G v c.requires.core)

pub returns-then-not-is_due-clause-emptied : goal.returns-then-not-is_due-clause-emptied
returns-then-not-is_due-clause-emptied g c =
    let G = g.D.Counts in
    let v = c.args.self.now in
    let none = c.is_due.ensures.0 c.if-not-is_due.true in
    record {
      no_pairs = none.0;
      freed = none.1;
      space = empties_laws.none (names_of G v).space;
      runs = c.requires.writes;
    }

pub returns-then-not-is_due-clause-faults : goal.returns-then-not-is_due-clause-faults
returns-then-not-is_due-clause-faults g c is = absurd (done_fault is)

pub returns-then-self-ne0-clause-lines : goal.returns-then-self-ne0-clause-lines
returns-then-self-ne0-clause-lines g c = ap (λ xs. map nameless_line xs) c.in-Done.ensures.commits.same_flight

pub returns-then-self-ne0-clause-faults : goal.returns-then-self-ne0-clause-faults
returns-then-self-ne0-clause-faults g c =
    let G = g.D.Counts in
    cause_stopped G (rounded.Fault ≡ rounded.Fault) c.args.self.now c.commit.new.self 512 c.commit.ensures.goes c.requires.writes c.if-self-ne0.true

pub returns-else-self-ne0-clause-lines : goal.returns-else-self-ne0-clause-lines
returns-else-self-ne0-clause-lines g c = ap (λ xs. map nameless_line xs) c.in-Done.ensures.commits.same_flight

pub returns-else-self-ne0-clause-emptied : goal.returns-else-self-ne0-clause-emptied
returns-else-self-ne0-clause-emptied g c =
    let G = g.D.Counts in
    let v = c.args.self.now in
    let w = c.commit.new.self in
    let all = c.in-Done.ensures.commits in
    record {
      no_pairs = c.stands.ensures.called (none_pending (names_of G v) (names_of G w) c.requires.handled all.acknowledged);
      freed = all.freed;
      space = all.space c.if-self-ne0.false;
      runs = c.if-self-ne0.false;
    }

pub returns-else-self-ne0-clause-faults : goal.returns-else-self-ne0-clause-faults
returns-else-self-ne0-clause-faults g c is = absurd (done_fault is)

pub returns-in-Lost-clause-lines : goal.returns-in-Lost-clause-lines
returns-in-Lost-clause-lines g c = ap (λ xs. map nameless_line xs) c.in-Lost.ensures.commits.0.same_flight

pub returns-in-Lost-clause-emptied : goal.returns-in-Lost-clause-emptied
returns-in-Lost-clause-emptied g c = (c.in-Lost.ensures.commits.1, c.in-Lost.ensures.commits.2)

pub returns-in-Lost-clause-faults : goal.returns-in-Lost-clause-faults
returns-in-Lost-clause-faults g c is = absurd (lost_fault _ _ is)

pub returns-in-Fault-clause-lines : goal.returns-in-Fault-clause-lines
returns-in-Fault-clause-lines g c = ap (λ xs. map nameless_line xs) c.in-Fault.ensures.commits.same_flight

pub returns-in-Fault-clause-faults : goal.returns-in-Fault-clause-faults
returns-in-Fault-clause-faults g c is = c.commit.ensures.faults c.in-Fault.is
