use Rattle.std.proofs.Common.{◌≡◌, ◌∙◌, List, map, ap, sym, subst, refl, true, false, arith}
use Rattle.nl_tree.specs.declared.turn.Duty.TheVariants as task
use Rattle.nl_tree.specs.declared.turn.DutyAnswer.{DutyAnswer}
use Rattle.nl_tree.specs.declared.turn.DutyAnswer.TheVariants as duty
use Rattle.nl_core_callbacks.specs.Handled.{nameless_line}
use Rattle.nl_flight.specs.Flight.{InFlight}
use Rattle.nl_core.specs.Duties.{DoesTask}
use Rattle.nl_core.proofs.Tasks.{commit_does, commit_fault, commit_keeps_lines, nothing_does}
use Rattle.nl_core.proofs.Onward.{goes_more, goes_none}
use Rattle.nl_core.proofs.state.Core.commit_changes.Goals as goal

pub returns-then-is_committed : goal.returns-then-is_committed
returns-then-is_committed g c =
    let G = g.D.Counts in
    let v = c.args.self.now in
    record {
      core = c.requires.core;
      goes = goes_more G 0 512 v v (omega arith) (goes_none G v c.requires.core);
      does = nothing_does G g.D.MovingPages v (c.is_committed.ensures.0 c.if-is_committed.true);
      lines = refl;
      faults = λ is. absurd (apart is);
    }
  where
    apart : duty.Nothing ≡ duty.Fault → ⊥
    apart e = cc

pub returns : goal.returns
returns g c =
    let G = g.D.Counts in
    let v = c.args.self.now in
    let w = c.commit-answer.new.self in
    let answer = c.commit-answer.result in
    let e = c.commit-answer.ensures in
    record {
      core = e.core;
      goes = e.goes;
      does = subst (λ (a : DutyAnswer). DoesTask G g.D.MovingPages task.Commit v w a) (sym c.of_committing.ensures) (commit_does G v w g.D.MovingPages answer (λ none. apart (sym c.if-is_committed.false ∙ c.is_committed.ensures.1 none)) e.commits);
      lines = ap (λ (f : List InFlight). map nameless_line f) (commit_keeps_lines G v w answer e.commits);
      faults = λ is. e.faults (commit_fault answer (sym c.of_committing.ensures ∙ is));
    }
  where
    apart : false ≡ true → ⊥
    apart e = cc
