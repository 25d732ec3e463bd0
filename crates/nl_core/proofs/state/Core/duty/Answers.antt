use Rattle.std.proofs.Common.{◌≡◌, ◌∙◌, sym, refl, true, false, arith}
use Rattle.nl_tree.specs.declared.turn.DutyAnswer.TheVariants as duty
use Rattle.nl_core.proofs.Tasks.{rest_does, runs_then, task_does}
use Rattle.nl_core.proofs.Onward.{goes_more, goes_none}
use Rattle.nl_core.proofs.state.Core.duty.Goals as goal

apart : false ≡ true → ⊥
apart e = cc

pub do_task-requires-clause-writes : goal.do_task-requires-clause-writes
do_task-requires-clause-writes g c = (runs_then g.D.Counts c.args.self.now (λ rest. apart (sym c.if-is_at_rest.false ∙ c.is_at_rest.ensures.1 rest))).0

pub do_task-requires-clause-stamp : goal.do_task-requires-clause-stamp
do_task-requires-clause-stamp g c = let low = (runs_then g.D.Counts c.args.self.now (λ rest. apart (sym c.if-is_at_rest.false ∙ c.is_at_rest.ensures.1 rest))).1 in omega (arith, low)

pub returns-then-is_at_rest : goal.returns-then-is_at_rest
returns-then-is_at_rest g c =
    let G = g.D.Counts in
    let v = c.args.self.now in
    record {
      core = c.requires.core;
      goes = goes_more G 0 512 v v (omega arith) (goes_none G v c.requires.core);
      does = rest_does G g.D.MovingPages v c.args.which (c.is_at_rest.ensures.0 c.if-is_at_rest.true);
      rests = λ rest. refl;
      lines = refl;
      faults = λ is. absurd (differ is);
    }
  where
    differ : duty.Nothing ≡ duty.Fault → ⊥
    differ e = cc

pub returns : goal.returns
returns g c =
    let G = g.D.Counts in
    let e = c.do_task.ensures in
    record {
      core = e.core;
      goes = e.goes;
      does = task_does G g.D.MovingPages c.args.self.now c.do_task.new.self c.args.which c.do_task.result (λ rest. apart (sym c.if-is_at_rest.false ∙ c.is_at_rest.ensures.1 rest)) e.does;
      rests = λ rest. absurd (apart (sym c.if-is_at_rest.false ∙ c.is_at_rest.ensures.1 rest));
      lines = e.lines;
      faults = e.faults;
    }
