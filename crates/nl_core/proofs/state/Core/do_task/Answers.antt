use Rattle.std.proofs.Common.{sym, subst, arith}
use Rattle.nl_tree.specs.declared.turn.Duty.{Duty}
use Rattle.nl_core.specs.Duties.{DoesTask}
use Rattle.nl_core.proofs.Tasks.{handle_does}
use Rattle.nl_core.proofs.Onward.{goes_more}
use Rattle.nl_core.proofs.state.Core.do_task.Goals as goal

pub returns-in-Copy-clause-goes : goal.returns-in-Copy-clause-goes
returns-in-Copy-clause-goes g c = goes_more g.D.Counts 0 512 c.args.self.now c.copy.new.self (omega arith) c.copy.ensures.goes

pub returns-in-Copy-clause-does : goal.returns-in-Copy-clause-does
returns-in-Copy-clause-does g c = subst (λ (d : Duty). DoesTask g.D.Counts g.D.MovingPages d c.args.self.now c.copy.new.self c.copy.result) (sym c.in-Copy.is) c.copy.ensures.does

pub returns-in-Erase-clause-goes : goal.returns-in-Erase-clause-goes
returns-in-Erase-clause-goes g c = goes_more g.D.Counts 0 512 c.args.self.now c.erase.new.self (omega arith) c.erase.ensures.goes

pub returns-in-Erase-clause-does : goal.returns-in-Erase-clause-does
returns-in-Erase-clause-does g c = subst (λ (d : Duty). DoesTask g.D.Counts g.D.MovingPages d c.args.self.now c.erase.new.self c.erase.result) (sym c.in-Erase.is) c.erase.ensures.does

pub returns-in-Handle-clause-does : goal.returns-in-Handle-clause-does
returns-in-Handle-clause-does g c =
    let G = g.D.Counts in
    let v = c.args.self.now in
    let w = c.handle.new.self in
    subst (λ (d : Duty). DoesTask G g.D.MovingPages d v w c.handle.result) (sym c.in-Handle.is) (handle_does G v w g.D.MovingPages c.in-Handle.number c.handle.result c.handle.ensures.handles)

pub returns-in-Commit-clause-does : goal.returns-in-Commit-clause-does
returns-in-Commit-clause-does g c = subst (λ (d : Duty). DoesTask g.D.Counts g.D.MovingPages d c.args.self.now c.commit_changes.new.self c.commit_changes.result) (sym c.in-Commit.is) c.commit_changes.ensures.does

pub returns-in-Level-clause-goes : goal.returns-in-Level-clause-goes
returns-in-Level-clause-goes g c = goes_more g.D.Counts 0 512 c.args.self.now c.level.new.self (omega arith) c.level.ensures.goes

pub returns-in-Level-clause-does : goal.returns-in-Level-clause-does
returns-in-Level-clause-does g c = subst (λ (d : Duty). DoesTask g.D.Counts g.D.MovingPages d c.args.self.now c.level.new.self c.level.result) (sym c.in-Level.is) c.level.ensures.does
