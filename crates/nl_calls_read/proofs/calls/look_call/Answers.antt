use Rattle.std.proofs.Common.{ℕ, List, sym, subst}
use Rattle.nl_tree.specs.declared.call.Call.{Call}
use Rattle.nl_tree.specs.declared.call.Call.TheVariants.{Stat}
use Rattle.nl_calls_read.specs.Due.{AnswersStep}
use Rattle.nl_calls_read.proofs.calls.look_call.Goals as goal

pub returns-in-Read-clause-answer : goal.returns-in-Read-clause-answer
returns-in-Read-clause-answer g c =
    let G = g.D.Counts in
    subst (λ (call : Call). AnswersStep G c.args.core.now call c.read_path.new.out c.read_path.result) (sym c.in-Read.is) c.read_path.ensures.answer

pub returns-in-Stat-clause-answer : goal.returns-in-Stat-clause-answer
returns-in-Stat-clause-answer g c =
    let G = g.D.Counts in
    let now = subst (λ (bytes : List ℕ). AnswersStep G c.args.core.now (Stat c.in-Stat.path) bytes c.stat_path.result) (sym c.requires.nothing) c.stat_path.ensures.answer in
    subst (λ (call : Call). AnswersStep G c.args.core.now call c.args.out.now c.stat_path.result) (sym c.in-Stat.is) now

pub returns-in-List-clause-answer : goal.returns-in-List-clause-answer
returns-in-List-clause-answer g c =
    let G = g.D.Counts in
    subst (λ (call : Call). AnswersStep G c.args.core.now call c.list_path.new.out c.list_path.result) (sym c.in-List.is) c.list_path.ensures.answer
