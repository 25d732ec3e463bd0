use Rattle.std.proofs.Common.{[], refl, arith}
use Rattle.nl_tree.specs.declared.call.Call.TheVariants.{Mkdir}
use Rattle.nl_tree.specs.declared.call.Line.{Line}
use Rattle.nl_turns.specs.Examples.{dir_a}
use Rattle.nl_workers.proofs.rows.hearings.Goals as goal

abbrev line_one : Line
line_one = record { line = 1; round = 0; worker = 0; call = Mkdir dir_a }

pub returns-clause-quiet : goal.returns-clause-quiet
returns-clause-quiet c = record { around = λ i line e. (tt, tt); staged = λ i line e some. absurd (omega arith) }

pub returns-clause-not_told : goal.returns-clause-not_told
returns-clause-not_told c h = h.staged 0 line_one refl (omega arith)

pub returns-clause-deaf : goal.returns-clause-deaf
returns-clause-deaf c h = (h.around 0 line_one refl).0
