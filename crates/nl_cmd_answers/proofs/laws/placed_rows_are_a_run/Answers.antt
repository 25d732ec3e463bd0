use Rattle.std.proofs.Common.{ap, ◌++◌, List, ℕ}
use Rattle.nl_print.specs.Texts.{opened_line}
use Rattle.nl_cmd_answers.proofs.Texts.{lines_placed}
use Rattle.nl_cmd_answers.proofs.laws.placed_rows_are_a_run.Goals as goal

pub returns : goal.returns
returns c = λ count rows placed. ap (λ (t : List ℕ). opened_line count ++ t) (lines_placed count rows placed)
