use Rattle.std.proofs.Common.{◌≡◌, ◌<◌, ◌∙◌, sym, ap, length, is_some, arith}
use Rattle.std.proofs.lemmas.Grind.{common_steps}
use Rattle.nl_script.specs.Words.{parts}
use Rattle.nl_cmd_words.proofs.Spelled.{is_spelled, names_spelled, root_spelled}
use Rattle.nl_cmd_words.proofs.paths.is_path.Goals as goal

pub returns-then-is_empty : goal.returns-then-is_empty
returns-then-is_empty c =
    let none : length c.in-Some.names.now ≡ 0 = grind (arith, common_steps) in
    c.if-is_empty.true ∙ sym (ap is_some (root_spelled c.args.word.now c.in-Some.names.now c.in-Some.ensures none))

pub returns-else-is_empty : goal.returns-else-is_empty
returns-else-is_empty c =
    let some : 0 < length c.in-Some.names.now = grind (arith, common_steps) in
    c.are_names.ensures ∙ is_spelled (parts 47 c.in-Some.names.now) ∙ ap is_some (sym (names_spelled c.args.word.now c.in-Some.names.now c.in-Some.ensures some))
