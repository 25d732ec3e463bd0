use Rattle.std.proofs.Common.{◌∙◌, ◌++◌, ◌∷◌, [], arith}
use Rattle.nl_turns.specs.History.{with_lines}
use Rattle.nl_cmd_course.specs.Asking.{entries_from, lines_from}
use Rattle.nl_cmd_course.proofs.Asked.{all_lines, length_more}
use Rattle.nl_test_compare.proofs.pairs.most_pairs.Goals as goal

pub ask-requires-clause-may : goal.ask-requires-clause-may
ask-requires-clause-may g c =
    let i = c.lines.invariant in
    let count = i.4 in
    (i.0, i.1, i.2, i.3, omega (arith, count))

pub pairs-requires : goal.pairs-requires
pairs-requires g c =
    let i = c.lines.invariant in
    let count = i.4 in
    let asked = i.2 ++ (c.get.result.now.call, c.ask.result) ∷ [] in
    let has = c.ask.ensures.asked i.0 i.1 i.2 i.3 (omega (arith, count)) in
    (i.0, with_lines i.1 (lines_from 1 asked ++ []), entries_from 1 asked, has.follows [] (all_lines asked has.bounded))

pub lines-preserved : goal.lines-preserved
lines-preserved g c =
    let i = c.lines.invariant in
    let count = i.4 in
    let asked = i.2 ++ (c.get.result.now.call, c.ask.result) ∷ [] in
    let more = length_more i.2 c.get.result.now.call c.ask.result in
    (i.0, i.1, asked, c.ask.ensures.asked i.0 i.1 i.2 i.3 (omega (arith, count)), omega (arith, count, more))
