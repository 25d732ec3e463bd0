use Rattle.std.proofs.Common.{◌+◌, [], length, rules, refl}
use Rattle.nl_script.proofs.Placed.{words-cut, words-end}
use Rattle.nl_script.proofs.words.first_part.Goals as goal

pub returns-in-Some-clause-words : goal.returns-in-Some-clause-words
returns-in-Some-clause-words c = words-cut c.args.column c.args.bytes.now c.cut.result.0.now c.in-Some.after.now (search rules)

pub returns-in-None-clause-words : goal.returns-in-None-clause-words
returns-in-None-clause-words c = words-end c.args.column (c.args.column + length c.cut.result.0.now) c.args.bytes.now c.cut.result.0.now [] (search rules) refl
