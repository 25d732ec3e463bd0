use Rattle.std.proofs.Common.{[], rules, refl}
use Rattle.nl_script.proofs.Placed.{lines-cut, lines-end}
use Rattle.nl_script.proofs.script.first_line.Goals as goal

pub returns-in-Some-clause-lines : goal.returns-in-Some-clause-lines
returns-in-Some-clause-lines c = lines-cut c.args.rest.now _ c.in-Some.after.now (search rules)

pub returns-in-None-clause-lines : goal.returns-in-None-clause-lines
returns-in-None-clause-lines c = lines-end c.args.rest.now c.cut.result.0.now [] (search rules) (search rules) refl
