use Rattle.std.proofs.Common.{sym, ◌∙◌, inr, arith, rules}
use Rattle.std.proofs.lemmas.Bool.Decides.{nat_tests}
use Rattle.nl_script.specs.Script.{script}
use Rattle.nl_script.specs.Words.{lines_of}
use Rattle.nl_script.proofs.Placed.{lines-none}
use Rattle.nl_script.proofs.Steps.{at-start, at-end}
use Rattle.nl_script.proofs.script.script_of.Goals as goal

pub returns-then-bytes-gt-MAX_SCRIPT-clause-refusal : goal.returns-then-bytes-gt-MAX_SCRIPT-clause-refusal
unfolding script
returns-then-bytes-gt-MAX_SCRIPT-clause-refusal c = inr (grind (arith, nat_tests))

pub script-init : goal.script-init
unfolding script
script-init c = record {
  so_far = at-start c.new-lines.result (lines_of c.args.bytes.now) c.new-lines.ensures ∙ grind (arith, nat_tests);
  read = search rules;
  bound = omega arith;
}

pub returns-clause-lines : goal.returns-clause-lines
returns-clause-lines c = sym c.script.invariant.so_far ∙ at-end c.script.at c.script.lines (lines_of c.script.rest.now) (lines-none c.script.rest.now (search rules))
