use Rattle.std.proofs.Common.{List, map, subst, sym}
use Rattle.nl_field.specs.Numbers.{shape_for}
use Rattle.nl_tree.specs.declared.call.Line.{Line}
use Rattle.nl_cmd_compare.specs.Ends.{Measures}
use Rattle.nl_cmd_compare.specs.declared.comparison.Numbers.{Numbers}
use Rattle.nl_cmd_compare.proofs.comparing.numbers_of.Goals as goal

pub returns-then-whole : goal.returns-then-whole
returns-then-whole c =
    let is = c.answer_all-whole.ensures c.if-whole.true (shape_for 32 32) c.in-Ok.ensures in
    subst (λ (n : Numbers). Measures (shape_for 32 32) (map (λ (l : Line). l.call) c.args.lines.now) n) (sym c.numbers-numbers.ensures)
    (record { calls_are = is.counted; few = is.few tt; most = is.most tt })
