use Rattle.std.proofs.Common.{Some, ap, drop, sym, take, ◌∙◌}
use Rattle.nl_recover.proofs.Blanks.{blank_spelled}
use Rattle.nl_recover.proofs.look.decode.Goals as goal

pub returns-then-is_blank : goal.returns-then-is_blank
returns-then-is_blank c =
    ap (λ r. Some r) c.unused.ensures ∙ blank_spelled (take 256 (drop c.args.at c.args.page.now.main)) (sym c.is_blank.ensures ∙ c.if-is_blank.true)
