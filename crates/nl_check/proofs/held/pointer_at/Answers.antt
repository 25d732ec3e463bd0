use Rattle.std.proofs.Common.{◌∙◌, arith, nat_lt, sym}
use Rattle.std.proofs.lemmas.Bool.{cond-false, cond-true, le-ltb, lt-ltb}
use Rattle.nl_meta.specs.Nodes.{pointer_at}
use Rattle.nl_check.proofs.held.pointer_at.Goals as goal

pub returns-then-index-lt8 : goal.returns-then-index-lt8
unfolding pointer_at
returns-then-index-lt8 c = let low = c.if-index-lt8.true in sym (cond-true (nat_lt c.args.index 8) _ _ (lt-ltb c.args.index 8 (omega (arith, low))))

pub returns-else-index-lt8 : goal.returns-else-index-lt8
unfolding pointer_at
returns-else-index-lt8 c = let high = c.if-index-lt8.false in c.pointer_on.ensures ∙ sym (cond-false (nat_lt c.args.index 8) _ _ (le-ltb c.args.index 8 (omega (arith, high))))
