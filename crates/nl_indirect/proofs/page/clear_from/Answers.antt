use Rattle.std.proofs.Common.{◌+◌, sym, subst, List, ℕ}
use Rattle.nl_indirect.proofs.Cut.{CutsUpTo, cuts-on}
use Rattle.nl_indirect.proofs.page.clear_from.Goals as goal

pub loop-i-preserved : goal.loop-i-preserved
loop-i-preserved c =
    subst (λ (l : List ℕ). CutsUpTo c.args.slot (c.loop-i.i + 1) c.args.page.now.main l) (sym c.write.ensures.main)
    (cuts-on c.args.slot c.loop-i.i c.args.page.now.main c.loop-i.page.main c.requires.whole c.loop-i.auto.i c.loop-i-test.true c.loop-i.invariant)
