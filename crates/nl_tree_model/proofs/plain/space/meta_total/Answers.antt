use Rattle.std.proofs.Common.{arith, []}
use Rattle.std.proofs.lemmas.Bool.Decides.{nat_tests}
use Rattle.nl_tree.specs.Tree.{directory}
use Rattle.nl_tree.specs.KeptSums.{meta_of_entry}
use Rattle.nl_tree_model.proofs.SpaceSteps.{sum_more}
use Rattle.nl_tree.proofs.SpaceProofs.{meta-is}
use Rattle.nl_tree_model.proofs.plain.space.meta_total.Goals as goal

pub entries-init : goal.entries-init
entries-init c = (omega (arith, meta-is c.args.tree.now), omega arith)

pub returns-then-total-limit : goal.returns-then-total-limit
returns-then-total-limit c = grind (arith, nat_tests, sum_more (meta_of_entry c.args.tree.now) c.args.tree.now c.entries.at ([], directory) c.entries-test.true, c.meta_pages-total.ensures.pages ([], directory))

pub entries-preserved : goal.entries-preserved
entries-preserved c = (omega (arith, sum_more (meta_of_entry c.args.tree.now) c.args.tree.now c.entries.at ([], directory) c.entries-test.true, c.meta_pages-total.ensures.pages ([], directory)), omega arith)
