use Rattle.std.proofs.Common.{arith}
use Rattle.nl_inode.proofs.MarkTree.{below-row, from-left, from-right, left-row, right-row, right-set}
use Rattle.nl_inode.proofs.free_set.+first_below.Goals as goal

pub bounds-tree-left : goal.bounds-tree-left
bounds-tree-left t c = let b = below-row c.args.tree.now c.args.node c.args.height (omega arith) c.requires.inside in omega (arith, b)

pub first_below-requires : goal.first_below-requires
first_below-requires t c = (omega arith, (c.requires.marks, (c.if-tree-left.true, (omega arith, left-row c.args.tree.now c.args.node c.args.height (omega arith) c.requires.inside))))

pub first_below-requires-else-tree-left : goal.first_below-requires-else-tree-left
first_below-requires-else-tree-left t c = (
  omega arith,
  (
    c.requires.marks,
    (
      right-set c.args.tree.now c.args.node c.requires.marks c.requires.low (below-row c.args.tree.now c.args.node c.args.height (omega arith) c.requires.inside) c.requires.set c.if-tree-left.false,
      (omega arith, right-row c.args.tree.now c.args.node c.args.height (omega arith) c.requires.inside),
    ),
  ),
)

pub returns-then-tree-left : goal.returns-then-tree-left
returns-then-tree-left t c = from-left c.args.tree.now c.args.node c.args.height (omega arith) c.requires.inside c.first_below.result c.first_below.ensures

pub returns-else-tree-left : goal.returns-else-tree-left
returns-else-tree-left t c =
    from-right c.args.tree.now c.args.node c.args.height (omega arith) c.requires.inside c.first_below-else-tree-left.result c.requires.marks c.requires.low c.if-tree-left.false c.first_below-else-tree-left.ensures
