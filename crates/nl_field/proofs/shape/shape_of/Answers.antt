use Rattle.std.proofs.Common.{arith}
use Rattle.nl_field.proofs.Bounds.{bounds_with}
use Rattle.nl_field.proofs.shape.shape_of.Goals as goal

pub returns-clause-bounds : goal.returns-clause-bounds
returns-clause-bounds c = bounds_with c.args.blocks c.args.pages c.div_ceil-inode_pages.result c.div_ceil-vblocks.result
    (record { least_blocks = omega arith; most_blocks = omega arith; least_pages = omega arith; most_pages = omega arith; all_pages = omega arith }) c.div_ceil-inode_pages.ensures c.div_ceil-vblocks.ensures
