use Rattle.std.proofs.Common.{arith}
use Rattle.nl_tree_content.proofs.FileProofs.{part_some, part_none}
use Rattle.nl_tree_content.proofs.file_ops.push_part.Goals as goal

pub returns-in-Some : goal.returns-in-Some
returns-in-Some c = part_some c.args.file.now c.args.index c.in-Some.page.now _ c.args.out.now _ c.args.count c.args.start _ c.extend.ensures c.bytes.ensures (omega arith) c.in-Some.ensures.page c.requires.part c.in-Some.ensures.whole

pub returns-in-None : goal.returns-in-None
returns-in-None c = part_none c.args.file.now c.args.index c.args.out.now _ c.args.count c.args.start c.push_zeros.ensures c.in-None.ensures.page c.requires.part
