use Rattle.std.proofs.Common.{arith}
use Rattle.nl_field.proofs.InodeRecord.{inode-reads}
use Rattle.nl_field.proofs.inode.read.Goals as goal

pub returns-clause-reads : goal.returns-clause-reads
returns-clause-reads c = rw c.decode.ensures (inode-reads c.args.bytes.now (λ k. let byte = c.type_inv.bytes k in omega arith))
