use Rattle.nl_field.proofs.SpareRecord.{spare-reads}
use Rattle.nl_field.proofs.spare.spare_of.Goals as goal

pub returns-clause-reads : goal.returns-clause-reads
returns-clause-reads c = rw c.read.ensures (spare-reads c.args.bytes.now c.fits-bytes)
