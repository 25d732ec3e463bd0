use Rattle.nl_field.proofs.SpareRecord.{spare-spelled}
use Rattle.nl_field.proofs.spare.spare_into.Goals as goal

pub returns-clause-back : goal.returns-clause-back
returns-clause-back c = spare-spelled c.args.rec.now c.put.ensures.fits c.requires
