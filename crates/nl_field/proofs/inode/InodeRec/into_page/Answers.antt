use Rattle.nl_field.proofs.InodeRecord.{inode-spelled}
use Rattle.nl_field.proofs.inode.InodeRec.into_page.Goals as goal

pub returns-clause-back : goal.returns-clause-back
returns-clause-back c = inode-spelled c.args.self.now c.spelling-bytes.ensures.fits c.requires.spelled
