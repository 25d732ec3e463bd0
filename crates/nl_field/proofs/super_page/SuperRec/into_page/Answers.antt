use Rattle.nl_field.specs.SuperPage.{super_bytes}
use Rattle.nl_field.proofs.SuperPage.{length-super_head, super-spelled}
use Rattle.nl_field.proofs.super_page.SuperRec.into_page.Goals as goal

pub returns-clause-main : goal.returns-clause-main
unfolding super_bytes
returns-clause-main c = rw (c.head.ensures.bytes, length-super_head c.args.self.now) at c.set_head.ensures.main

pub returns-clause-back : goal.returns-clause-back
returns-clause-back c = super-spelled c.args.self.now c.head.ensures.fits c.requires.spelled
