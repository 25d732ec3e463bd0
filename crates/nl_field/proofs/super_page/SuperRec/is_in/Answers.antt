use Rattle.nl_field.specs.SuperPage.{super_bytes}
use Rattle.nl_field.proofs.SuperPage.{length-super_head}
use Rattle.nl_field.proofs.super_page.SuperRec.is_in.Goals as goal

pub returns : goal.returns
unfolding super_bytes
returns c = rw (c.requires, c.head.ensures.bytes, length-super_head c.args.self.now) at c.is_padded.ensures
