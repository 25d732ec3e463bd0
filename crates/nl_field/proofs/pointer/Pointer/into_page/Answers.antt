use Rattle.nl_field.proofs.PointerRecord.{pointer-spelled}
use Rattle.nl_field.proofs.pointer.Pointer.into_page.Goals as goal

pub returns-clause-back : goal.returns-clause-back
returns-clause-back c = pointer-spelled c.args.self.now c.spelling-bytes.ensures.fits c.requires.spelled
