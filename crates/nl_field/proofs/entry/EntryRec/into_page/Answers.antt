use Rattle.nl_field.proofs.DirectoryEntry.{entry-spelled}
use Rattle.nl_field.proofs.entry.EntryRec.into_page.Goals as goal

pub returns-clause-back : goal.returns-clause-back
returns-clause-back c = entry-spelled c.args.self.now c.spelling-bytes.ensures.fits c.spelling-bytes.ensures.spelled
