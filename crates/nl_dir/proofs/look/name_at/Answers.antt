use Rattle.nl_meta.specs.Pages.{page_of}
use Rattle.nl_dir.proofs.LookProofs.{name-here}
use Rattle.nl_dir.proofs.look.name_at.Goals as goal

pub returns : goal.returns
returns c = name-here (page_of c.args.meta.now) c.args.rec.now c.args.place c.page_at.result.now.main c.slot_name.result.now c.requires.directory c.requires.below c.page_at.ensures c.slot_name.ensures
