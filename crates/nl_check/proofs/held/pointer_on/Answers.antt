use Rattle.std.proofs.Common.{◌∙◌, sym}
use Rattle.nl_inode.proofs.FetchFacts.{none-of}
use Rattle.nl_meta.specs.Pages.{page_of}
use Rattle.nl_check.proofs.Gathered.{not-there}
use Rattle.nl_check.proofs.held.pointer_on.Goals as goal

pub returns-else-resident : goal.returns-else-resident
returns-else-resident c = not-there (page_of c.args.meta.now) c.args.address c.args.slot (none-of _ (sym c.resident.ensures ∙ c.if-resident.false))
