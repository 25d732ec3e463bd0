use Rattle.std.proofs.Common.{◌∙◌, sym}
use Rattle.nl_inode.proofs.FetchFacts.{none-of}
use Rattle.nl_inode.proofs.NodeSlots.{spelled-at}
use Rattle.nl_meta.specs.Pages.{page_of}
use Rattle.nl_recover.proofs.LookFacts.{inode-none}
use Rattle.nl_recover.proofs.look.inode.Goals as goal

pub returns-then-resident : goal.returns-then-resident
returns-then-resident c = c.decode.ensures ∙ sym (spelled-at c.args.meta.now c.args.ino c.page.result.now.main c.page.ensures)

pub returns-else-resident : goal.returns-else-resident
returns-else-resident c = sym (inode-none (page_of c.args.meta.now) c.args.ino (none-of _ (sym c.resident.ensures ∙ c.if-resident.false)))
