use Rattle.std.proofs.Common.{◌∙◌, sym, ap}
use Rattle.nl_field.specs.Bytes.{all_zero}
use Rattle.nl_inode.proofs.FetchFacts.{none-of}
use Rattle.nl_meta.specs.Pages.{page_of}
use Rattle.nl_recover.proofs.LookFacts.{bytes-at, zero-none}
use Rattle.nl_recover.proofs.look.is_zero_node.Goals as goal

pub returns-then-resident : goal.returns-then-resident
returns-then-resident c = c.are_zero.ensures ∙ sym (ap all_zero (bytes-at (page_of c.args.meta.now) c.args.ino c.page.result.now.main c.page.ensures))

pub returns-else-resident : goal.returns-else-resident
returns-else-resident c = sym (zero-none (page_of c.args.meta.now) c.args.ino (none-of _ (sym c.resident.ensures ∙ c.if-resident.false)))
