use Rattle.std.proofs.Common.{◌∙◌, sym, ap}
use Rattle.std.specs.Prelude.{option_and_then}
use Rattle.nl_field.specs.SuperPage.{super_of}
use Rattle.nl_inode.proofs.FetchFacts.{none-of}
use Rattle.nl_meta.specs.Nodes.{super_of_pages}
use Rattle.nl_check.proofs.judging.super_rec.Goals as goal

pub returns-then-resident : goal.returns-then-resident
unfolding super_of_pages
returns-then-resident c = c.of.ensures.value ∙ sym (ap (option_and_then super_of) c.page.ensures)

pub returns-else-resident : goal.returns-else-resident
unfolding super_of_pages
returns-else-resident c = sym (ap (option_and_then super_of) (none-of _ (sym c.resident.ensures ∙ c.if-resident.false)))
