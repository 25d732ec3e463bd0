use Rattle.std.proofs.Common.{◌∙◌, sym}
use Rattle.nl_tree_entries.proofs.ListingProofs.{no_entry}
use Rattle.nl_tree_entries.proofs.listing.push_if_entry.Goals as goal

pub returns-else-is_entry : goal.returns-else-is_entry
returns-else-is_entry c = no_entry c.args.path.now c.args.entry.now c.args.out.now (sym c.if-is_entry.false ∙ c.is_entry.ensures)
