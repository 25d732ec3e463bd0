use Rattle.std.proofs.Common.{arith}
use Rattle.std.proofs.lemmas.List.{length-append}
use Rattle.nl_tree.specs.Tree.{entries_of}
use Rattle.nl_tree.specs.Step.{listing}
use Rattle.nl_tree_entries.proofs.ListingProofs.{names_step, names_room, names_end}
use Rattle.nl_tree_entries.proofs.listing.push_names.Goals as goal

pub push_if_entry-requires : goal.push_if_entry-requires
unfolding entries_of
push_if_entry-requires c =
    omega (arith, names_room c.args.path.now c.args.tree.now c.entries.entry-index c.entry-item.result c.entries.out _ c.entries-test.true c.entry-item.is c.entries.invariant, length-append c.args.out.now (listing (entries_of c.args.tree.now c.args.path.now)))

pub entries-preserved : goal.entries-preserved
entries-preserved c = names_step c.args.path.now c.args.tree.now c.entries.entry-index c.entry-item.result c.entries.out _ _ c.entries-test.true c.entry-item.is c.push_if_entry.ensures c.entries.invariant

pub returns : goal.returns
unfolding entries_of
returns c = names_end c.args.path.now c.args.tree.now c.entries.entry-index c.entries.out _ (omega arith) c.entries.invariant
