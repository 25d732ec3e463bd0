use Rattle.nl_tree_entries.proofs.MergeProofs.{merged_step, merged_end}
use Rattle.nl_tree_content.proofs.LoopProofs.{from_none}
use Rattle.std.proofs.Common.{◌∙◌}
use Rattle.nl_tree_entries.proofs.merge.merged.Goals as goal

pub entries-preserved : goal.entries-preserved
entries-preserved c =
    merged_step c.entries.put.items c.entries.rest.now c.args.tree.now c.args.entries.now _ _ _ _ c.entries.entry-index c.place_of-place.result c.entry-item.result c.requires c.entries-test.true c.entry-item.is c.place_of-place.ensures.place
    c.in_ok-push_all.ensures c.in_ok-push.ensures c.from.ensures c.without_first-rest.ensures c.entries.invariant

pub entries-init : goal.entries-init
entries-init c = from_none c.new-put.result.items _ c.new-put.ensures.items

pub returns : goal.returns
returns c = c.in_ok-push_all-2.ensures ∙ merged_end c.entries.put.items c.entries.rest.now c.args.entries.now _ c.entries.entry-index c.entries-test.false c.entries.invariant
