use Rattle.std.proofs.Common.{◌∙◌}
use Rattle.nl_tree_entries.proofs.MergeProofs.{put_parts}
use Rattle.nl_tree_entries.proofs.merge.put_all.Goals as goal

pub runs-preserved : goal.runs-preserved
runs-preserved c = put_parts _ _ c.runs.tree.items _ c.runs.rest.now c.last_rise-start.result c.deref.ensures.value c.from.ensures c.in_ok-tree.ensures ∙ c.runs.invariant
