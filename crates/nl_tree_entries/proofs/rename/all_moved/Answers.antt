use Rattle.std.proofs.Common.{◌++◌, drop, length, refl, map}
use Rattle.nl_tree.specs.Tree.{is_at_or_under, path_cmp, Tree}
use Rattle.nl_tree_entries.proofs.MergeProofs.{moved_step}
use Rattle.std.specs.FinMap.Entries.{where_key}
use Rattle.nl_tree_content.proofs.LoopProofs.{from_none, all_read}
use Rattle.nl_tree_entries.proofs.rename.all_moved.Goals as goal

pub entries-preserved : goal.entries-preserved
entries-preserved c =
    moved_step (is_at_or_under c.args.from.now) (λ e. (c.args.to.now ++ drop (length c.args.from.now) e.0, e.1)) _ _ c.args.tree.now _ c.entries.entry-index c.entry-item.result c.entries-test.true c.in_ok-push_moved.ensures c.entry-item.is c.entries.invariant

pub entries-init : goal.entries-init
entries-init c = from_none c.new-moved.result.items _ c.new-moved.ensures.items

pub returns : goal.returns
returns c =
    all_read (λ (es : Tree). map (λ e. (c.args.to.now ++ drop (length c.args.from.now) e.0, e.1)) (where_key path_cmp (is_at_or_under c.args.from.now) es)) c.args.tree.now c.entries.moved.items _ c.entries.entry-index refl c.entries-test.false c.entries.invariant
