use Rattle.std.proofs.Common.{not, refl}
use Rattle.nl_tree.specs.Tree.{paths_eq, path_cmp}
use Rattle.nl_tree_entries.proofs.EntriesSteps.{where_key_step}
use Rattle.std.specs.FinMap.Entries.{where_key}
use Rattle.nl_tree_content.proofs.LoopProofs.{from_none, all_read}
use Rattle.nl_tree_entries.proofs.entries.without.Goals as goal

pub entries-preserved : goal.entries-preserved
entries-preserved c =
    where_key_step (λ p. not (paths_eq c.args.path.now p)) _ _ c.args.tree.now _ c.entries.entry-index _ _ c.entries-test.true c.in_ok-push_if.ensures c.is_other-keep.ensures c.entry-item.is c.entries.invariant

pub entries-init : goal.entries-init
entries-init c = from_none c.in_ok-kept.kept.items _ c.in_ok-kept.ensures.items

pub returns : goal.returns
returns c = all_read (where_key path_cmp (λ p. not (paths_eq c.args.path.now p))) c.args.tree.now c.entries.kept.items _ c.entries.entry-index refl c.entries-test.false c.entries.invariant
