use Rattle.std.proofs.Common.{◌∙◌, sym, arith}
use Rattle.nl_tree_model.proofs.PlainProofs.{small_sums}
use Rattle.nl_tree.proofs.KeptProofs.{data_changed, meta_changed, meta_kept, overfull_is, overfull_kept}
use Rattle.nl_tree_model.proofs.plain.sums.after_change.Goals as goal

pub overflow_add-pages : goal.overflow_add-pages
overflow_add-pages c = omega (arith, (small_sums c.args.shape c.args.tree.now c.args.sums.pages c.args.sums.meta c.requires.before c.requires.kept).0, c.data_of.ensures.bound)

pub overflow_sub-pages : goal.overflow_sub-pages
overflow_sub-pages c = omega (arith, data_changed c.args.path.now c.args.tree.now c.args.next.now _ _ c.requires.change c.find-was.ensures c.find-now.ensures, c.data_of.ensures.pages, c.data_of-2.ensures.pages, c.requires.kept.of_data)

pub overflow_add-meta : goal.overflow_add-meta
overflow_add-meta c = omega (arith, (small_sums c.args.shape c.args.tree.now c.args.sums.pages c.args.sums.meta c.requires.before c.requires.kept).1, c.ranges_of.ensures.bound)

pub overflow_sub-changed : goal.overflow_sub-changed
overflow_sub-changed c = omega (arith, meta_kept c.args.path.now c.args.tree.now c.args.next.now _ _ c.requires.some c.requires.change c.find-was.ensures c.find-now.ensures (sym c.is_there.ensures ∙ c.if-is_there.true) (sym c.is_there-then-is_there.ensures ∙ c.if-is_there-2.true), c.ranges_of.ensures.pages, c.ranges_of-then-is_there-2.ensures.pages, c.requires.kept.of_meta)

pub judged-requires-clause-full : goal.judged-requires-clause-full
judged-requires-clause-full c =
    overfull_kept c.args.shape c.args.path.now c.args.tree.now c.args.next.now _ _ c.requires.some c.requires.change c.requires.before c.find-was.ensures c.find-now.ensures (sym c.is_there.ensures ∙ c.if-is_there.true) (sym c.is_there-then-is_there.ensures ∙ c.if-is_there-2.true)

pub judged-requires-clause-sums : goal.judged-requires-clause-sums
judged-requires-clause-sums c = record {
  of_data = omega (arith, data_changed c.args.path.now c.args.tree.now c.args.next.now _ _ c.requires.change c.find-was.ensures c.find-now.ensures, c.data_of.ensures.pages, c.data_of-2.ensures.pages, c.requires.kept.of_data);
  of_meta = omega (arith, meta_kept c.args.path.now c.args.tree.now c.args.next.now _ _ c.requires.some c.requires.change c.find-was.ensures c.find-now.ensures (sym c.is_there.ensures ∙ c.if-is_there.true) (sym c.is_there-then-is_there.ensures ∙ c.if-is_there-2.true), c.ranges_of.ensures.pages, c.ranges_of-then-is_there-2.ensures.pages, c.requires.kept.of_meta);
}

pub overflow_add-changed : goal.overflow_add-changed
overflow_add-changed c = omega (arith, (small_sums c.args.shape c.args.tree.now c.args.sums.pages c.args.sums.meta c.requires.before c.requires.kept).1, c.ranges_of.ensures.bound, c.pages_of.ensures.bound)

pub overflow_sub-changed-2 : goal.overflow_sub-changed-2
overflow_sub-changed-2 c = omega (arith, meta_changed c.args.path.now c.args.tree.now c.args.next.now _ _ _ _ _ _ c.requires.some c.requires.change c.find-was.ensures c.find-now.ensures c.counts_of-before.ensures.own c.counts_of-before.ensures.parent c.counts_of-after.ensures.own c.counts_of-after.ensures.parent, c.ranges_of.ensures.pages, c.pages_of.ensures.pages, c.pages_of-2.ensures.pages, c.requires.kept.of_meta)

pub overflow_sub-changed-3 : goal.overflow_sub-changed-3
overflow_sub-changed-3 c = omega (arith, meta_changed c.args.path.now c.args.tree.now c.args.next.now _ _ _ _ _ _ c.requires.some c.requires.change c.find-was.ensures c.find-now.ensures c.counts_of-before.ensures.own c.counts_of-before.ensures.parent c.counts_of-after.ensures.own c.counts_of-after.ensures.parent, c.ranges_of.ensures.pages, c.pages_of.ensures.pages, c.pages_of-2.ensures.pages, c.requires.kept.of_meta, c.ranges_of-2.ensures.pages)

pub judged-requires-2-clause-full : goal.judged-requires-2-clause-full
judged-requires-2-clause-full c =
    overfull_is c.args.shape c.args.path.now c.args.tree.now c.args.next.now _ _ _ c.requires.some c.requires.change c.requires.before c.counts_of-after.ensures.own c.counts_of-after.ensures.parent c.overfills.ensures

pub judged-requires-2-clause-sums : goal.judged-requires-2-clause-sums
judged-requires-2-clause-sums c = record {
  of_data = omega (arith, data_changed c.args.path.now c.args.tree.now c.args.next.now _ _ c.requires.change c.find-was.ensures c.find-now.ensures, c.data_of.ensures.pages, c.data_of-2.ensures.pages, c.requires.kept.of_data);
  of_meta = omega (arith, meta_changed c.args.path.now c.args.tree.now c.args.next.now _ _ _ _ _ _ c.requires.some c.requires.change c.find-was.ensures c.find-now.ensures c.counts_of-before.ensures.own c.counts_of-before.ensures.parent c.counts_of-after.ensures.own c.counts_of-after.ensures.parent, c.ranges_of.ensures.pages, c.pages_of.ensures.pages, c.pages_of-2.ensures.pages, c.requires.kept.of_meta, c.ranges_of-2.ensures.pages);
}
