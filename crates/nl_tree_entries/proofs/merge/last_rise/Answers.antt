use Rattle.std.proofs.Common.{arith, sym, ◌∙◌}
use Rattle.nl_tree_entries.proofs.MergeProofs.{one_rises, rise_more}
use Rattle.nl_tree_entries.proofs.merge.last_rise.Goals as goal

pub entries-init : goal.entries-init
entries-init c = (omega (arith, c.requires), one_rises c.args.entries.now c.requires)

pub entries-preserved : goal.entries-preserved
entries-preserved c =
    (omega (arith, c.entries.invariant.0), rise_more c.args.entries.now c.entries.start _ _ c.entries.invariant.0 c.entries-test.true c.index-entries-start.is c.index-entries-start-in-entries.is (sym c.if-is_before.true ∙ c.is_before.ensures) c.entries.invariant.1)
