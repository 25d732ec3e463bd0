use Rattle.std.proofs.Common.{◌∙◌, sym, arith}
use Rattle.nl_tree_model.proofs.PrefixProofs.{prefix_missing, prefix_file, prefix_on, prefix_end}
use Rattle.nl_tree_model.proofs.plain.refusals.of_prefix.Goals as goal

pub returns-then-is_missing : goal.returns-then-is_missing
returns-then-is_missing c = prefix_missing c.args.tree.now c.args.path.now c.names.at _ (omega arith) (sym c.if-is_missing.true ∙ c.is_missing.ensures) c.names.invariant

pub returns-then-is_file_at : goal.returns-then-is_file_at
returns-then-is_file_at c =
    prefix_file c.args.tree.now c.args.path.now c.names.at _ (omega arith) (sym c.if-is_missing.false ∙ c.is_missing.ensures) (sym c.if-is_file_at.true ∙ c.is_file_at.ensures) c.names.invariant

pub names-preserved : goal.names-preserved
names-preserved c =
    prefix_on c.args.tree.now c.args.path.now c.names.at _ (omega arith) (sym c.if-is_missing.false ∙ c.is_missing.ensures) (sym c.if-is_file_at.false ∙ c.is_file_at.ensures) c.names.invariant

pub returns : goal.returns
returns c = prefix_end c.args.tree.now c.args.path.now c.names.at _ (omega arith) c.names.invariant
