use Rattle.std.proofs.Common.{◌≡◌, [], take, drop}
use Rattle.nl_tree.specs.Step.{prefix_refusal_from}
use Rattle.nl_tree_model.proofs.plain.refusals.of_prefix.Given as goal

abbrev pub invariant-names : goal.invariant-names
invariant-names l = prefix_refusal_from l.tree (take l.at l.path) (drop l.at l.path) ≡ prefix_refusal_from l.tree [] l.path
