use Rattle.std.proofs.Common.{◌∙◌, ◌++◌, ◌∷◌, [], sym, subst}
use Rattle.nl_tree.specs.Tree.{Tree}
use Rattle.nl_tree_model.specs.PlainTree.{IsPlainTree, ArePageCharges}
use Rattle.nl_tree_model.proofs.PlainProofs.{new_plain, new_charges}
use Rattle.nl_tree_model.proofs.plain.Plain.new.Goals as goal

pub invariant_of-result : goal.invariant_of-result
invariant_of-result c =
    subst (λ (t : Tree). IsPlainTree c.args.shape t × ArePageCharges 0 0 t) (sym (c.in_ok-push.ensures.items ∙ (λ i. c.new-tree.ensures.items i ++ ((c.in_ok-root.ensures ∙ c.new.ensures) i, c.directory.ensures i) ∷ [])))
    (new_plain c.args.shape c.requires, new_charges)
