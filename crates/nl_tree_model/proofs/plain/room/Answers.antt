use Rattle.std.proofs.Common.{◌∙◌, ap, sym, subst, Some}
use Rattle.nl_tree.specs.Tree.{Tree}
use Rattle.nl_tree.specs.TreeLaws.{IsInOrder}
use Rattle.nl_tree.specs.Step.{effect_of}
use Rattle.nl_tree.proofs.StepProofs.{order_after}
use Rattle.nl_tree.proofs.KeptProofs.{change_at}
use Rattle.nl_tree_model.proofs.plain.room.Goals as goal

pub after_change-requires-clause-change : goal.after_change-requires-clause-change
after_change-requires-clause-change c =
    change_at c.deref.result.now c.deref-in-Some.result.now c.args.call.now c.names-in-Some.result.now (c.in-Some.ensures ∙ ap Some (sym c.names-in-Some.ensures))
    (c.deref-in-Some.ensures.value ∙ c.requires.changed ∙ ap (λ (x : Tree). (effect_of x c.args.call.now).tree) (sym c.deref.ensures.value))
    (subst IsInOrder (sym c.deref.ensures.value) c.requires.plain.in_order)

pub in_one_pass-requires : goal.in_one_pass-requires
in_one_pass-requires c =
    subst IsInOrder (sym (c.deref-in_default.ensures.value ∙ c.requires.changed)) (order_after c.args.tree.now.items c.args.call.now c.requires.plain.in_order)
