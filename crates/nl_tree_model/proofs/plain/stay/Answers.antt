use Rattle.std.proofs.Common.{◌∙◌, ap, sym}
use Rattle.nl_tree.specs.Step.{Outcome}
use Rattle.nl_tree_model.specs.PlainTree.{numbered}
use Rattle.nl_tree.proofs.StepProofs.{performed}
use Rattle.nl_tree_model.proofs.plain.stay.Goals as goal

pub returns-clause-reply : goal.returns-clause-reply
returns-clause-reply c =
    c.reply_in.ensures.reply ∙ ap (λ (o : Outcome). numbered c.args.calls o.reply) (sym (performed c.args.shape c.args.tree.now.items c.args.tree.now.items c.args.call.now c.requires.passes c.requires.same (sym c.requires.plain.room)))

pub returns-clause-bytes : goal.returns-clause-bytes
returns-clause-bytes c =
    c.reply_in.ensures.bytes ∙ ap (λ (o : Outcome). o.bytes) (sym (performed c.args.shape c.args.tree.now.items c.args.tree.now.items c.args.call.now c.requires.passes c.requires.same (sym c.requires.plain.room)))

pub returns-clause-tree : goal.returns-clause-tree
returns-clause-tree c =
    c.requires.same ∙ ap (λ (o : Outcome). o.tree) (sym (performed c.args.shape c.args.tree.now.items c.args.tree.now.items c.args.call.now c.requires.passes c.requires.same (sym c.requires.plain.room)))
