use Rattle.std.proofs.Common.{◌∙◌, ap, sym}
use Rattle.nl_tree.specs.Step.{Outcome}
use Rattle.nl_tree_model.specs.PlainTree.{numbered}
use Rattle.nl_tree.proofs.StepProofs.{performed, refused_after}
use Rattle.nl_tree_model.proofs.PlainProofs.{plain_after}
use Rattle.nl_tree_model.proofs.plain.settle.Goals as goal

pub returns-in-Err-clause-reply : goal.returns-in-Err-clause-reply
returns-in-Err-clause-reply c =
    ap (λ (o : Outcome). numbered c.args.calls o.reply) (sym (refused_after c.args.shape c.args.tree.now.items c.args.next.items c.args.call.now c.in-Err.refusal c.requires.passes c.requires.changed c.in-Err.ensures.refusal))

pub returns-in-Err-clause-bytes : goal.returns-in-Err-clause-bytes
returns-in-Err-clause-bytes c =
    c.requires.empty ∙ ap (λ (o : Outcome). o.bytes) (sym (refused_after c.args.shape c.args.tree.now.items c.args.next.items c.args.call.now c.in-Err.refusal c.requires.passes c.requires.changed c.in-Err.ensures.refusal))

pub returns-in-Err-clause-tree : goal.returns-in-Err-clause-tree
returns-in-Err-clause-tree c =
    ap (λ (o : Outcome). o.tree) (sym (refused_after c.args.shape c.args.tree.now.items c.args.next.items c.args.call.now c.in-Err.refusal c.requires.passes c.requires.changed c.in-Err.ensures.refusal))

pub returns-in-Ok-clause-reply : goal.returns-in-Ok-clause-reply
returns-in-Ok-clause-reply c =
    c.reply_in-reply.ensures.reply ∙ ap (λ (o : Outcome). numbered c.args.calls o.reply) (sym (performed c.args.shape c.args.tree.now.items c.args.next.items c.args.call.now c.requires.passes c.requires.changed c.in-Ok.ensures.room))

pub returns-in-Ok-clause-bytes : goal.returns-in-Ok-clause-bytes
returns-in-Ok-clause-bytes c =
    c.reply_in-reply.ensures.bytes ∙ ap (λ (o : Outcome). o.bytes) (sym (performed c.args.shape c.args.tree.now.items c.args.next.items c.args.call.now c.requires.passes c.requires.changed c.in-Ok.ensures.room))

pub returns-in-Ok-clause-tree : goal.returns-in-Ok-clause-tree
returns-in-Ok-clause-tree c =
    c.requires.changed ∙ ap (λ (o : Outcome). o.tree) (sym (performed c.args.shape c.args.tree.now.items c.args.next.items c.args.call.now c.requires.passes c.requires.changed c.in-Ok.ensures.room))

pub returns-in-Ok-clause-plain : goal.returns-in-Ok-clause-plain
returns-in-Ok-clause-plain c =
    plain_after c.args.shape c.args.tree.now.items c.args.next.items c.args.call.now c.requires.passes c.requires.changed c.in-Ok.ensures.room c.requires.plain
