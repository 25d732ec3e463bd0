use Rattle.std.proofs.Common.{◌∙◌, ap, sym}
use Rattle.nl_tree.specs.Step.{Outcome}
use Rattle.nl_tree_model.specs.PlainTree.{numbered}
use Rattle.nl_tree.proofs.StepProofs.{refused_before}
use Rattle.nl_tree_model.proofs.plain.answer.Goals as goal

pub returns-in-Some-clause-reply : goal.returns-in-Some-clause-reply
returns-in-Some-clause-reply c = ap (λ (o : Outcome). numbered c.args.calls o.reply) (sym (refused_before c.args.shape c.args.tree.now.items c.args.call.now c.in-Some.refusal c.in-Some.ensures))

pub returns-in-Some-clause-bytes : goal.returns-in-Some-clause-bytes
returns-in-Some-clause-bytes c = c.requires.empty ∙ ap (λ (o : Outcome). o.bytes) (sym (refused_before c.args.shape c.args.tree.now.items c.args.call.now c.in-Some.refusal c.in-Some.ensures))

pub returns-in-Some-clause-tree : goal.returns-in-Some-clause-tree
returns-in-Some-clause-tree c = ap (λ (o : Outcome). o.tree) (sym (refused_before c.args.shape c.args.tree.now.items c.args.call.now c.in-Some.refusal c.in-Some.ensures))
