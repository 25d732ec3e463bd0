-- Calls that leave the tree.
use Rattle.std.proofs.Common.{◌≡◌, Bool, true, false, Option, Some, None, refl}
use Rattle.nl_field.specs.declared.shape.Shape.{Shape}
use Rattle.nl_tree.specs.Replay.{step_marked}
use Rattle.nl_tree.specs.Step.{Outcome, effect_of, outcome_unless, step}
use Rattle.nl_tree.specs.Tree.{Tree}
use Rattle.nl_tree.specs.declared.call.Call.{Call}
use Rattle.nl_tree.specs.declared.call.Call.TheVariants.{Mkdir, Rmdir, Create, Unlink, Rename, Write, Fill, Read, Truncate, Stat, List as ListCall, Sync, Clean}
use Rattle.nl_tree.specs.declared.reply.FaultReply.{FaultReply}
use Rattle.nl_tree.specs.declared.reply.Refusal.{Refusal}

-- those that only look, a sync and a pass of cleaning
abbrev pub leaves_tree : Call → Bool
leaves_tree (Read path from len) = true
leaves_tree (Stat path) = true
leaves_tree (ListCall path) = true
leaves_tree Sync = true
leaves_tree Clean = true
leaves_tree _ = false

effect_leaves : (tree : Tree) (call : Call) → leaves_tree call ≡ true → (effect_of tree call).tree ≡ tree
unfolding effect_of
effect_leaves tree (Mkdir path) e = absurd (cc e)
effect_leaves tree (Rmdir path) e = absurd (cc e)
effect_leaves tree (Create path) e = absurd (cc e)
effect_leaves tree (Unlink path) e = absurd (cc e)
effect_leaves tree (Rename from to) e = absurd (cc e)
effect_leaves tree (Write path from bytes) e = absurd (cc e)
effect_leaves tree (Fill path from len byte) e = absurd (cc e)
effect_leaves tree (Read path from len) e = refl
effect_leaves tree (Truncate path size) e = absurd (cc e)
effect_leaves tree (Stat path) e = refl
effect_leaves tree (ListCall path) e = refl
effect_leaves tree Sync e = refl
effect_leaves tree Clean e = refl

unless_leaves : (tree : Tree) (outcome : Outcome) (r : Option Refusal) → outcome.tree ≡ tree → (outcome_unless tree outcome r).tree ≡ tree
unless_leaves tree outcome None same = same
unless_leaves tree outcome (Some refusal) same = refl

pub looking_leaves : (shape : Shape) (tree : Tree) (call : Call) (f : Option FaultReply) → leaves_tree call ≡ true → (step_marked shape tree (call, f)).tree ≡ tree
unfolding step
looking_leaves shape tree call (Some fault) looks = refl
looking_leaves shape tree call None looks = unless_leaves tree (effect_of tree call) _ (effect_leaves tree call looks)
