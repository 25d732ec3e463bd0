-- A list of calls on a tree, each with the fault reply that it got in place of its own, if it got one.
use Rattle.std.specs.Prelude.{◌≡◌, ℕ, List, [], ◌∷◌, take, slice_get, Option, Some, None, option_map}
use Rattle.nl_field.specs.declared.shape.Shape.{Shape}
use Rattle.nl_tree.specs.Tree.{Tree}
use Rattle.nl_tree.specs.Step.{Outcome, step}
use Rattle.nl_tree.specs.declared.call.Call.{Call}
use Rattle.nl_tree.specs.declared.reply.FaultReply.{FaultReply}
use Rattle.nl_tree.specs.declared.reply.Reply.{Reply}
use Rattle.nl_tree.specs.declared.reply.Reply.TheVariants.{Synced, Fault}

-- a fault reply leaves the tree
abbrev pub step_marked : Shape → Tree → Call × Option FaultReply → Outcome
step_marked shape tree (call, None) = step shape tree call
step_marked shape tree (call, Some fault) = record { reply = Fault fault; bytes = []; tree = tree }

-- the tree after the calls
unfoldable pub replay : Shape → Tree → List (Call × Option FaultReply) → Tree
replay shape tree [] = tree
replay shape tree (one ∷ rest) = replay shape (step_marked shape tree one).tree rest

-- what the call at place i, from 0, answers after those before it
abbrev pub answer_due : Shape → Tree → List (Call × Option FaultReply) → ℕ → Option Outcome
answer_due shape tree calls i = option_map (step_marked shape (replay shape tree (take i calls))) (slice_get calls i)

-- A reply is as due; of a sync both numbers are open.
abbrev pub ReplyFits : Reply → Reply → Type 0
ReplyFits (Synced due_upto due_moment) reply = (upto : ℕ) × (moment : ℕ) × (reply ≡ Synced upto moment)
ReplyFits due reply = reply ≡ due

-- A reply and the bytes with it are an answer as due.
abbrev pub Answers : Outcome → Reply → List ℕ → Type 0
Answers outcome reply bytes = ReplyFits outcome.reply reply × (bytes ≡ outcome.bytes)
