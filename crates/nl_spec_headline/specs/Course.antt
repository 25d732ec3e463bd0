-- What a run did: as what its volume opened, and the answered lines in the order of their places.
use Rattle.std.specs.Prelude.{ℕ, ◌+◌, List, length, map, filter_map, Option}
use Rattle.nl_field.specs.declared.shape.Shape.{Shape}
use Rattle.nl_print.specs.Texts.{run_text}
use Rattle.nl_spec_image.specs.Crash.{Run}
use Rattle.nl_tree.specs.Causes.{fault_in}
use Rattle.nl_tree.specs.Order.{LineSync, sync_answered}
use Rattle.nl_tree.specs.Replay.{replay}
use Rattle.nl_tree.specs.Tree.{Tree}
use Rattle.nl_tree.specs.declared.call.Call.{Call}
use Rattle.nl_tree.specs.declared.call.Line.{Line}
use Rattle.nl_tree.specs.declared.reply.FaultReply.{FaultReply}
use Rattle.nl_tree.specs.declared.reply.Reply.{Reply}
use Rattle.nl_spec_headline.specs.declared.lists.Ordered.{Ordered}
use Rattle.nl_spec_headline.specs.declared.lists.Synced.{Synced}

-- a line with its reply, and the bytes that came with it
pub record RepliedLine : Type 0 where
  pub line : Line
  pub reply : Reply
  pub bytes : List ℕ

-- A volume of these numbers opened with this count of calls, this tree and this next write sequence number. The lines were answered at the
-- places behind that count, in this order.
pub record Course : Type 0 where
  pub shape : Shape
  pub count : ℕ
  pub tree : Tree
  pub next_stamp : ℕ
  pub answers : List RepliedLine

-- ---- the one list, as each sentence sees it

abbrev pub lines_in : Course → List Line
lines_in course = map (λ a. a.line) course.answers

abbrev pub replies_in : Course → List (Line × Reply)
replies_in course = map (λ a. (a.line, a.reply)) course.answers

-- the calls, each with the fault reply that it got in place of its own, if it got one
abbrev pub calls_in : Course → List (Call × Option FaultReply)
calls_in course = map (λ a. (a.line.call, fault_in a.reply)) course.answers

-- what is printed of it
abbrev pub text_in : Course → List ℕ
text_in course = run_text course.count (map (λ (a : RepliedLine). (a.line.line, a.reply, a.bytes)) course.answers)

-- what a caller is told of it
abbrev pub order_in : Course → List Ordered
order_in course = map (λ a. record { line = a.line.line; fault = fault_in a.reply }) course.answers

-- what a stop may leave of it
abbrev pub run_in : Course → Run
run_in course =
    record {
      shape = course.shape;
      count = course.count;
      tree = course.tree;
      calls = calls_in course;
      syncs = filter_map (λ a. sync_answered a.reply) course.answers;
    }

abbrev pub line_sync_of : Synced → LineSync
line_sync_of s = record { line = s.line; sync = record { upto = s.upto; moment = s.moment } }

-- the count and the tree after all of it
abbrev pub count_after : Course → ℕ
count_after course = course.count + length course.answers

abbrev pub tree_after : Course → Tree
tree_after course = replay course.shape course.tree (calls_in course)
