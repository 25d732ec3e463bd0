-- What a stop leaves of a run: a prefix of its calls that holds every sync that was answered by then. An image is anything that opens as
-- a tree after so many calls.
use Rattle.std.specs.Prelude.{◌⊎◌, ℕ, ◌+◌, ◌-◌, ◌≤◌, List, ◌++◌, ◌∷◌, [], length, take, Option}
use Rattle.nl_field.specs.declared.shape.Shape.{Shape}
use Rattle.nl_tree.specs.Tree.{Tree}
use Rattle.nl_tree.specs.Replay.{replay}
use Rattle.nl_tree.specs.Order.{SyncPoint, durable_prefix}
use Rattle.nl_tree.specs.declared.call.Call.{Call}
use Rattle.nl_tree.specs.declared.reply.FaultReply.{FaultReply}

-- where a run began, the calls of its effects, and its syncs
pub record Run : Type 0 where
  pub shape : Shape
  pub count : ℕ
  pub tree : Tree
  pub calls : List (Call × Option FaultReply)
  pub syncs : List SyncPoint

abbrev pub with_call : Run → Call × Option FaultReply → Run
with_call run x = record run { calls = run.calls ++ x ∷ [] }

abbrev pub with_sync : Run → SyncPoint → Run
with_sync run s = record run { syncs = run.syncs ++ s ∷ [] }

-- the image opens as the tree after the first calls of the run, and as many of them as the syncs up to the moment made safe
pub record OpensAsPrefix {I : Type 0} (opens : I → ℕ → Tree → Type 0) (run : Run) (moment : ℕ) (image : I) : Type 0 where
  pub prefix : ℕ
  pub holds_synced : durable_prefix run.syncs run.count moment ≤ prefix
  pub not_beyond : prefix ≤ run.count + length run.calls
  pub sound : opens image prefix (replay run.shape run.tree (take (prefix - run.count) run.calls))

-- Each image that a stop may leave was left before the run, or opens so and is of a moment from the first to the last.
pub record CrashesSafely {I : Type 0} (opens : I → ℕ → Tree → Type 0) (before left : ℕ → I → Type 0) (first last : ℕ)
    (run : Run) : Type 0 where
  pub each : (moment : ℕ) (image : I) → left moment image → before moment image ⊎ ((first ≤ moment) × (moment ≤ last) × OpensAsPrefix opens run moment image)
