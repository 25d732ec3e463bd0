-- Calls that a volume is asked one after the other: their lines, their entries in its history, and what is due of each.
use Rattle.std.specs.Prelude.{◌≡◌, ⊤, ℕ, ◌+◌, List, [], ◌∷◌, ◌++◌, length, map, Option}
use Rattle.std.specs.List.{AllByRecursion}
use Rattle.nl_field.specs.declared.shape.Shape.{Shape}
use Rattle.nl_tree.specs.Calls.{IsBounded}
use Rattle.nl_tree.specs.Causes.{fault_in}
use Rattle.nl_tree.specs.Replay.{replay}
use Rattle.nl_tree.specs.Tree.{Tree}
use Rattle.nl_tree.specs.declared.call.Call.{Call}
use Rattle.nl_tree.specs.declared.call.Line.{Line}
use Rattle.nl_tree.specs.declared.reply.FaultReply.{FaultReply}
use Rattle.nl_tree.specs.declared.reply.Reply.{Reply}
use Rattle.nl_turns.specs.History.{Opening, with_lines}
use Rattle.nl_turns.specs.Served.{effect_entry}
use Rattle.nl_turns.specs.declared.entry.Entry.{Entry}
use Rattle.nl_volume_stage.specs.Standing.{EachIsLine}
use Rattle.nl_put_tree.specs.Putting.{IsDue, after}

-- the calls, each with its reply
abbrev pub Asked : Type 0
Asked = List (Call × Reply)

-- a line of the first worker
abbrev pub line_of : ℕ → Call → Line
line_of number call = record { line = number; round = 0; worker = 0; call = call }

-- numbered from here on
abbrev pub lines_from : ℕ → Asked → List Line
lines_from number [] = []
lines_from number ((call, reply) ∷ asked) = line_of number call ∷ lines_from (number + 1) asked

abbrev pub entries_from : ℕ → Asked → List Entry
entries_from number [] = []
entries_from number ((call, reply) ∷ asked) = effect_entry number reply ∷ entries_from (number + 1) asked

-- each call with its fault reply, if it got one
abbrev pub marked : Asked → List (Call × Option FaultReply)
marked asked = map (λ x. (x.0, fault_in x.1)) asked

-- the tree after them
abbrev pub tree_after : Opening → Asked → Tree
tree_after opening asked = replay opening.shape opening.tree (marked asked)

-- each reply is the one that is due, or a fault reply
abbrev pub AreDue : Shape → Tree → Asked → Type 0
AreDue shape tree [] = ⊤
AreDue shape tree ((call, reply) ∷ asked) = IsDue shape tree call reply × AreDue shape (after shape tree call reply) asked

-- A value has answered these calls since the opening, when it was the origin: it stands for their history, whatever lines are still to come.
pub record HasAsked {V : Type 0} (stands : V → Opening → List Entry → V → Type 0) (tells : Type 0) (origin : V) (opening : Opening) (asked : Asked) (v : V) : Type 0 where
  pub bounded : AllByRecursion (λ x. IsBounded x.0) asked
  pub follows : (later : List Line) → EachIsLine (lines_from 1 asked ++ later)
      → stands origin (with_lines opening (lines_from 1 asked ++ later)) (entries_from 1 asked) v
  pub due : tells → AreDue opening.shape opening.tree asked

module _ {V : Type 0} (stands : V → Opening → List Entry → V → Type 0) (tells : Type 0) (number : ℕ) (v : V) where
  -- the value may be asked a further call under this number
  abbrev pub MayAsk : Type 0
  MayAsk = (origin : V) × (opening : Opening) × (asked : Asked) × HasAsked stands tells origin opening asked v × (length asked + 1 ≡ number)

  -- P holds of each origin, opening and calls of which it has answered so many
  abbrev pub FromEachAsked : (V → Opening → Asked → Type 0) → Type 0
  FromEachAsked P =
      (origin : V) (opening : Opening) (asked : Asked) → HasAsked stands tells origin opening asked v → length asked + 1 ≡ number
      → P origin opening asked
