-- Rows of a table beside the five turns of the lock's own examples, and turns of seat 3 for their lines.
use Rattle.std.specs.Prelude.{⊤, ℕ, List, [], ◌∷◌}
use Rattle.nl_tree.specs.declared.reply.Reply.{Reply}
use Rattle.nl_tree.specs.declared.reply.Reply.TheVariants.{Done}
use Rattle.nl_tree.specs.declared.turn.Stage.{Stage}
use Rattle.nl_tree.specs.declared.turn.Stage.TheVariants.{Whole}
use Rattle.nl_turns.specs.Seat.{Passed, passed_by}
use Rattle.nl_turns.specs.Served.{stage_entry, effect_entry}
use Rattle.nl_workers.specs.Table.{Row}
use Rattle.nl_workers.specs.declared.gate.GatePlace.{GatePlace}
use Rattle.nl_workers.specs.declared.gate.GatePlace.TheVariants.{Before, Staged, After}

-- an answer to the first effect, `mkdir /a` of line 1
abbrev pub first_row : ℕ → ℕ → Reply → List ℕ → Row
first_row place ordinal reply bytes = record { line = 1; answered = record { place = place; ordinal = ordinal; reply = reply }; bytes = bytes }

-- a seat has staged for a line
abbrev pub has_staged_for : ℕ → ℕ → Stage → List Passed
has_staged_for seat line answer = passed_by seat (stage_entry line answer) ∷ []

-- line 1 is done
abbrev pub one_done : List Passed
one_done = passed_by 3 (stage_entry 1 Whole) ∷ passed_by 3 (effect_entry 1 Done) ∷ []

-- what a gate heard that was told of each line before its turns and after its effect, and of no staging
abbrev pub no_staging : ℕ → ℕ → GatePlace → Type 0
no_staging worker line Before = ⊤
no_staging worker line Staged = ⊥
no_staging worker line After = ⊤

-- what one heard that was told nothing
abbrev pub nothing : ℕ → ℕ → GatePlace → Type 0
nothing worker line place = ⊥
