-- What a script is answered by the plain tree, its lines one after the other, and what is printed of it.
use Rattle.std.specs.Prelude.{ℕ, ◌+◌, List, [], ◌∷◌, Option, Result, Ok, Err, IsOk, IsErr}
use Rattle.nl_field.specs.declared.shape.Shape.{Shape}
use Rattle.nl_io.specs.Streams.{WritesStream}
use Rattle.nl_io.specs.declared.sink.SinkAnswer.TheVariants as sink
use Rattle.nl_print.specs.Texts.{Answered, answer_lines, refused_text, run_text}
use Rattle.nl_script.specs.Causes.{cause_word}
use Rattle.nl_script.specs.Script.{script}
use Rattle.nl_script.specs.declared.refusal.ScriptRefusal.{ScriptRefusal}
use Rattle.nl_script.specs.declared.refusal.ScriptRefusal.TheVariants.{Refused, Memory as OutOfMemory}
use Rattle.nl_tree.specs.Step.{step}
use Rattle.nl_tree.specs.Tree.{empty_tree}
use Rattle.nl_tree.specs.declared.call.Line.{Line}
use Rattle.nl_tree_model.specs.PlainTree.{PlainState, numbered}
use Rattle.nl_bench.specs.declared.ended.Ended.{Ended}
use Rattle.nl_bench.specs.declared.ended.Ended.TheVariants as ended

-- a line with what its call is answered; a sync is answered with the count of calls before it
abbrev pub answered_by : PlainState → Line → Answered
answered_by state line =
    let outcome = step state.shape state.tree line.call in (line.line, numbered state.calls outcome.reply, outcome.bytes)

-- the tree behind a line, and one call more
abbrev pub state_after : PlainState → Line → PlainState
state_after state line = record { shape = state.shape; tree = (step state.shape state.tree line.call).tree; calls = state.calls + 1 }

-- each line with its answer, from the first on
abbrev pub answered_in : PlainState → List Line → List Answered
answered_in state [] = []
answered_in state (line ∷ lines) = answered_by state line ∷ answered_in (state_after state line) lines

abbrev pub lines_text : PlainState → List Line → List ℕ
lines_text state lines = answer_lines state.calls (answered_in state lines)

-- the tree with only the root, before the first call
abbrev pub new_state : Shape → PlainState
new_state shape = record { shape = shape; tree = empty_tree; calls = 0 }

-- the text of `run` on a new volume of this shape
abbrev pub played_text : Shape → List Line → List ℕ
played_text shape lines = run_text 0 (answered_in (new_state shape) lines)

-- what is printed of a script that is read so
abbrev pub text_of : Shape → Result (List Line) ScriptRefusal → List ℕ
text_of shape (Ok lines) = played_text shape lines
text_of shape (Err (Refused line column why)) = refused_text line column (cause_word why)
text_of shape (Err OutOfMemory) = []

-- What a sink took of the text of a script: all of it, where the program says so, and else a beginning.
abbrev pub Ends : Shape → List ℕ → Option (List ℕ) → Option (List ℕ) → Ended → Type 0
Ends shape bytes old new ended.Done = IsOk (script bytes) × WritesStream old new sink.Took (text_of shape (script bytes))
Ends shape bytes old new ended.Refused = IsErr (script bytes) × WritesStream old new sink.Took (text_of shape (script bytes))
Ends shape bytes old new ended.NotPrinted = WritesStream old new sink.Failed (text_of shape (script bytes))
Ends shape bytes old new ended.Memory = WritesStream old new sink.Failed (text_of shape (script bytes))
Ends shape bytes old new ended.Words = ⊥
Ends shape bytes old new ended.NotRead = ⊥
