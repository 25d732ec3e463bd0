-- A script that is read as far as some line.
use Rattle.std.specs.Prelude.{◌≡◌, ℕ, ◌+◌, ◌≤◌, List, ◌++◌, length, All, Result, Ok, Err}
use Rattle.nl_tree.specs.declared.call.Line.{Line}
use Rattle.nl_script.specs.declared.refusal.ScriptRefusal.{ScriptRefusal}
use Rattle.nl_script.specs.declared.reading.Place.{Place}
use Rattle.nl_script.specs.Script.{lines_from, max_calls, max_total, read_total}

-- these lines, and behind them what later lines give
abbrev pub lines_before : List Line → Result (List Line) ScriptRefusal → Result (List Line) ScriptRefusal
lines_before lines (Ok later) = Ok (lines ++ later)
lines_before lines (Err refusal) = Err refusal

-- what a script gives whose lines up to a place gave these, and that goes on so
abbrev pub read_on : Place → List Line → List (List ℕ) → Result (List Line) ScriptRefusal
read_on at lines rest = lines_before lines (lines_from (at.number + 1) at.round (length lines) at.total rest)

-- a script that gave these lines up to a place
pub record IsReadScript (at : Place) (lines : List Line) : Type 0 where
  pub rising : All (λ l. (l.line ≤ at.number) × (l.round ≤ at.round)) lines
  pub rounds : at.round ≤ at.number
  pub calls : length lines ≤ max_calls
  pub total : at.total ≤ max_total
  pub sum : at.total ≡ read_total lines
