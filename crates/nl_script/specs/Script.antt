-- A script's bytes as the list of its lines, or the first refusal.
use Rattle.std.specs.Prelude.{ℕ, ◌+◌, nat_le, nat_lt, if◌then◌else◌, List, [], ◌∷◌, length, sum_by, Result, Ok, Err}
use Rattle.nl_tree.specs.Calls.{read_length}
use Rattle.nl_tree.specs.declared.call.Call.{Call}
use Rattle.nl_tree.specs.declared.call.Line.{Line}
use Rattle.nl_script.specs.declared.refusal.ScriptRefusal.{ScriptRefusal}
use Rattle.nl_script.specs.declared.refusal.ScriptRefusal.TheVariants.{Refused}
use Rattle.nl_script.specs.declared.said.Said.TheVariants.{Nothing, Barrier, CallOf}
use Rattle.nl_script.specs.declared.why.Why.{Why}
use Rattle.nl_script.specs.declared.why.Why.TheVariants.{Size, Lines as LinesCause, Total}
use Rattle.nl_script.specs.Grammar.{line_says}
use Rattle.nl_script.specs.Words.{lines_of}

-- a line before what the later lines give
abbrev pub line_before : Line → Result (List Line) ScriptRefusal → Result (List Line) ScriptRefusal
line_before line (Ok lines) = Ok (line ∷ lines)
line_before line (Err refusal) = Err refusal

abbrev pub max_script : ℕ
max_script = 16777216

abbrev pub max_calls : ℕ
max_calls = 1000000

-- the greatest sum of read lengths
abbrev pub max_total : ℕ
max_total = 268435456

-- the sum of the read lengths of some lines
abbrev pub read_total : List Line → ℕ
read_total lines = sum_by (λ l. read_length l.call) lines

-- the sum of the read lengths with one more call, behind so many calls with that sum, or why it is one too many
unfoldable pub with_read_total : ℕ → ℕ → Call → Result ℕ Why
with_read_total calls total made =
    let sum = total + read_length made in
    if nat_le max_calls calls then Err LinesCause
    else if nat_lt max_total sum then Err Total
    else Ok sum

-- The lines from number n on, in an epoch between barriers, behind so many calls whose read lengths have that sum.
unfoldable pub lines_from : ℕ → ℕ → ℕ → ℕ → List (List ℕ) → Result (List Line) ScriptRefusal
lines_from n round calls total [] = Ok []
lines_from n round calls total (raw ∷ rest) =
    elim (line_says raw) [
      | Err fault ↦ Err (Refused n fault.column fault.why)
      | Ok Nothing ↦ lines_from (n + 1) round calls total rest
      | Ok Barrier ↦ lines_from (n + 1) (round + 1) calls total rest
      | Ok (CallOf worker made) ↦
          elim (with_read_total calls total made) [
            | Err why ↦ Err (Refused n 1 why)
            | Ok sum ↦ line_before (record { line = n; round = round; worker = worker; call = made })
                (lines_from (n + 1) round (calls + 1) sum rest)
          ]
    ]

-- Lines are numbered from 1, and epochs from 0 by the barriers before.
unfoldable pub script : List ℕ → Result (List Line) ScriptRefusal
script bytes = if nat_lt max_script (length bytes) then Err (Refused 0 0 Size) else lines_from 1 0 0 0 (lines_of bytes)
