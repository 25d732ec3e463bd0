-- The conditions that each call meets which the file system takes.
use Rattle.std.specs.Prelude.{ℕ, ◌<◌, ◌≤◌, IsTrue, List, length, All, AllPairs}
use Rattle.std.specs.List.{AllByRecursion}
use Rattle.nl_field.specs.Names.{is_name}
use Rattle.nl_field.specs.Numbers.{max_bytes}
use Rattle.nl_tree.specs.Step.{paths_of}
use Rattle.nl_tree.specs.declared.call.Call.{Call}
use Rattle.nl_tree.specs.declared.call.Call.TheVariants.{Write, Fill, Read, List as ListCall}
use Rattle.nl_tree.specs.declared.call.Line.{Line}

-- what a call writes or reads is not too long
abbrev pub HasFewBytes : Call → Type 0
HasFewBytes (Write path from bytes) = length bytes ≤ max_bytes
HasFewBytes (Fill path from len byte) = len ≤ max_bytes
HasFewBytes (Read path from len) = len ≤ max_bytes
HasFewBytes _ = Unit {0}

-- each name is one but for its length
abbrev pub AreNames : List (List ℕ) → Type 0
AreNames path = All (λ name. IsTrue (is_name name)) path

-- Every name of its paths is one but for its length, and its texts and lengths are bounded.
pub record IsBounded (call : Call) : Type 0 where
  pub names : AllByRecursion AreNames (paths_of call)
  pub bytes : HasFewBytes call

-- what a call adds to the sum of read lengths
abbrev pub read_length : Call → ℕ
read_length (Read path from len) = len
read_length (ListCall path) = max_bytes
read_length _ = 0

-- a path, and how many names it has room for
pub record RoomyPath : Type 0 where
  pub names : List (List ℕ)
  pub room : ℕ

-- ---- lines

-- a line of a script: its number is from 1, its worker 0 to 7, and its call is bounded
pub record IsLine (line : Line) : Type 0 where
  pub number : 0 < line.line
  pub worker : line.worker ≤ 7
  pub bounded : IsBounded line.call

-- numbers rise, and rounds do not fall
pub record AreLines (lines : List Line) : Type 0 where
  pub each : All IsLine lines
  pub rising : AllPairs (λ a b. (a.line < b.line) × (a.round ≤ b.round)) lines
