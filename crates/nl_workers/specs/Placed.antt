-- Where the turns of a line stand in the history.
use Rattle.std.specs.Prelude.{◌≡◌, ◌==◌, ℕ, ◌+◌, ◌<◌, ◌≤◌, List, [], ◌++◌, ◌∷◌, Bool, false, nat_lt, ◌||◌, if◌then◌else◌, count_by, IfSome, IsTrue, Contains}
use mathlib.Core.List.{IsPrefix}
use Rattle.nl_tree.specs.Order.{has_to_precede}
use Rattle.nl_tree.specs.Replay.{Answers}
use Rattle.nl_tree.specs.declared.call.Line.{Line}
use Rattle.nl_tree.specs.declared.turn.Answered.{Answered}
use Rattle.nl_turns.specs.History.{Opening, line_at, losses}
use Rattle.nl_turns.specs.Seat.{Passed, SeatState, entries, by_seat, passed_by, NoNumberBeyond}
use Rattle.nl_turns.specs.Served.{IsLineOf, effect_entry, place_due, ordinal_due, outcome_due}
use Rattle.nl_turns.specs.declared.entry.Entry.{Entry}

abbrev pub HasLine : Opening → Line → Type 0
HasLine opening line = IsLineOf opening line.worker line.line line.call

-- the entries of one seat
abbrev pub entries_of : ℕ → List Passed → List Entry
entries_of number history = entries (by_seat number history)

abbrev pub one_if : Bool → ℕ
one_if b = if b then 1 else 0

-- how many of these are effects of the line of this number
abbrev pub effects_of : ℕ → List Entry → ℕ
effects_of line es = count_by (λ (e : Entry). e.line == line) es

-- how many of the entries of one seat lost a page
abbrev pub losses_by : ℕ → List Passed → ℕ
losses_by number history = losses (entries_of number history)

-- Whether a page was lost, of those whose entries in the history lost so many: it was so before, or there are more since.
pub record KnowsLosses (before after : Bool) (old new : ℕ) : Type 0 where
  pub none_gone : old ≤ new
  pub after_is : after ≡ (before || nat_lt old new)

-- One turn of a seat: it came to its turn by a history without entries of its own, and added this entry.
pub record HasPassed (seat : SeatState) (entry : Entry) (after : SeatState) : Type 0 where
  pub mid : List Passed
  pub grows : IsPrefix seat.seen mid
  pub quiet : by_seat seat.number mid ≡ by_seat seat.number seat.seen
  pub same : after ≡ record seat { seen = mid ++ passed_by seat.number entry ∷ [] }
  pub joined : (n : ℕ) → Contains seat.joined n → by_seat n after.seen ≡ by_seat n seat.seen
  pub numbers : seat.number ≡ 0 → NoNumberBeyond seat.next after.seen

-- A seat went on: it has seen more, and nothing new of the seats that it took back or of numbers that are still to be given.
pub record SeatAdvances (seat after : SeatState) : Type 0 where
  pub same : after ≡ record seat { seen = after.seen }
  pub grows : IsPrefix seat.seen after.seen
  pub joined : (n : ℕ) → Contains seat.joined n → by_seat n after.seen ≡ by_seat n seat.seen
  pub numbers : seat.number ≡ 0 → NoNumberBeyond seat.next seat.seen → NoNumberBeyond seat.next after.seen

-- the effect of a line stands in the history
pub record LineTookEffect (line : ℕ) (history : List Passed) : Type 0 where
  pub before : List Passed
  pub entry : Passed
  pub after : List Passed
  pub split : before ++ entry ∷ after ≡ history
  pub line_is : entry.entry.line ≡ line

-- the effects of all lines that have to precede the line stand in the history
abbrev pub LineMayRun : List Line → ℕ → List Passed → Type 0
LineMayRun lines number history =
    IfSome (line_at lines number)
    (λ line. (earlier : Line) → Contains lines earlier → IsTrue (has_to_precede earlier line) → LineTookEffect earlier.line history)

-- the last entry is that the line had nothing left to stage
pub record EndsStaged (line : ℕ) (mine : List Entry) : Type 0 where
  pub before : List Entry
  pub last : Entry
  pub split : mine ≡ before ++ last ∷ []
  pub line_is : last.staged ≡ line
  pub whole : last.more ≡ false

-- An entry behind this history stands where it may: one that staged for a line stands behind the effects of all lines that have to
-- precede it, and an effect directly behind the end of its staging, among the entries of its seat.
pub record EntryIsPlaced (lines : List Line) (number : ℕ) (before : List Passed) (entry : Entry) : Type 0 where
  pub staged : 0 < entry.staged → LineMayRun lines entry.staged before
  pub effect : 0 < entry.line → EndsStaged entry.line (entries_of number before)

-- each entry of the seat does
abbrev pub EachPlaced : List Line → ℕ → List Passed → Type 0
EachPlaced lines number history =
    (before : List Passed) (entry : Entry) (after : List Passed) → before ++ passed_by number entry ∷ after ≡ history
    → EntryIsPlaced lines number before entry

-- the answer has the place, the number among the effects, and the content that are due behind this history
pub record IsDueAt (tells : Type 0) (opening : Opening) (line : Line) (answered : Answered) (bytes : List ℕ)
    (before : List Entry) : Type 0 where
  pub place : answered.place ≡ place_due opening before line.line answered.reply
  pub ordinal : answered.ordinal ≡ ordinal_due before line.line answered.reply
  pub answer : tells → Answers (outcome_due opening before line.call answered.reply) answered.reply bytes

-- the history has the effect with this answer
pub record IsAnswered (tells : Type 0) (opening : Opening) (line : Line) (answered : Answered) (bytes : List ℕ)
    (history : List Passed) : Type 0 where
  pub number : ℕ
  pub before : List Passed
  pub after : List Passed
  pub split : before ++ passed_by number (effect_entry line.line answered.reply) ∷ after ≡ history
  pub due : IsDueAt tells opening line answered bytes (entries before)

-- a seat ran one line
pub record HasAnswered (tells : Type 0) (lines : List Line) (line : Line) (answered : Answered) (bytes : List ℕ)
    (seat after : SeatState) : Type 0 where
  pub goes : SeatAdvances seat after
  pub placed : EachPlaced lines seat.number after.seen
  pub answered_is : IsAnswered tells seat.opening line answered bytes after.seen
  pub done : (m : ℕ) → 0 < m
      → effects_of m (entries_of seat.number after.seen) ≡ effects_of m (entries_of seat.number seat.seen) + one_if (line.line == m)

-- a seat has staged for a line, and may go on
pub record IsStaging (lines : List Line) (line : ℕ) (seat after : SeatState) : Type 0 where
  pub goes : SeatAdvances seat after
  pub placed : EachPlaced lines seat.number after.seen
  pub may : LineMayRun lines line after.seen
  pub done : (m : ℕ) → 0 < m → effects_of m (entries_of seat.number after.seen) ≡ effects_of m (entries_of seat.number seat.seen)
