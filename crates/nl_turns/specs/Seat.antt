-- What contracts see of the lock and of its seats.
use Rattle.std.specs.Prelude.{◌≡◌, ◌==◌, ℕ, ◌≤◌, Bool, if◌then◌else◌, List, [], length, filter, map, nat_le}
use Rattle.atomic_table.specs.Seated.{TableId}
use Rattle.nl_turns.specs.History.{Opening}
use Rattle.nl_turns.specs.declared.entry.Entry.{Entry}

-- an entry, beside the number of the seat that passed it
pub record Passed : Type 0 where
  pub entry : Entry
  pub seat : ℕ

abbrev pub passed_by : ℕ → Entry → Passed
passed_by number entry = record { entry = entry; seat = number }

-- the entries, without the seats
abbrev pub entries : List Passed → List Entry
entries history = map (λ p. p.entry) history

-- what the seat of this number passed, in its order
abbrev pub by_seat : ℕ → List Passed → List Passed
by_seat number history = filter (λ p. p.seat == number) history

-- of two beginnings of one history the one that has more
abbrev pub longer : List Passed → List Passed → List Passed
longer xs ys = if nat_le (length xs) (length ys) then ys else xs

-- a lock: which one it is, how many seats it has in all, and the value that it was made with
pub record LockState (V : Type 0) : Type 0 where
  pub name : TableId
  pub seats : ℕ
  pub origin : V

-- A seat: its lock and number, the opening, the beginning of the history that it has seen, and whether it has its turn. Only the
-- first seat, of number 0, has places to give, the number of the next seat that it gives, and the numbers of those that it took back.
pub record SeatState : Type 0 where
  pub lock : TableId
  pub number : ℕ
  pub opening : Opening
  pub seen : List Passed
  pub has_turn : Bool
  pub places : ℕ
  pub next : ℕ
  pub joined : List ℕ

-- no entry has a number that is still to be given
abbrev pub NoNumberBeyond : ℕ → List Passed → Type 0
NoNumberBeyond next history = (number : ℕ) → next ≤ number → by_seat number history ≡ []
