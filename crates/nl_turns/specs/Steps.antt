-- What each step on the table tells its seat.
use Rattle.std.specs.Prelude.{◌≡◌, ◌≢◌, ℕ, ◌+◌, ◌-◌, ◌%◌, ◌^◌, ◌<◌, ◌≤◌, true, false, List, [], ◌∷◌, ◌++◌, Bool, Contains, Option, Some, None}
use mathlib.Core.List.{IsPrefix}
use Rattle.atomic_table.specs.Table.{Step, Me, rest}
use Rattle.atomic_table.specs.Seated.{TableId}
use Rattle.nl_turns.specs.History.{Opening}
use Rattle.nl_turns.specs.Seat.{Passed, passed_by, by_seat, longer, NoNumberBeyond, SeatState}
use Rattle.nl_turns.specs.View.{Role, idle, waits, enters, inside, leaves, hosts, spent, View, no_opening}
use Rattle.nl_turns.specs.Rule.{HostFits}
use Rattle.nl_turns.specs.declared.entry.Entry.{Entry}

-- ---- the view after each step

abbrev pub after_draw : View → ℕ → View
after_draw v t = record v { role = waits t }

abbrev pub after_look : View → ℕ → List Passed → View
after_look v t all = record v { role = enters t; seen = all }

abbrev pub after_pass : View → Entry → View
after_pass v e = record v { role = idle; seen = v.seen ++ passed_by v.number e ∷ [] }

-- what a split leaves the first seat, and gives the new one
abbrev pub after_split : View → View
after_split v = record v { places = v.places - 1; next = v.next + 1 }

abbrev pub newcomer : View → View
newcomer v = record v { number = v.next; role = idle; places = 0; next = 0; joined = [] }

-- what a join leaves the first seat, and the joined one
abbrev pub after_join : View → View → View
after_join v w =
    record v { role = hosts w.number w.seen v.seen; seen = longer v.seen w.seen; places = v.places + 1; joined = w.number ∷ v.joined }

abbrev pub spent_view : View
spent_view = record { opening = no_opening; number = 0; seen = []; role = spent; places = 0; next = 0; joined = [] }

-- ---- what a step tells

-- what a value at home stands for, from the origin that the step was told
abbrev pub from_origin : {V : Type 0} → (V → Opening → List Entry → V → Type 0) → Option V → Opening → List Entry → V → Type 0
from_origin stands None opening history value = Unit {0}
from_origin stands (Some origin) opening history value = stands origin opening history value

-- the first seat knows of this history that no number in it is to come yet
abbrev pub NumbersAreGiven : View → List Passed → Type 0
NumbersAreGiven v all = v.number ≡ 0 → NoNumberBeyond v.next all

-- A seat comes to its turn by a history that begins with what it had seen, with no new entry of its own or of a seat that it took in.
pub record ComesTo (v : View) (all : List Passed) : Type 0 where
  pub grows : IsPrefix v.seen all
  pub own : by_seat v.number all ≡ by_seat v.number v.seen
  pub joined : (j : ℕ) → Contains v.joined j → by_seat j all ≡ by_seat j v.seen
  pub told : NumbersAreGiven v all

module _ {V : Type 0} where
  -- the opening is picked
  abbrev pub begins : Opening → Step (Option V) → Me (Option V) View → ℕ → Me (Option V) View → Type 0
  begins o st m n m' = m' ≡ (record m.0 { role = idle; opening = o }, m.1)

  abbrev pub draws : Step (Option V) → Me (Option V) View → ℕ → Me (Option V) View → Type 0
  draws st m n m' = (t : ℕ) × (m' ≡ (after_draw m.0 t, m.1)) × (n ≡ t % 2 ^ 64)

  -- the seat has its turn, the slot with the value, and the whole history
  abbrev pub TakesSlot : (Opening → List Passed → V → Type 0) → ℕ → Me (Option V) View → Me (Option V) View → Type 0
  TakesSlot stands t m m' =
      (all : List Passed) × (y : V) × (m' ≡ (after_look m.0 t all, (0, Some y) ∷ m.1)) × ComesTo m.0 all × stands m.0.opening all y

  -- a seat finds its own ticket, and has its turn; or another, and nothing changes
  abbrev pub looks : (Opening → List Passed → V → Type 0) → Step (Option V) → Me (Option V) View → ℕ → Me (Option V) View → Type 0
  looks stands st m n m' = (t : ℕ) → m.0.role ≡ waits t → (n ≡ t % 2 ^ 64 → TakesSlot stands t m m') × (n ≢ t % 2 ^ 64 → m' ≡ m)

  -- the empty slot goes home for the time of the turn, and comes out again
  abbrev pub parks : Step (Option V) → Me (Option V) View → ℕ → Me (Option V) View → Type 0
  parks st m n m' = (t : ℕ) → m.0.role ≡ enters t → m' ≡ (record m.0 { role = inside t }, rest m.1)

  abbrev pub fetches : Step (Option V) → Me (Option V) View → ℕ → Me (Option V) View → Type 0
  fetches st m n m' = (t : ℕ) → m.0.role ≡ inside t → m' ≡ (record m.0 { role = leaves t }, (0, None) ∷ m.1)

  abbrev pub adds : Entry → Step (Option V) → Me (Option V) View → ℕ → Me (Option V) View → Type 0
  adds e st m n m' = m' ≡ (after_pass m.0 e, rest m.1)

  -- the first seat is at rest again, and knows how the two histories belong together, and that it has few places
  abbrev pub settles : Step (Option V) → Me (Option V) View → ℕ → Me (Option V) View → Type 0
  settles st m n m' =
      (m' ≡ (record m.0 { role = idle }, m.1)) × HostFits m.0 m.0.role × (m.0.number ≡ 0 → m.0.places + 1 ≤ 10) × NumbersAreGiven m.0 m.0.seen

-- ---- the seat between calls

abbrev pub is_inside : Role → Bool
is_inside (inside t) = true
is_inside _ = false

-- a seat between calls waits for nothing, and holds no slot
abbrev pub IsBetweenCalls : Role → Type 0
IsBetweenCalls idle = Unit {0}
IsBetweenCalls (inside t) = Unit {0}
IsBetweenCalls _ = ⊥

-- the one view of a badge
abbrev pub view_of : List View → View
view_of [] = spent_view
view_of (v ∷ vs) = v

abbrev pub OneViewAtRest : List View → Type 0
OneViewAtRest [] = ⊥
OneViewAtRest (v ∷ []) = IsBetweenCalls v.role
OneViewAtRest (v ∷ w ∷ vs) = ⊥

abbrev pub state_of : TableId → View → SeatState
state_of lock v =
    record { lock = lock; number = v.number; opening = v.opening; seen = v.seen; has_turn = is_inside v.role; places = v.places; next = v.next; joined = v.joined }

-- a seat that held nothing has come to its turn, with the value
abbrev pub HasReached : {V : Type 0} → (Opening → List Passed → V → Type 0) → Me (Option V) View → Me (Option V) View → Type 0
HasReached stands m m' = (t : ℕ) × TakesSlot stands t m m'

-- the first seat knows that no entry it has seen has a number that is still to come
abbrev pub KnowsNumbers : View → Type 0
KnowsNumbers v = v.number ≡ 0 → (0 < v.next) × NoNumberBeyond v.next v.seen

-- what is so of a seat between calls, of the views of its badge and its number of places
pub record IsSeat (views : List View) (places : ℕ) : Type 0 where
  pub settled : OneViewAtRest views
  pub places_are : places ≡ (view_of views).places
  pub numbers : KnowsNumbers (view_of views)
  pub apart : (n : ℕ) → Contains (view_of views).joined n → n ≢ (view_of views).number
