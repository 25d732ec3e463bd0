-- The rule of the lock. Word 0 counts the tickets drawn, word 1 the turns passed, and the one slot holds the value.
use Rattle.std.specs.Prelude.{◌≡◌, ◌≢◌, ◌⊎◌, ℕ, ◌+◌, ◌-◌, ◌%◌, ◌^◌, ◌<◌, ◌≤◌, Bool, true, false, List, [], ◌∷◌, length, count_by, Contains, Option, Some, None}
use mathlib.Core.Option.{some, none}
use mathlib.Core.Option as maybe
use mathlib.Core.List.{IsPrefix}
use lib.ListN.{get_elem?}
use Rattle.atomic_table.specs.Table.{State, opening as at_start}
use Rattle.nl_turns.specs.History.{Opening}
use Rattle.nl_turns.specs.Seat.{Passed, entries, by_seat}
use Rattle.nl_turns.specs.View.{Role, blank, idle, waits, enters, inside, leaves, hosts, spent, View, no_opening}
use Rattle.nl_turns.specs.declared.entry.Entry.{Entry}

-- a fact about entries, as one about entries with their seats
abbrev pub by_entries : {V : Type 0} → (Opening → List Entry → V → Type 0) → Opening → List Passed → V → Type 0
by_entries stands opening history value = stands opening (entries history) value

abbrev pub HasTicket : Role → ℕ → Type 0
HasTicket blank t = ⊥
HasTicket idle t = ⊥
HasTicket (waits u) t = u ≡ t
HasTicket (enters u) t = u ≡ t
HasTicket (inside u) t = u ≡ t
HasTicket (leaves u) t = u ≡ t
HasTicket (hosts n xs ys) t = ⊥
HasTicket spent t = ⊥

abbrev pub has_any_ticket : Role → Bool
has_any_ticket blank = false
has_any_ticket idle = false
has_any_ticket (waits u) = true
has_any_ticket (enters u) = true
has_any_ticket (inside u) = true
has_any_ticket (leaves u) = true
has_any_ticket (hosts n xs ys) = false
has_any_ticket spent = false

abbrev pub is_living : Role → Bool
is_living blank = true
is_living idle = true
is_living (waits u) = true
is_living (enters u) = true
is_living (inside u) = true
is_living (leaves u) = true
is_living (hosts n xs ys) = true
is_living spent = false

-- the turn of this ticket has come, and the seat has it
abbrev pub IsTurn : Role → ℕ → Type 0
IsTurn (enters u) t = u ≡ t
IsTurn (inside u) t = u ≡ t
IsTurn (leaves u) t = u ≡ t
IsTurn _ t = ⊥

-- where the slot is while a seat has this role: 0 at home with the value, 1 with the seat, 2 at home and empty
abbrev pub spot_of : Role → ℕ
spot_of (enters u) = 1
spot_of (inside u) = 2
spot_of (leaves u) = 1
spot_of _ = 0

abbrev pub first_view : Opening → ℕ → View
first_view opening seats = record { opening = opening; number = 0; seen = []; role = idle; places = seats - 1; next = 1; joined = [] }

abbrev pub blank_view : ℕ → View
blank_view seats = record (first_view no_opening seats) { role = blank }

-- What the words and views only show in part: the true counts of tickets drawn and turns passed, of which the words have the
-- lowest 64 bits; the whole history; where the slot is; the view that has a ticket, and the view that has a number; which numbers
-- are in use; how many places the first seat has, and the next number that it gives.
pub record Truth : Type 0 where
  pub drawn : ℕ
  pub passed : ℕ
  pub all : List Passed
  pub spot : ℕ
  pub owner : ℕ → ℕ
  pub holder : ℕ → ℕ
  pub in_use : ℕ → Bool
  pub places : ℕ
  pub next : ℕ

-- without the number that was joined last
abbrev pub joined_before : List ℕ → List ℕ
joined_before [] = []
joined_before (m ∷ ms) = ms

-- Once the opening is picked no view is blank. A seat that took in another, of another number, has what both had seen, with all entries of
-- the other, of its own, and of those taken in before.
abbrev pub HostFits : View → Role → Type 0
HostFits v (hosts n xs ys) =
    IsPrefix ys v.seen × IsPrefix xs v.seen × (by_seat n v.seen ≡ by_seat n xs) × (by_seat v.number v.seen ≡ by_seat v.number ys)
    × ((j : ℕ) → Contains (joined_before v.joined) j → by_seat j v.seen ≡ by_seat j ys) × (n ≢ v.number)
HostFits v blank = ⊥
HostFits v _ = Unit {0}

-- The rule on the living view j. Its number is in use, and its alone. It has seen a beginning of the history, with all of its own
-- entries and of the seats that it took in. Its ticket is its alone, drawn and not passed. At its turn the ticket is the count of
-- turns passed, and it has seen the whole history.
pub record ViewFits (opening : Opening) (w : Truth) (j : ℕ) (v : View) : Type 0 where
  pub opening_is : v.opening ≡ opening
  pub number : (w.holder v.number ≡ j) × (w.in_use v.number ≡ true)
  pub seen : IsPrefix v.seen w.all
  pub own : by_seat v.number v.seen ≡ by_seat v.number w.all
  pub ticket : (t : ℕ) → HasTicket v.role t → (w.owner t ≡ j) × (w.passed ≤ t) × (t < w.drawn)
  pub turn : (t : ℕ) → IsTurn v.role t → (t ≡ w.passed) × (v.seen ≡ w.all) × (spot_of v.role ≡ w.spot)
  pub host : HostFits v v.role
  pub joined : (n : ℕ) → Contains v.joined n → (w.in_use n ≡ false) × (n < w.next) × (by_seat n v.seen ≡ by_seat n w.all)
  pub first : v.number ≡ 0 → (v.places ≡ w.places) × (v.next ≡ w.next) × ((n : ℕ) → w.in_use n ≡ false → by_seat n v.seen ≡ by_seat n w.all)

abbrev pub At : List View → ℕ → View → Type 0
At views j v = get_elem? views j ≡ some v

-- what the slot holds at home, where `stood` says what holds of the value
abbrev pub SlotFits : {V : Type 0} → (V → Type 0) → ℕ → maybe.Option (Option V) → Type 0
SlotFits stood spot none = spot ≡ 1
SlotFits stood spot (some None) = spot ≡ 2
SlotFits stood spot (some (Some value)) = (spot ≡ 0) × stood value

-- The rule, for any number of views. There are as many tickets out as turns to come. The living views and the places are all seats,
-- of which there are at most 10. The history has one entry for each turn passed. The value at home stands for the opening and the
-- whole history; where it is not at home, some view has its turn. No number from the next one on is in use or in the history, and
-- each number in use has a living view.
pub record IsTicketLock {V : Type 0} (stands : Opening → List Passed → V → Type 0) (opening : Opening) (seats : ℕ)
    (s : State (Option V) View) : Type 0 where
  pub truth : Truth
  pub home : maybe.Option (Option V)
  pub words : s.words ≡ truth.drawn % 2 ^ 64 ∷ truth.passed % 2 ^ 64 ∷ []
  pub slot : s.homes ≡ home ∷ []
  pub few : seats ≤ 10
  pub counted : truth.passed + count_by (λ (v : View). has_any_ticket v.role) s.views ≡ truth.drawn
  pub seated : count_by (λ (v : View). is_living v.role) s.views + truth.places ≡ seats
  pub whole : length truth.all ≡ truth.passed
  pub each : (j : ℕ) (v : View) → At s.views j v → is_living v.role ≡ true → ViewFits opening truth j v
  pub spot : SlotFits (stands opening truth.all) truth.spot home
  pub out : 0 < truth.spot → (v : View) × At s.views (truth.owner truth.passed) v × IsTurn v.role truth.passed
  pub fresh : (n : ℕ) → truth.next ≤ n → (truth.in_use n ≡ false) × (by_seat n truth.all ≡ [])
  pub held : (n : ℕ) → truth.in_use n ≡ true → (v : View) × At s.views (truth.holder n) v × (is_living v.role ≡ true) × (v.number ≡ n)

-- The lock with its origin, the value that it was made with: untouched while the opening is still to be picked, and from then on under
-- the rule for one opening.
abbrev pub IsLock : {V : Type 0} → (Opening → List Passed → V → Type 0) → V → ℕ → State (Option V) View → Type 0
IsLock stands origin seats s =
    ((s ≡ at_start (0 ∷ 0 ∷ []) (Some origin ∷ []) (blank_view seats)) × (0 < seats) × (seats ≤ 10))
    ⊎ ((o : Opening) × IsTicketLock stands o seats s)
