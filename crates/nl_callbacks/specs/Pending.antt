-- The callbacks that wait for their transaction.
use Rattle.std.specs.Prelude.{◌≡◌, ℕ, ◌+◌, ◌<◌, ◌≤◌, List, length, Option, Some, None, slice_index_or, remove, filter, count_by, nat_lt, nat_le, ◌==◌, Bool, false, not}
use Rattle.nl_field.specs.declared.pointer.Tag.{Tag}
use Rattle.nl_iface.specs.declared.Callback.{Callback}
use Rattle.nl_callbacks.specs.declared.entry.Entry.{Entry}

-- the pending callbacks by rising number, each with the transaction that handled it, the last number that was given,
-- and for how many more there is room
pub record PendingTable : Type 0 where
  pub callbacks : List Entry
  pub posted : ℕ
  pub room : ℕ

abbrev pub no_entry : Entry
no_entry = record {
  callback = record { number = 0; before = 0; after = 0; tag = record { ino = 0; generation = 0; index = 0 }; stamp = 0 };
  transaction = None;
}

abbrev pub entry_at : List Entry → ℕ → Entry
entry_at es i = slice_index_or es i no_entry

abbrev pub number_of : Entry → ℕ
number_of e = e.callback.number

-- a callback of this number is pending
abbrev pub IsPending : List Entry → ℕ → Type 0
IsPending es number = (i : ℕ) × (i < length es) × (number_of (entry_at es i) ≡ number)

-- a pending callback has this old name
abbrev pub IsName : List Entry → ℕ → Type 0
IsName es name = (i : ℕ) × (i < length es) × ((entry_at es i).callback.before ≡ name)

-- the callback of this number is pending and was not handled
abbrev pub IsWaiting : List Entry → ℕ → Type 0
IsWaiting es number = (i : ℕ) × (i < length es) × (number_of (entry_at es i) ≡ number) × ((entry_at es i).transaction ≡ None)

-- the place of a number: how many pending callbacks have a lesser one
abbrev pub place_of : List Entry → ℕ → ℕ
place_of es number = count_by (λ e. nat_lt (number_of e) number) es

-- the transaction of a callback that was handled; one that was handled before keeps the earlier one
abbrev pub first_transaction : Option ℕ → ℕ → Option ℕ
first_transaction None transaction = Some transaction
first_transaction (Some earlier) transaction = Some earlier

abbrev pub with_transaction : Entry → ℕ → Entry
with_transaction e transaction = record { callback = e.callback; transaction = first_transaction e.transaction transaction }

-- handled by a transaction up to this one
abbrev pub is_over : ℕ → Option ℕ → Bool
is_over upto None = false
is_over upto (Some transaction) = nat_le transaction upto

-- the callbacks that no transaction up to this one has handled
abbrev pub unacknowledged : ℕ → List Entry → List Entry
unacknowledged upto es = filter (λ e. not (is_over upto e.transaction)) es

-- the callbacks of other old names
abbrev pub beside_name : List Entry → ℕ → List Entry
beside_name es name = filter (λ e. not (e.callback.before == name)) es

-- the callbacks of pages with other stamps
abbrev pub beside_stamp : List Entry → ℕ → List Entry
beside_stamp es stamp = filter (λ e. not (e.callback.stamp == stamp)) es

-- the table without the callback at this place
abbrev pub without : PendingTable → ℕ → PendingTable
without t at = record { callbacks = remove t.callbacks at; posted = t.posted; room = t.room + 1 }

-- The callback of this old name and of the least number was taken away.
pub record Cancels (old new : PendingTable) (name : ℕ) : Type 0 where
  pub at : ℕ
  pub within : at < length old.callbacks
  pub named : (entry_at old.callbacks at).callback.before ≡ name
  pub least : (i : ℕ) → i < length old.callbacks → (entry_at old.callbacks i).callback.before ≡ name
      → number_of (entry_at old.callbacks at) ≤ number_of (entry_at old.callbacks i)
  pub gone : new ≡ without old at

-- The callback of this old name was taken away. It was handled by a transaction up to `upto`, and none by an earlier
-- one, or by the same with a lesser number.
pub record AcknowledgesName (old new : PendingTable) (upto name : ℕ) : Type 0 where
  pub at : ℕ
  pub transaction : ℕ
  pub within : at < length old.callbacks
  pub named : (entry_at old.callbacks at).callback.before ≡ name
  pub handled : (entry_at old.callbacks at).transaction ≡ Some transaction
  pub acknowledged : transaction ≤ upto
  pub first : (i other : ℕ) → i < length old.callbacks → (entry_at old.callbacks i).transaction ≡ Some other → transaction ≤ other
  pub least : (i : ℕ) → i < length old.callbacks → (entry_at old.callbacks i).transaction ≡ Some transaction
      → number_of (entry_at old.callbacks at) ≤ number_of (entry_at old.callbacks i)
  pub gone : new ≡ without old at

-- the least number from 1 on that no pending callback has
pub record IsLeastFree (es : List Entry) (number : ℕ) : Type 0 where
  pub some : 0 < number
  pub free : IsPending es number → ⊥
  pub least : (other : ℕ) → 0 < other → other < number → IsPending es other

-- numbers rise, and are those that were given
pub record ArePendingEntries (es : List Entry) (posted : ℕ) : Type 0 where
  pub rising : (i j : ℕ) → i < j → j < length es → number_of (entry_at es i) < number_of (entry_at es j)
  pub given : (i : ℕ) → i < length es → (0 < number_of (entry_at es i)) × (number_of (entry_at es i) ≤ posted)

-- the callback is pending
abbrev pub HasCallback : List Entry → Callback → Type 0
HasCallback es callback = (i : ℕ) × (i < length es) × ((entry_at es i).callback ≡ callback)

-- a pending callback that was not handled
abbrev pub new_entry : Callback → Entry
new_entry callback = record { callback = callback; transaction = None }

abbrev pub callback_of : ℕ → ℕ → ℕ → Tag → ℕ → Callback
callback_of number old new tag stamp = record { number = number; before = old; after = new; tag = tag; stamp = stamp }
