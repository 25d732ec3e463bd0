-- The lists by which pending callbacks are found.
use Rattle.std.specs.Prelude.{◌≡◌, ℕ, ◌+◌, ◌<◌, ◌≤◌, List, length, Option, Some, None}
use Rattle.nl_callbacks.specs.declared.entry.Entry.{Entry}
use Rattle.nl_callbacks.specs.declared.links.Link.{Link}
use Rattle.nl_callbacks.specs.Links.{HasLink, AreRisingLinks, link}
use Rattle.nl_callbacks.specs.Lists.{Rises}
use Rattle.nl_callbacks.specs.Pending.{entry_at, no_entry, number_of, ArePendingEntries}

-- the link of an entry in the list by old name
abbrev pub name_key : Entry → Option Link
name_key e = Some (link e.callback.before e.callback.number)

abbrev pub waiting_of : Option ℕ → ℕ → Option Link
waiting_of None number = Some (link 0 number)
waiting_of (Some t) number = None

abbrev pub done_of : Option ℕ → ℕ → Option Link
done_of None number = None
done_of (Some t) number = Some (link t number)

-- in the list by stamp
abbrev pub stamp_key : Entry → Option Link
stamp_key e = Some (link e.callback.stamp e.callback.number)

-- in the list of those that were not handled, where every key is 0
abbrev pub waiting_key : Entry → Option Link
waiting_key e = waiting_of e.transaction e.callback.number

-- in the list of those that were handled, by transaction
abbrev pub done_key : Entry → Option Link
done_key e = done_of e.transaction e.callback.number

abbrev pub HasKey : (Entry → Option Link) → List Entry → Link → Type 0
HasKey key es x = (i : ℕ) × (i < length es) × (key (entry_at es i) ≡ Some x)

-- the list has the link of each entry that has one, and no others
pub record IsIndex (key : Entry → Option Link) (es : List Entry) (links : List Link) : Type 0 where
  pub rising : AreRisingLinks links
  pub there : (x : Link) → HasKey key es x → HasLink links x
  pub back : (x : Link) → HasLink links x → HasKey key es x

pub record AreIndexed (es : List Entry) (names waiting done : List Link) : Type 0 where
  pub rising : Rises number_of no_entry es
  pub by_name : IsIndex name_key es names
  pub not_handled : IsIndex waiting_key es waiting
  pub by_transaction : IsIndex done_key es done
  pub names_size : length names ≡ length es
  pub split : length waiting + length done ≡ length es

-- each callback is in the list by stamp
pub record IsStamped (es : List Entry) (stamps : List Link) : Type 0 where
  pub by_stamp : IsIndex stamp_key es stamps
  pub stamps_size : length stamps ≡ length es

-- the parts of the table together, with the capacities of the five lists
pub record IsInside (room posted : ℕ) (es : List Entry) (names waiting done stamps : List Link) (c0 c1 c2 c3 c4 : ℕ) : Type 0 where
  pub kept : AreIndexed es names waiting done
  pub stamped : IsStamped es stamps
  pub table : ArePendingEntries es posted
  pub few : length es ≤ room
  pub entries_room : room ≤ c0
  pub names_room : room ≤ c1
  pub waiting_room : room ≤ c2
  pub done_room : room ≤ c3
  pub stamps_room : room ≤ c4
