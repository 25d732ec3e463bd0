-- What a device shows of its pending callbacks.
use Rattle.std.specs.Prelude.{◌≡◌, ℕ, ◌+◌, ◌*◌, ◌==◌, Bool, not, if◌then◌else◌, List, [], ◌∷◌, length, map, Option, Some, None, Contains}
use Rattle.nl_callbacks.specs.Pending.{ArePendingEntries, PendingTable}
use Rattle.nl_callbacks.specs.declared.entry.Entry.{Entry}
use Rattle.nl_field.specs.Live.{resolve}
use Rattle.nl_iface.specs.Names.{Has, Names}
use Rattle.nl_iface.specs.declared.Callback.{Callback}
use Rattle.nl_device.specs.Shown.{names_of}
use Rattle.nl_field.specs.Page.{Image}
use Rattle.nl_iface.specs.Space.{NamesGone}
use Rattle.nl_device.specs.Space.{space_of}
use Rattle.nl_pseg.specs.Space.{IsWhole}
use Rattle.nl_pseg.specs.Segment.{CanSpareBlock, IsClean, IsOldName, IsPhysicalOf, KeepsBlock, Physical, SameBlocksAndPages, held_at}
use Rattle.nl_pseg.specs.declared.held.Held.{Held}

abbrev pub callbacks_of : List Entry → List Callback
callbacks_of es = map (λ e. e.callback) es

-- the transaction that handled the callback of this number, None where none did, or it is not pending
abbrev pub handled_in : List Entry → ℕ → Option ℕ
handled_in [] n = None
handled_in (e ∷ es) n = if e.callback.number == n then e.transaction else handled_in es n

-- the names of a segment with the pending callbacks
abbrev pub names_with : Physical → PendingTable → Names
names_with pseg table =
    record (names_of pseg) { pending = callbacks_of table.callbacks; handled = handled_in table.callbacks; posted = table.posted }

-- of these callbacks one has this number, and no transaction handled it
abbrev pub HasUnhandled : List Callback → (ℕ → Option ℕ) → ℕ → Type 0
HasUnhandled pending handled n = (c : Callback) × Has pending c × (c.number ≡ n) × (handled n ≡ None)

-- what a callback tells of its page
abbrev pub held_of_callback : Callback → Option Held
held_of_callback c = Some (record { tag = c.tag; stamp = c.stamp })

-- no two of these callbacks have the same old name
abbrev pub CallbackNamesDiffer : List Entry → Type 0
CallbackNamesDiffer es = (c d : Callback) → Has (callbacks_of es) c → Has (callbacks_of es) d → c.before ≡ d.before → c ≡ d

-- Old names and pending callbacks are one to one. The old name of a callback leads to the page that it tells of, which is live
-- under its tag and stamp. Their numbers rise and were given, and there is room for four for each page of a block.
pub record AreCalled (pseg : Physical) (t : PendingTable) : Type 0 where
  pub numbers : ArePendingEntries t.callbacks t.posted
  pub told : (c : Callback) → Has (callbacks_of t.callbacks) c → held_at pseg (resolve pseg.pairs c.before) ≡ held_of_callback c
  pub old : (c : Callback) → Has (callbacks_of t.callbacks) c → IsOldName pseg c.before
  pub each : (name : ℕ) → IsOldName pseg name → (c : Callback) × Has (callbacks_of t.callbacks) c × (c.before ≡ name)
  pub once : CallbackNamesDiffer t.callbacks
  pub room : length t.callbacks + t.room ≡ 4 * pseg.size

-- the old name of the callback leads to another page
abbrev pub is_led : List (ℕ × ℕ) → Entry → Bool
is_led pairs e = not (resolve pairs e.callback.before == e.callback.before)

-- Old names are gone with their callbacks, and old names and callbacks are one to one again. The live pages are as they were, no page
-- is given out, and what holds of an image or of the numbers holds still.
pub record DropsNames (before now : Physical) (t : PendingTable) : Type 0 where
  pub whole : IsWhole now
  pub called : AreCalled now t
  pub same : SameBlocksAndPages before now
  pub held : now.held ≡ before.held
  pub fewer : (name target : ℕ) → Contains now.pairs (name, target) → Contains before.pairs (name, target)
  pub victim : now.victim ≡ before.victim
  pub space : NamesGone (space_of before) (space_of now)
  pub segment : (image : Image) → IsPhysicalOf image before → IsPhysicalOf image now
  pub spare : (image : Image) → CanSpareBlock image before → CanSpareBlock image now
  pub block : KeepsBlock before → KeepsBlock now
  pub clean : IsClean before → IsClean now
