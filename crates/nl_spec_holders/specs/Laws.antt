-- Each step of a volume keeps who holds its live pages, and what the committed and the frozen transaction need.
use Rattle.std.specs.Prelude.{◌≡◌, ◌≢◌, ◌⊎◌, ℕ, ◌+◌, ◌<◌, ◌≤◌, List, [], ◌∷◌, ◌++◌, length, map, Some, None}
use Rattle.nl_field.specs.declared.pointer.Tag.{Tag}
use Rattle.nl_field.specs.declared.pointer.Pointer.{Pointer}
use Rattle.nl_iface.specs.Device.{AllDiffer}
use Rattle.nl_iface.specs.Holders.{plain, tagged, wants, wants_tagged}
use Rattle.nl_iface.specs.Moves.{Acknowledges, Copies, IsHandledBy, MarksHandled, Retains}
use Rattle.nl_iface.specs.Names.{Drops, GainsPage, Has, IsTableOfNames, LivePage, Names, SameTables, led}
use Rattle.nl_iface.specs.declared.Callback.{Callback}
use Rattle.nl_spec_holders.specs.Holding.{Holding, HoldsPages, KeepsCommitted, HandledUpTo}
use Rattle.nl_spec_holders.specs.Lists.{ListGains, ListLoses, Renames, SameBehind}
use Rattle.nl_spec_holders.specs.Opening.{OpensHolding}

pub record PreservesHolding (v w : Holding) : Type 0 where
  pub holds : HoldsPages v → HoldsPages w
  pub committed : HoldsPages v → KeepsCommitted v → KeepsCommitted w

-- no old name stands twice in the table
abbrev pub OldNamesDiffer : Names → Type 0
OldNamesDiffer names = AllDiffer (map (λ pair. pair.0) names.pairs)

-- A page is programmed under a new name and a stamp that no live page has, and is in flight.
abbrev pub ProgramKeeps : Type 0
ProgramKeeps =
    (v : Holding) (t : Names) (flight : List (Tag × Pointer)) (p : ℕ) (page : LivePage) → v.names.live p ≡ None → led v.names p ≡ p
    → ((q : ℕ) (other : LivePage) → v.names.live q ≡ Some other → other.stamp ≢ page.stamp) → GainsPage p page v.names t
    → ListGains tagged (page.tag, record { name = p; stamp = page.stamp }) v.flight flight
    → PreservesHolding v (record v { names = t; flight = flight })

-- The cleaner moves a live page.
abbrev pub CopyKeeps : Type 0
CopyKeeps = (v : Holding) (t : Names) (c : Callback) → Copies c v.names t → PreservesHolding v (record v { names = t })

-- A victim is begun or erased, or a program or an erase failed.
abbrev pub EraseKeeps : Type 0
EraseKeeps = (v : Holding) (t : Names) → SameTables v.names t → PreservesHolding v (record v { names = t })

-- A page in flight becomes one of the running metadata.
abbrev pub InstallKeeps : Type 0
InstallKeeps =
    (v : Holding) (h : Tag × Pointer) (running flight : List (Tag × Pointer)) → ListLoses tagged h v.flight flight
    → ListGains tagged h v.running running
    → PreservesHolding v (record v { running = running; flight = flight })

-- A page leaves the running metadata, and awaits its free.
abbrev pub CutKeeps : Type 0
CutKeeps = (v : Holding) (h : Tag × Pointer) (running : List (Tag × Pointer)) → ListLoses tagged h v.running running
    → PreservesHolding v (record v { running = running; freeing = v.freeing ++ h.1 ∷ [] })

-- A page in flight is freed.
abbrev pub DropKeeps : Type 0
DropKeeps =
    (v : Holding) (t : Names) (h : Tag × Pointer) (flight : List (Tag × Pointer)) → OldNamesDiffer v.names
    → Drops (led v.names h.1.name) v.names t
    → ListLoses tagged h v.flight flight → PreservesHolding v (record v { names = t; flight = flight })

-- A callback is handled: the holder of its stamp has as its name the place to which the old name leads, and it counts for a transaction
-- after the frozen one.
abbrev pub HandleKeeps : Type 0
HandleKeeps =
    (v : Holding) (t : Names) (c : Callback) (n : ℕ) → v.number < n → MarksHandled c n v.names t
    → (running flight : List (Tag × Pointer)) (freeing : List Pointer)
    → Renames tagged wants_tagged c.stamp (led v.names c.before) v.running running
    → Renames tagged wants_tagged c.stamp (led v.names c.before) v.flight flight
    → Renames plain wants c.stamp (led v.names c.before) v.freeing freeing → SameBehind plain v.freeing freeing
    → PreservesHolding v (record v { names = t; running = running; flight = flight; freeing = freeing })

-- The running metadata is frozen for the transaction that is next.
abbrev pub FreezeKeeps : Type 0
FreezeKeeps =
    (v : Holding) (frozen : List Pointer) (next : ℕ) → v.next < next
    → ((p : Pointer) → Has frozen p → (h : Tag × Pointer) × Has v.running h × (h.1 ≡ p))
    → PreservesHolding v (record v { frozen = frozen; number = v.next; leaving = length v.freeing; next = next })

-- The frozen transaction counts from now on.
abbrev pub DecideKeeps : Type 0
DecideKeeps = (v : Holding) → PreservesHolding v (record v { committed = v.frozen; decided = v.number; due = v.leaving; frozen = []; leaving = 0 })

-- A commit failed: the frozen transaction counts, or the one before it, and the next one has any number after that one.
abbrev pub DoubtKeeps : Type 0
DoubtKeeps =
    (v : Holding) (committed : List Pointer) (next : ℕ) → ((p : Pointer) → Has committed p → Has v.committed p ⊎ Has v.frozen p) → v.due ≡ 0
    → v.decided < next
    → PreservesHolding v (record v { committed = committed; frozen = []; number = v.decided; leaving = 0; next = next })

-- The first page that is due is freed, while nothing is frozen.
abbrev pub FreeKeeps : Type 0
FreeKeeps =
    (v : Holding) (t : Names) (p : Pointer) (rest : List Pointer) (k : ℕ) → v.freeing ≡ p ∷ rest → v.due ≡ k + 1 → v.frozen ≡ []
    → v.leaving ≡ 0
    → OldNamesDiffer v.names → Drops (led v.names p.name) v.names t → PreservesHolding v (record v { names = t; freeing = rest; due = k })

-- Callbacks of transactions that count are acknowledged.
abbrev pub AcknowledgeKeeps : Type 0
AcknowledgeKeeps = (v : Holding) (t : Names) (upto : ℕ) → upto ≤ v.decided → Acknowledges upto v.names t → PreservesHolding v (record v { names = t })

-- After an opening each live page is held once, and what is committed is kept.
abbrev pub OpeningHolds : Type 0
OpeningHolds =
    (kept : List Pointer) (place : Pointer → ℕ) (found : List (ℕ × LivePage)) (v : Holding) → IsTableOfNames v.names
    → Retains kept place found v.names → OpensHolding kept v
    → HoldsPages v × KeepsCommitted v

-- ---- marks

-- Where no callback was handled by a later transaction, an acknowledgement leaves none that was handled.
abbrev pub NoneHandled : Type 0
NoneHandled =
    (upto : ℕ) (s t : Names) → Acknowledges upto s t → HandledUpTo s upto → (c : Callback) → Has t.pending c → t.handled c.number ≡ None

-- Where each pending callback was handled by a transaction that is acknowledged, none is left.
abbrev pub NonePending : Type 0
NonePending =
    (upto : ℕ) (s t : Names) → Acknowledges upto s t → ((c : Callback) → Has s.pending c → IsHandledBy s upto c) → (c : Callback)
    → Has t.pending c → ⊥
