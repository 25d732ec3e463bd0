-- What the handling of a callback means for those that hold live pages.
use Rattle.std.specs.Prelude.{◌≡◌, ℕ, ◌≤◌, List, map}
use Rattle.nl_field.specs.declared.pointer.Pointer.{Pointer}
use Rattle.nl_field.specs.declared.pointer.Tag.{Tag}
use Rattle.nl_field.specs.declared.shape.Shape.{Shape}
use Rattle.nl_flight.specs.Flight.{InFlight, carried, renamed, renamed_pointer}
use Rattle.nl_spec_holders.specs.Lists.{Renames, SameBehind}
use Rattle.nl_iface.specs.Holders.{Holders, IsHeld, plain, tagged, times, wants, wants_tagged}
use Rattle.nl_iface.specs.Names.{Has, IsTableOfNames, led}
use Rattle.nl_iface.specs.declared.Callback.{Callback}
use Rattle.nl_iface.specs.declared.counts.Counts.{Ghosts}
use Rattle.nl_meta.specs.Committed.{VirtualMap}
use Rattle.nl_meta.specs.Pages.{Pages}
use Rattle.nl_meta.specs.PointerLists.{tagged_in}
use Rattle.nl_meta.specs.Steps.{ChangesRunningPages}
use Rattle.nl_meta_running.specs.Running.{RunningIsRight, running_on}
use Rattle.nl_handler.specs.Handling.{HandlesStored, IsElsewhere, RenamesPointer}
use Rattle.nl_handler.specs.declared.answer.Handled.{Handled}
use Rattle.nl_handler.specs.declared.answer.Handled.TheVariants as handled

-- The holder of the metadata has the name, where no second one has its sequence number.
abbrev pub StoredRenames : Type 0
StoredRenames =
    (shape : Shape) (old new : VirtualMap) (tag : Tag) (stamp name : ℕ) → times tagged stamp (tagged_in shape old) ≤ 1
    → RenamesPointer shape old new tag stamp name
    → Renames tagged wants_tagged stamp name (tagged_in shape old) (tagged_in shape new)

-- A page in flight has the name too, where no second one has its sequence number.
abbrev pub FlightRenames : Type 0
FlightRenames =
    (stamp name : ℕ) (flight : List InFlight)
    → Renames tagged wants_tagged stamp name (carried flight) (carried (renamed stamp name flight))

-- A pointer that awaits its free has the name too, and each such pointer stays in its place.
abbrev pub FreeingRenames : Type 0
FreeingRenames =
    (stamp name : ℕ) (list : List Pointer)
    → Renames plain wants stamp name list (map (renamed_pointer stamp name) list)
    × SameBehind plain list (map (renamed_pointer stamp name) list)

-- ---- a call of `handle`

-- the holders of live pages: the running metadata, the pages in flight, and the pointers that await their free
abbrev pub holders_on : {D : Type 0} → Ghosts D → D → Pages → List InFlight → List Pointer → Holders
holders_on g s p flight freeing = record { running = tagged_in (g.shape s) (running_on g s p); flight = carried flight; freeing = freeing }

-- what the call says of the metadata
pub record HandlerAnswers {D : Type 0} (g : Ghosts D) (s : D) (p : Pages) (t : D) (q : Pages) (flight : List InFlight) (freeing : List Pointer)
    (c : Callback) (answer : Handled) : Type 0 where
  pub elsewhere : IsElsewhere c.stamp flight freeing → (answer ≡ handled.Renamed) × (q ≡ p) × (t ≡ s)
  pub stored : (IsElsewhere c.stamp flight freeing → ⊥) → HandlesStored g s p t q c.tag c.stamp (led (g.names s) c.before) answer

-- The page of the callback has a holder, and where it was handled the holder of the metadata, where it is that, has the name.
pub record HandledHolders {D : Type 0} (g : Ghosts D) (s : D) (p : Pages) (t : D) (q : Pages) (c : Callback)
    (answer : Handled) : Type 0 where
  pub never_gone : answer ≡ handled.Gone → ⊥
  pub running : answer ≡ handled.Renamed
      → Renames tagged wants_tagged c.stamp (led (g.names s) c.before) (tagged_in (g.shape s) (running_on g s p))
      (tagged_in (g.shape t) (running_on g t q))

-- Where each live page is held once, a pending callback is never gone.
abbrev pub HandlerKeeps : {D : Type 0} → Ghosts D → Type 0
HandlerKeeps {D} g =
    (s : D) (p : Pages) (t : D) (q : Pages) (flight : List InFlight) (freeing : List Pointer) (c : Callback) (answer : Handled)
    → RunningIsRight g s p → IsTableOfNames (g.names s) → IsHeld (g.names s) (holders_on g s p flight freeing) → Has (g.names s).pending c
    → HandlerAnswers g s p t q flight freeing c answer → HandledHolders g s p t q c answer

-- ---- the pages in memory

-- However a call was answered, it loses no page that is resident, thaws none, and makes none of the journal's resident.
abbrev pub HandlerChangesPages : {D : Type 0} → Ghosts D → Type 0
HandlerChangesPages {D} g =
    (s : D) (p : Pages) (t : D) (q : Pages) (tag : Tag) (stamp name : ℕ) (answer : Handled) → HandlesStored g s p t q tag stamp name answer
    → ChangesRunningPages p q
