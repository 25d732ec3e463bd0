-- A page is programmed for a worker's line, and is in flight.
use Rattle.std.specs.Prelude.{◌≡◌, ◌≢◌, ◌↔◌, ◌⊎◌, ℕ, ◌+◌, ◌≤◌, ◌^◌, ◌==◌, if◌then◌else◌, List, [], ◌∷◌, ◌++◌, map, Some}
use Rattle.nl_field.specs.declared.answers.Named.{Named}
use Rattle.nl_field.specs.declared.answers.Named.TheVariants as named
use Rattle.nl_field.specs.declared.pointer.Pointer.{Pointer}
use Rattle.nl_field.specs.declared.pointer.Tag.{Tag}
use Rattle.nl_core_callbacks.specs.Handled.{nameless_line}
use Rattle.nl_flight.specs.Flight.{InFlight, begun, carried, of_worker, with_line}
use Rattle.nl_iface.specs.Answers.{IfPlaced, IfRefused, IsPlaced, IsTriedNamed}
use Rattle.nl_iface.specs.Calls.{KeepsPages, LeavesNew, OnlyReads, PlacesNewPage, PlacesNone, TakesStamp, TriesCounted}
use Rattle.nl_iface.specs.Names.{Has}
use Rattle.nl_iface.specs.Space.{NoneRetired}
use Rattle.nl_iface.specs.declared.counts.Counts.{Ghosts}
use Rattle.nl_core.specs.Calls.{KeepsLines}
use Rattle.nl_core.specs.Core.{names_of}
use Rattle.nl_core.specs.declared.programming.Programmed.{Programmed}
use Rattle.nl_core.specs.declared.programming.Programmed.TheVariants as programmed
use Rattle.nl_core.specs.declared.state.Core.{Core}

-- the worker's line is this one, or it has none
abbrev pub HasLineOrNone : List InFlight → ℕ → ℕ → Type 0
HasLineOrNone flight worker line = ((of_worker flight worker).line ≡ 0) ⊎ ((of_worker flight worker).line ≡ line)

-- the worker's line, which begins where it has none
abbrev pub line_of : List InFlight → ℕ → ℕ → InFlight
line_of flight worker line = if (of_worker flight worker).line == 0 then begun line else of_worker flight worker

-- the line with this page behind its others
abbrev pub behind : InFlight → Tag → Pointer → InFlight
behind was tag at = record was { pages = was.pages ++ record { index = tag.index; at = at; tag = tag } ∷ [] }

abbrev pub with_page : List InFlight → ℕ → ℕ → Tag → Pointer → List InFlight
with_page flight worker line tag at = with_line flight worker (behind (line_of flight worker line) tag at)

-- A page is programmed under a new name, or not: what a device tells of that.
pub record ProgramsNewName {D : Type 0} (g : Ghosts D) (tag : Tag) (main : List ℕ) (answer : Named) (old new : D) : Type 0 where
  pub not_live : answer ≡ named.NotLive → ⊥
  pub no_page : answer ≡ named.NoPage ↔ ((g.names old).space.room ≡ 0)
  pub placed : IfPlaced answer (PlacesNewPage g tag main 0 (g.names old) old new)
  pub none : (IsPlaced answer → ⊥) → PlacesNone g answer old new
  pub refused : IfRefused answer (OnlyReads g old new)
  pub left : g.tells → LeavesNew g tag main answer old new
  pub kept : KeepsPages g old new
  pub next_stamp : TakesStamp g (IsTriedNamed answer) old new
  pub counts : TriesCounted g answer old new
  pub retired : NoneRetired (g.names old).space (g.names new).space

-- The page is placed under the pointer, and in flight behind the others of the worker's line.
pub record PutsPage {D : Type 0} (g : Ghosts D) (worker line : ℕ) (tag : Tag) (main : List ℕ) (old new : Core D)
    (at : Pointer) : Type 0 where
  pub places : PlacesNewPage g tag main 0 (names_of g old) old.device new.device at
  pub flight : new.flight ≡ with_page old.flight worker line tag at
  pub others : new ≡ record old { device = new.device; flight = new.flight; stopped = new.stopped }

-- No page is placed, for want of room or by a fault, and those in flight are the same. Where it was refused, nothing was written.
pub record PutsNone {D : Type 0} (g : Ghosts D) (answer : Named) (old new : Core D) : Type 0 where
  pub none : PlacesNone g answer old.device new.device
  pub not_live : answer ≡ named.NotLive → ⊥
  pub others : new ≡ record old { device = new.device; stopped = new.stopped }
  pub refused : IfRefused answer (OnlyReads g old.device new.device)

-- ---- with rounds of reclaiming

-- the write sequence number from which on no page is programmed
abbrev pub last_stamp : ℕ
last_stamp = 2 ^ 62 + 2 ^ 40

-- A page with these bytes is live under the pointer, and in flight behind the others of the worker's line, which are those of before but
-- for the names of their pages. Its write sequence number was not given before.
pub record PutsInFlight {D : Type 0} (g : Ghosts D) (worker line : ℕ) (tag : Tag) (main : List ℕ) (old new : Core D) : Type 0 where
  pub at : Pointer
  pub flight : map nameless_line new.flight ≡ map nameless_line (with_page old.flight worker line tag at)
  pub is_in_flight : Has (carried new.flight) (tag, at)
  pub is_live : (names_of g new).live at.name ≡ Some (record { tag = tag; stamp = at.stamp })
  pub is_new : g.next_stamp old.device ≤ at.stamp
  pub bytes : g.tells → g.bytes new.device at.name ≡ main

-- What a program does by its answer. Where it did none, the lines in flight are those of before; where it was stopped, all is as before. A
-- page is lost only with another number found, and never where the medium tells what it stores.
abbrev pub ProgramsFor : {D : Type 0} → Ghosts D → ℕ → ℕ → Tag → List ℕ → Core D → Core D → Programmed → Type 0
ProgramsFor g worker line tag main old new programmed.InFlight = PutsInFlight g worker line tag main old new
ProgramsFor g worker line tag main old new programmed.Stopped = new ≡ old
ProgramsFor g worker line tag main old new (programmed.Lost w f) = KeepsLines old new × (f ≢ w) × (g.tells → ⊥)
ProgramsFor g worker line tag main old new programmed.Fault = KeepsLines old new
