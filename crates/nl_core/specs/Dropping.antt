-- A worker's line that is dropped: its pages are freed.
use Rattle.std.specs.Prelude.{◌≡◌, ◌⊎◌, ℕ, ◌≤◌, List, length, map, Some, slice_get}
use Rattle.nl_field.specs.declared.pointer.Pointer.{Pointer}
use Rattle.nl_journal_commit.specs.Freeing.{FreesEach, FreesOne}
use Rattle.nl_flight.specs.Flight.{InFlight, begun, of_worker, with_line}
use Rattle.nl_flight.specs.declared.page.FlightPage.{FlightPage}
use Rattle.nl_iface.specs.Calls.{KeepsMedium}
use Rattle.nl_iface.specs.Names.{Names}
use Rattle.nl_iface.specs.declared.counts.Counts.{Ghosts}
use Rattle.nl_core.specs.declared.state.Core.{Core}

abbrev pub pointers_of : InFlight → List Pointer
pointers_of now = map (λ (page : FlightPage). page.at) now.pages

-- the page of that place in the list is freed, where there is one
abbrev pub FreesAt : List Pointer → ℕ → Names → Names → Type 0
FreesAt ps i s t = ((length ps ≤ i) × (t ≡ s)) ⊎ ((p : Pointer) × (slice_get ps i ≡ Some p) × FreesOne p s t)

-- The pages of the line are freed, and the medium is as it was.
pub record FreesLine {D : Type 0} (g : Ghosts D) (now : InFlight) (old new : D) : Type 0 where
  pub freed : FreesEach (pointers_of now) (g.names old) (g.names new)
  pub kept : KeepsMedium g old new
  pub read_faults : g.read_faults new ≡ g.read_faults old

-- The worker has no line, and the pages of the one that it had are freed. Other lines and all else stay.
pub record DropsLine {D : Type 0} (g : Ghosts D) (worker : ℕ) (old new : Core D) : Type 0 where
  pub frees : FreesLine g (of_worker old.flight worker) old.device new.device
  pub flight : new.flight ≡ with_line old.flight worker (begun 0)
  pub others : new ≡ record old { device = new.device; flight = new.flight }
