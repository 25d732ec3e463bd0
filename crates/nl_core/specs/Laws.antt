-- What a core stores, where its pages in flight lead, and how many pages files have.
use Rattle.std.specs.Prelude.{◌≡◌, ℕ, ◌<◌, length, Option, Some, IsTrue}
use Rattle.nl_field.specs.Spelling.{is_stamp}
use Rattle.nl_field.specs.declared.pointer.Pointer.{Pointer}
use Rattle.nl_field.specs.declared.pointer.Tag.{Tag}
use Rattle.nl_field.specs.declared.shape.Shape.{Shape}
use Rattle.nl_core_callbacks.specs.Handled.{SameButNames}
use Rattle.nl_flight.specs.Flight.{carried}
use Rattle.nl_iface.specs.Calls.{stored}
use Rattle.nl_iface.specs.Names.{Has, led}
use Rattle.nl_iface.specs.declared.counts.Counts.{Ghosts}
use Rattle.nl_meta.specs.Committed.{VirtualMap}
use Rattle.nl_meta.specs.Consistent.{PageOfStamp}
use Rattle.nl_meta.specs.Nodes.{graph_of, is_physical_name}
use Rattle.nl_meta.specs.PointerLists.{tagged_in}
use Rattle.nl_spec_commits.specs.Trees.{StoredOpensAs, Trees}
use Rattle.nl_core.specs.Core.{names_of}
use Rattle.nl_core.specs.Trees.{CoreRepresents, CoreIsObservable}
use Rattle.nl_core.specs.declared.state.Core.{Core}

-- What is stored now opens as the committed tree.
abbrev pub StoredOpens : {D : Type 0} → Ghosts D → Core D → Type 0
StoredOpens g v =
    CoreIsObservable g v → (page_of_stamp : ℕ → Option PageOfStamp) (t : Trees) → CoreRepresents g v page_of_stamp t
    → StoredOpensAs (g.shape v.device) (stored g v.device) t.committed

-- A page in flight is live where its pointer leads, under its owner and its write sequence number, which was given. The pointer has a
-- spelling: its number, and a name of the physical segment.
pub record LeadsLive {D : Type 0} (g : Ghosts D) (v : Core D) (x : Tag × Pointer) : Type 0 where
  pub live : (names_of g v).live (led (names_of g v) x.1.name) ≡ Some (record { tag = x.0; stamp = x.1.stamp })
  pub given : x.1.stamp < g.next_stamp v.device
  pub spelled : IsTrue (is_stamp x.1.stamp)
  pub physical : IsTrue (is_physical_name (g.shape v.device) x.1)

abbrev pub FlightLeads : {D : Type 0} → Ghosts D → Core D → Type 0
FlightLeads g v = (x : Tag × Pointer) → Has (carried v.flight) x → LeadsLive g v x

-- Where nodes are the same but for names of pages, files have as many pages.
abbrev pub PagesStayAsMany : Type 0
PagesStayAsMany =
    (shape : Shape) (old new : VirtualMap) → SameButNames (graph_of shape old) (graph_of shape new)
    → length (tagged_in shape new) ≡ length (tagged_in shape old)
