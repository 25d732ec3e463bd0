-- What the handling of callbacks does to a volume: they count as handled, and names of pages change.
use Rattle.std.specs.Prelude.{◌≡◌, ◌⊎◌, ℕ, ◌<◌, ◌≤◌, true, List, map, Some}
use Rattle.nl_field.specs.Graph.{Graph, NodeBody, directory_node, file_node, unused}
use Rattle.nl_field.specs.declared.pointer.Pointer.{Pointer}
use Rattle.nl_field.specs.declared.pointer.Tag.{Tag}
use Rattle.nl_flight.specs.Flight.{InFlight, carried}
use Rattle.nl_flight.specs.declared.page.FlightPage.{FlightPage}
use Rattle.nl_spec_holders.specs.Holding.{Holding}
use Rattle.nl_spec_holders.specs.Laws.{PreservesHolding}
use Rattle.nl_iface.specs.Calls.{KeepsMedium}
use Rattle.nl_iface.specs.Moves.{IsUnhandled}
use Rattle.nl_iface.specs.Names.{Has, Names, led}
use Rattle.nl_iface.specs.declared.Callback.{Callback}
use Rattle.nl_iface.specs.declared.counts.Counts.{Ghosts}
use Rattle.nl_inode.specs.FreeLaws.{NodesAreFree, PoolIsFree}
use Rattle.nl_inode.specs.Nodes.{Spaces}
use Rattle.nl_meta.specs.Committed.{VirtualMap}
use Rattle.nl_meta.specs.Nodes.{graph_of}
use Rattle.nl_meta.specs.Pages.{Pages, is_dirty}
use Rattle.nl_meta.specs.PointerLists.{tagged_in}
use Rattle.nl_meta.specs.Steps.{ChangesRunningPages}
use Rattle.nl_meta_running.specs.Running.{running_on}

-- A volume that runs over a device: its metadata pages in memory, the lines in flight, and the pointers that await their free.
pub record Volume (D : Type 0) : Type 0 where
  pub device : D
  pub pages : Pages
  pub flight : List InFlight
  pub freeing : List Pointer

abbrev pub volume : {D : Type 0} → D → Pages → List InFlight → List Pointer → Volume D
volume device pages flight freeing = record { device = device; pages = pages; flight = flight; freeing = freeing }

-- the running map of a volume
abbrev pub running_of : {D : Type 0} → Ghosts D → Volume D → VirtualMap
running_of g v = running_on g v.device v.pages

-- the nodes of a volume
abbrev pub nodes_of : {D : Type 0} → Ghosts D → Volume D → Graph
nodes_of g v = graph_of (g.shape v.device) (running_of g v)

-- ---- callbacks

-- each pending callback was handled
abbrev pub AllHandled : Names → Type 0
AllHandled names = (n : ℕ) → IsUnhandled names n → ⊥

-- Pending callbacks that no transaction had handled count as handled by this one. All else in the tables stays.
pub record MarksSomeHandled (transaction : ℕ) (s t : Names) : Type 0 where
  pub live : (q : ℕ) → t.live q ≡ s.live q
  pub pairs : t.pairs ≡ s.pairs
  pub pending : t.pending ≡ s.pending
  pub posted : t.posted ≡ s.posted
  pub space : t.space ≡ s.space
  pub handled : (n : ℕ) → (t.handled n ≡ s.handled n) ⊎ (IsUnhandled s n × (t.handled n ≡ Some transaction))

-- ---- who holds the pages

-- the names of a volume and its holders, with what a commit has of them
abbrev pub holding_on : {D : Type 0} → Ghosts D → Volume D → Holding → Holding
holding_on g v h = record h { names = g.names v.device; running = tagged_in (g.shape v.device) (running_of g v); flight = carried v.flight; freeing = v.freeing }

-- ---- names alone

abbrev pub nameless : Pointer → Pointer
nameless p = record { name = 0; stamp = p.stamp }

-- a node but for the names that its pointers have
abbrev pub nameless_body : NodeBody → NodeBody
nameless_body unused = unused
nameless_body (directory_node entries) = directory_node entries
nameless_body (file_node size pointers) = file_node size (map (λ p. (p.0, nameless p.1)) pointers)

-- a line in flight but for the names that its pages have
abbrev pub nameless_line : InFlight → InFlight
nameless_line now = record now { pages = map (λ (page : FlightPage). record page { at = nameless page.at }) now.pages }

-- Each directory is as before, and each file but for names: it has its size, and pages of the same sequence numbers at the same indexes.
pub record SameButNames (old new : Graph) : Type 0 where
  pub generation : (n : ℕ) → (new n).generation ≡ (old n).generation
  pub body : (n : ℕ) → nameless_body (new n).body ≡ nameless_body (old n).body

-- ---- nodes and addresses in use

-- What is free stays exactly what the pages do not use: the same nodes are in use, and the same addresses.
pub record FreeStays {D : Type 0} (g : Ghosts D) (v w : Volume D) : Type 0 where
  pub nodes : (s : Spaces) → NodesAreFree (g.shape v.device) (running_of g v) s → NodesAreFree (g.shape w.device) (running_of g w) s
  pub pool : (s : Spaces) → PoolIsFree (g.shape v.device) (running_of g v) s → PoolIsFree (g.shape w.device) (running_of g w) s

-- ---- all of it

-- Callbacks were handled by this transaction. If it comes after the one that is frozen, each page is held as before, and the committed
-- and the frozen pointers stay safe. The metadata, the lines in flight and the pointers that await their free have other names of pages at
-- most, and the medium was only read.
pub record HandlesSome {D : Type 0} (g : Ghosts D) (transaction : ℕ) (v w : Volume D) : Type 0 where
  pub marks : MarksSomeHandled transaction (g.names v.device) (g.names w.device)
  pub holders : (h : Holding) → h.number < transaction → PreservesHolding (holding_on g v h) (holding_on g w h)
  pub nodes : SameButNames (nodes_of g v) (nodes_of g w)
  pub free : FreeStays g v w
  pub pages : ChangesRunningPages v.pages w.pages
  -- a page that became dirty has nodes, or pointers of a file
  pub dirty : (a : ℕ) → is_dirty w.pages a ≡ true → (is_dirty v.pages a ≡ true) ⊎ (67 ≤ a)
  pub flight : map nameless_line w.flight ≡ map nameless_line v.flight
  -- a page in flight has the name that it had, or that of the page of a callback
  pub names : (x : Tag × Pointer) → Has (carried w.flight) x
      → Has (carried v.flight) x ⊎ ((c : Callback) × Has (g.names v.device).pending c × (x.1.name ≡ led (g.names v.device) c.before))
  pub freeing : map nameless w.freeing ≡ map nameless v.freeing
  pub medium : KeepsMedium g v.device w.device
