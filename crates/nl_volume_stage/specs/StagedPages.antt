-- Which pages a staging leaves in flight.
use Rattle.std.specs.Prelude.{◌≡◌, ◌≢◌, ◌⊎◌, ℕ, ◌≤◌, ◌==◌, if◌then◌else◌, List, [], ◌∷◌, ◌++◌, map, Some}
use Rattle.nl_field.specs.declared.pointer.Tag.{Tag}
use Rattle.nl_tree.specs.Represents.{node_reached}
use Rattle.nl_tree.specs.declared.call.Call.{Call}
use Rattle.nl_tree.specs.declared.call.Call.TheVariants.{Sync}
use Rattle.nl_tree.specs.declared.turn.Stage.{Stage}
use Rattle.nl_tree.specs.declared.turn.Stage.TheVariants as stage
use Rattle.nl_flight.specs.Flight.{InFlight, IsFlight, of_worker}
use Rattle.nl_flight.specs.declared.page.FlightPage.{FlightPage}
use Rattle.nl_iface.specs.declared.counts.Counts.{Ghosts}
use Rattle.nl_core.specs.Lines.{notes_fault}
use Rattle.nl_core.specs.Programming.{HasLineOrNone}
use Rattle.nl_core.specs.declared.state.Core.{Core}
use Rattle.nl_calls_bytes.specs.Ranges.{path_of}
use Rattle.nl_calls_steps.specs.Finding.{nodes_of}

-- ---- the pages of a worker

-- the pages that a worker has in flight, each as its tag and its write sequence number
abbrev pub flight_of : List InFlight → ℕ → List (Tag × ℕ)
flight_of flight worker = map (λ (page : FlightPage). (page.tag, page.at.stamp)) (of_worker flight worker).pages

-- those that it has in flight for this line: none where its line is another one
abbrev pub flight_for : List InFlight → ℕ → ℕ → List (Tag × ℕ)
flight_for flight worker line = if (of_worker flight worker).line == line then flight_of flight worker else []

-- ---- the file of a page

-- The tag is that of a node, with the generation that the node has.
pub record IsTagOfNode {D : Type 0} (g : Ghosts D) (v : Core D) (n : ℕ) (tag : Tag) : Type 0 where
  pub ino : tag.ino ≡ n
  pub generation : tag.generation ≡ (nodes_of g v n).generation

-- the path leads to a node, and the tag is that of the node
abbrev pub IsTagOfPath : {D : Type 0} → Ghosts D → Core D → List (List ℕ) → Tag → Type 0
IsTagOfPath g v path tag = (n : ℕ) × (node_reached (nodes_of g v) 0 path ≡ Some n) × IsTagOfNode g v n tag

-- the same of the path of a call that writes
abbrev pub IsTagOfCall : {D : Type 0} → Ghosts D → Core D → Call → Tag → Type 0
IsTagOfCall g v call tag = IsTagOfPath g v (path_of call) tag

-- ---- what a staging leaves

-- The worker has the pages in flight that it had for the line, and no other one.
abbrev pub KeepsLinePages : ℕ → ℕ → List InFlight → List InFlight → Type 0
KeepsLinePages worker line old new = flight_of new worker ≡ flight_for old worker line

-- The worker has the pages in flight that it had for the line, and behind them one of this tag. Its write sequence number was not given
-- before.
pub record AddsLinePage {D : Type 0} (g : Ghosts D) (worker line : ℕ) (tag : Tag) (old new : Core D) : Type 0 where
  pub stamp : ℕ
  pub is_new : g.next_stamp old.device ≤ stamp
  pub pages : flight_of new.flight worker ≡ flight_for old.flight worker line ++ (tag, stamp) ∷ []

-- What a staging does to the pages of the line by its answer: where it staged a page, one is behind the others, and P holds of its tag.
-- Where an operation of the medium failed, one may be.
abbrev pub StagesPage : {D : Type 0} → Ghosts D → ℕ → ℕ → (Tag → Type 0) → Core D → Core D → Stage → Type 0
StagesPage g worker line P old new stage.Staged = (tag : Tag) × P tag × AddsLinePage g worker line tag old new
StagesPage g worker line P old new stage.Fault =
    KeepsLinePages worker line old.flight new.flight ⊎ ((tag : Tag) × P tag × AddsLinePage g worker line tag old new)
StagesPage g worker line P old new stage.Whole = KeepsLinePages worker line old.flight new.flight
StagesPage g worker line P old new stage.Stopped = KeepsLinePages worker line old.flight new.flight
StagesPage g worker line P old new (stage.Lost w f) = KeepsLinePages worker line old.flight new.flight

-- What a staging of a call does to the pages of its line: a sync stages none.
abbrev pub StagesPageOf : {D : Type 0} → Ghosts D → Call → ℕ → ℕ → (Tag → Type 0) → Core D → Core D → Stage → Type 0
StagesPageOf g Sync worker line P old new answer = KeepsLinePages worker line old.flight new.flight
StagesPageOf g _ worker line P old new answer = StagesPage g worker line P old new answer

-- What a staging of a call leaves in flight for the worker: this line or none, and no page of another line.
pub record LeavesInFlight {D : Type 0} (g : Ghosts D) (worker line : ℕ) (call : Call) (P : Tag → Type 0) (old new : Core D)
    (answer : Stage) : Type 0 where
  pub line_is : HasLineOrNone new.flight worker line
  pub pages : StagesPageOf g call worker line P old new answer

-- ---- writes that failed

-- The volume can be written to, and no write failed.
pub record StaysWritable {D : Type 0} (g : Ghosts D) (old new : Core D) : Type 0 where
  pub writes : new.stopped ≡ 0
  pub count : g.write_faults new.device ≡ g.write_faults old.device

-- How a staging ends that has reached the device with an answer: on a volume that can be written to, with that answer. On another one a
-- write failed: it ends so too, and the line keeps the sum of the counts of faults.
abbrev pub EndsTried : {D : Type 0} → Ghosts D → ℕ → ℕ → Stage → Core D → Core D → Stage → Type 0
EndsTried g worker line answer old new result =
    ((result ≡ answer) × (new ≡ old) × (old.stopped ≡ 0))
    ⊎ ((result ≡ stage.Fault) × (new ≡ notes_fault g worker line old) × (old.stopped ≢ 0) × IsFlight new.flight)
