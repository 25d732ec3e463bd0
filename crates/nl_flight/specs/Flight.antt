-- Lines whose effect is still to come, with the pages that were programmed for them and stand in no file yet.
use Rattle.std.specs.Prelude.{◌≡◌, ◌⊎◌, ℕ, ◌-◌, ◌<◌, ◌≤◌, Bool, ◌==◌, if◌then◌else◌, List, [], length, map, flat_map, replicate, slice_index_or, slice_set, Option, None}
use Rattle.std.specs.List.{list_any, sum_by}
use Rattle.nl_field.specs.declared.pointer.Pointer.{Pointer}
use Rattle.nl_field.specs.declared.pointer.Tag.{Tag}
use Rattle.nl_flight.specs.declared.page.FlightPage.{FlightPage}

-- The line of one worker, 0 for none; the sum of both fault counts after the last stage of it that failed, 0 for none; the count
-- of calls that a sync has to reach, where it is fixed; and its pages in the order in which they were put.
pub record InFlight : Type 0 where
  pub line : ℕ
  pub fault : ℕ
  pub goal : Option ℕ
  pub pages : List FlightPage

-- a line of that number, for which nothing was done yet
abbrev pub begun : ℕ → InFlight
begun line = record { line = line; fault = 0; goal = None; pages = [] }

-- no worker of eight has a line
abbrev pub nothing : List InFlight
nothing = replicate 8 (begun 0)

abbrev pub of_worker : List InFlight → ℕ → InFlight
of_worker flight worker = slice_index_or flight worker (begun 0)

abbrev pub with_line : List InFlight → ℕ → InFlight → List InFlight
with_line flight worker now = slice_set flight worker now

-- the pages of a line past its sixteen
abbrev pub extra : InFlight → ℕ
extra now = length now.pages - 16

-- a worker has sixteen places of its own, and two are there for all: those of the partial pages of the line whose effect runs
abbrev pub HasFlightRoom : List InFlight → ℕ → Type 0
HasFlightRoom flight worker = (length (of_worker flight worker).pages < 16) ⊎ (sum_by extra flight < 2)

-- there are eight workers, at most two pages more than sixteen for each, and a worker without a line has neither pages nor a goal
pub record IsFlight (flight : List InFlight) : Type 0 where
  pub eight : length flight ≡ 8
  pub places : sum_by extra flight ≤ 2
  pub idle : (worker : ℕ) → (of_worker flight worker).line ≡ 0
      → ((of_worker flight worker).pages ≡ []) × ((of_worker flight worker).goal ≡ None)

-- the pages of all workers, each with its owner
unfoldable pub carried : List InFlight → List (Tag × Pointer)
carried flight = flat_map (λ now. map (λ page. (page.tag, page.at)) now.pages) flight

-- the pointer with another name, where it has this write sequence number
abbrev pub renamed_pointer : ℕ → ℕ → Pointer → Pointer
renamed_pointer stamp to at = record { name = if at.stamp == stamp then to else at.name; stamp = at.stamp }

abbrev pub renamed_page : ℕ → ℕ → FlightPage → FlightPage
renamed_page stamp to page = record { index = page.index; at = renamed_pointer stamp to page.at; tag = page.tag }

abbrev pub renamed_line : ℕ → ℕ → InFlight → InFlight
renamed_line stamp to now = record { line = now.line; fault = now.fault; goal = now.goal; pages = map (renamed_page stamp to) now.pages }

-- all pages, those of this write sequence number under another name
abbrev pub renamed : ℕ → ℕ → List InFlight → List InFlight
renamed stamp to flight = map (renamed_line stamp to) flight

-- a page of the line has this write sequence number
abbrev pub line_has_stamp : ℕ → InFlight → Bool
line_has_stamp stamp now = list_any (λ page. page.at.stamp == stamp) now.pages

-- a page in flight has this write sequence number
abbrev pub has_stamp : List InFlight → ℕ → Bool
has_stamp flight stamp = list_any (line_has_stamp stamp) flight
