-- Pages in flight that become pages of a file one after the other, while their line goes on.
use Rattle.std.specs.Prelude.{◌≡◌, ℕ, ◌+◌, ◌<◌, List, length, drop, slice_get, Some}
use Rattle.nl_field.specs.declared.pointer.Pointer.{Pointer}
use Rattle.nl_field.specs.declared.pointer.Tag.{Tag}
use Rattle.nl_flight.specs.Flight.{InFlight, IsFlight, begun, carried, of_worker, with_line}
use Rattle.nl_flight.specs.declared.page.FlightPage.{FlightPage}
use Rattle.nl_spec_holders.specs.Lists.{ListLoses}
use Rattle.nl_iface.specs.Holders.{tagged}

-- a line without its first pages
abbrev pub without_first : ℕ → InFlight → InFlight
without_first k now = record { line = now.line; fault = now.fault; goal = now.goal; pages = drop k now.pages }

-- the lines, that of the worker without its first pages: a file has them by now
abbrev pub landed : List InFlight → ℕ → ℕ → List InFlight
landed flight worker k = with_line flight worker (without_first k (of_worker flight worker))

-- what is in flight of the page: its tag and its pointer
abbrev pub flying : FlightPage → Tag × Pointer
flying page = (page.tag, page.at)

-- Page by page fewer are in flight, from all of them on, until the line has none.
pub record Landing (flight : List InFlight) (worker : ℕ) : Type 0 where
  pub lines : (k : ℕ) → IsFlight (landed flight worker k)
  pub first : carried (landed flight worker 0) ≡ carried flight
  pub next : (k : ℕ) (page : FlightPage) → slice_get (of_worker flight worker).pages k ≡ Some page
      → ListLoses tagged (flying page) (carried (landed flight worker k)) (carried (landed flight worker (k + 1)))
  pub last : carried (landed flight worker (length (of_worker flight worker).pages)) ≡ carried (with_line flight worker (begun 0))

abbrev pub PagesLand : Type 0
PagesLand = (flight : List InFlight) (worker : ℕ) → IsFlight flight → worker < 8 → Landing flight worker
