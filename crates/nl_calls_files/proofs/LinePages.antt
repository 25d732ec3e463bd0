-- The pages of a worker's line.
use Rattle.std.proofs.Common.{ℕ, ◌<◌, ◌≤◌, List, length, arith}
use Rattle.std.proofs.lemmas.List.Sums.{get_or-le-sum_by}
use Rattle.nl_core_callbacks.specs.Handled.{nameless}
use Rattle.nl_flight.specs.Flight.{InFlight, IsFlight, begun, extra, of_worker}
use Rattle.nl_flight.specs.declared.page.FlightPage.{FlightPage}

-- the page but for its name
abbrev pub bare : FlightPage → FlightPage
bare page = record page { at = nameless page.at }

-- a line has at most 18 pages
pub few_pages : (flight : List InFlight) (worker : ℕ) → IsFlight flight → worker < 8 → length (of_worker flight worker).pages ≤ 18
few_pages flight worker is known =
    let eight = is.eight in
    let most_ = is.places in
    let own = get_or-le-sum_by extra flight worker (begun 0) (omega (arith, eight, known)) in
    omega (arith, most_, own)
