-- The pages of all workers.
use Rattle.std.proofs.Common.{◌≡◌, ℕ, ◌+◌, ◌*◌, ◌≤◌, List, [], ◌∷◌, ◌++◌, length, map, refl, sym, ◌∙◌, ap, arith}
use Rattle.std.proofs.lemmas.List.{length-map, map-append}
use Rattle.std.proofs.lemmas.List.Concat.{length-flat_map, flat_map-cons}
use Rattle.std.proofs.lemmas.List.Sums.{sum_by-cons}
use Rattle.std.specs.List.{sum_by, flat_map}
use Rattle.nl_field.specs.declared.pointer.Pointer.{Pointer}
use Rattle.nl_field.specs.declared.pointer.Tag.{Tag}
use Rattle.nl_flight.specs.declared.page.FlightPage.{FlightPage}
use Rattle.nl_flight.specs.Flight.{InFlight, IsFlight, carried, extra, renamed, renamed_line, renamed_page, renamed_pointer}

abbrev held : FlightPage → Tag × Pointer
held page = (page.tag, page.at)

abbrev of_line : InFlight → List (Tag × Pointer)
of_line now = map held now.pages

abbrev count : InFlight → ℕ
count now = length (of_line now)

bounded : (flight : List InFlight) → sum_by count flight ≤ 16 * length flight + sum_by extra flight
bounded [] = omega arith
bounded (now ∷ flight) =
    let many = length-map now.pages held in
    let rest = bounded flight in
    let here = sum_by-cons count now flight in
    let more = sum_by-cons extra now flight in
    omega arith

pub most : (flight : List InFlight) → IsFlight flight → length (carried flight) ≤ 130
unfolding carried
most flight is =
    let all = length-flat_map of_line flight in
    let few = bounded flight in
    let places = is.places in
    let eight = is.eight in
    omega arith

abbrev pub under : (stamp to : ℕ) → Tag × Pointer → Tag × Pointer
under stamp to x = (x.0, renamed_pointer stamp to x.1)

in_line : (stamp to : ℕ) (pages : List FlightPage) → map held (map (renamed_page stamp to) pages) ≡ map (under stamp to) (map held pages)
in_line stamp to [] = refl
in_line stamp to (page ∷ pages) = ap (λ rest. under stamp to (held page) ∷ rest) (in_line stamp to pages)

each : (stamp to : ℕ) (flight : List InFlight) → flat_map of_line (renamed stamp to flight) ≡ map (under stamp to) (flat_map of_line flight)
each stamp to [] = refl
each stamp to (now ∷ flight) =
    flat_map-cons of_line (renamed_line stamp to now) (renamed stamp to flight)
    ∙ ap (λ first. first ++ flat_map of_line (renamed stamp to flight)) (in_line stamp to now.pages)
    ∙ ap (λ rest. map (under stamp to) (of_line now) ++ rest) (each stamp to flight)
    ∙ sym (map-append (under stamp to) (of_line now) (flat_map of_line flight))
    ∙ ap (map (under stamp to)) (sym (flat_map-cons of_line now flight))

pub renames : (stamp to : ℕ) (flight : List InFlight) → carried (renamed stamp to flight) ≡ map (under stamp to) (carried flight)
unfolding carried
renames stamp to flight = each stamp to flight
