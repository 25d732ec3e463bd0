-- Lines in flight that are alike but for names of pages.
use Rattle.std.proofs.Common.{◌≡◌, ℕ, ◌&&◌, Bool, true, false, List, map, refl, sym, ap, ◌∙◌}
use Rattle.std.proofs.Math.ListN.{get_or, get_or-map}
use Rattle.nl_core_callbacks.specs.Handled.{nameless_line}
use Rattle.nl_flight.specs.Flight.{InFlight, begun, of_worker}

pub line_alike : (u v : List InFlight) (worker : ℕ) → map nameless_line v ≡ map nameless_line u → nameless_line (of_worker v worker) ≡ nameless_line (of_worker u worker)
line_alike u v worker same =
    sym (get_or-map nameless_line v worker (begun 0)) ∙ (ap (λ xs. get_or xs worker (begun 0)) same ∙ get_or-map nameless_line u worker (begun 0))

pub and_false : (b : Bool) → (b && false) ≡ false
and_false true = refl
and_false false = refl
