-- Pages under other names are as many, of the same lines.
use Rattle.std.proofs.Common.{◌≡◌, ℕ, ◌+◌, ◌-◌, ◌≤◌, List, [], ◌∷◌, map, refl, sym, ◌∙◌, ap, subst}
use Rattle.std.proofs.Math.ListN.{get_or-map}
use Rattle.std.proofs.lemmas.List.{length-map}
use Rattle.std.proofs.lemmas.List.Sums.{sum_by-cons}
use Rattle.std.specs.List.{sum_by}
use Rattle.nl_flight.specs.Flight.{InFlight, IsFlight, begun, extra, of_worker, renamed, renamed_line, renamed_page}

sums : (stamp to : ℕ) (flight : List InFlight) → sum_by extra (renamed stamp to flight) ≡ sum_by extra flight
sums stamp to [] = refl
sums stamp to (now ∷ flight) =
    sum_by-cons extra (renamed_line stamp to now) (renamed stamp to flight)
    ∙ ap (λ n. (n - 16) + sum_by extra (renamed stamp to flight)) (length-map now.pages (renamed_page stamp to))
    ∙ ap (λ n. extra now + n) (sums stamp to flight)
    ∙ sym (sum_by-cons extra now flight)

of_same : (stamp to : ℕ) (flight : List InFlight) (worker : ℕ) → of_worker (renamed stamp to flight) worker ≡ renamed_line stamp to (of_worker flight worker)
of_same stamp to flight worker = get_or-map (renamed_line stamp to) flight worker (begun 0)

pub still : (stamp to : ℕ) (flight : List InFlight) → IsFlight flight → IsFlight (renamed stamp to flight)
still stamp to flight is = record {
  eight = length-map flight (renamed_line stamp to) ∙ is.eight;
  places = subst (λ n. n ≤ 2) (sym (sums stamp to flight)) is.places;
  idle = λ worker none.
      let at = of_same stamp to flight worker in
      let was = is.idle worker (sym (ap (λ (now : InFlight). now.line) at) ∙ none) in
      (ap (λ (now : InFlight). now.pages) at ∙ ap (map (renamed_page stamp to)) was.0, ap (λ (now : InFlight). now.goal) at ∙ was.1);
}
