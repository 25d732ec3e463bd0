-- A worker's line ends, and those of others stay.
use Rattle.std.proofs.Common.{◌≡◌, ℕ, ◌<◌, List, [], ◌∷◌, length, map, refl, sym, ap, ◌∙◌}
use Rattle.std.proofs.Math.ListN.{get_or, get_or-map}
use Rattle.std.proofs.lemmas.List.{get_or-set_other, get_or-set_same}
use Rattle.nl_core_callbacks.specs.Handled.{nameless_line}
use Rattle.nl_flight.specs.Flight.{InFlight, begun, of_worker, with_line}
use Rattle.nl_calls_steps.specs.Calls.{OtherLinesStay}
use Rattle.nl_calls.specs.Answering.{EndsLine}

nil_of : {X Y : Type 0} (f : X → Y) (xs : List X) → map f xs ≡ [] → xs ≡ []
nil_of f [] e = refl
nil_of f (x ∷ xs) e = cc e

-- lines that are alike but for names of pages
pub line_alike : (u v : List InFlight) (worker : ℕ) → map nameless_line v ≡ map nameless_line u → nameless_line (of_worker v worker) ≡ nameless_line (of_worker u worker)
line_alike u v worker same =
    sym (get_or-map nameless_line v worker (begun 0)) ∙ (ap (λ xs. get_or xs worker (begun 0)) same ∙ get_or-map nameless_line u worker (begun 0))

-- a line without pages has no names
idle_alike : (x : InFlight) → nameless_line x ≡ begun 0 → x ≡ begun 0
idle_alike x e =
    let line = ap (λ (y : InFlight). y.line) e in
    let fault = ap (λ (y : InFlight). y.fault) e in
    let goal = ap (λ (y : InFlight). y.goal) e in
    let pages = nil_of _ x.pages (ap (λ (y : InFlight). y.pages) e) in
    λ i. record { line = line i; fault = fault i; goal = goal i; pages = pages i }

module _ (worker : ℕ) (u v : List InFlight) where
  pub ends_alike : map nameless_line v ≡ map nameless_line u → of_worker u worker ≡ begun 0 → EndsLine worker u v
  ends_alike same idle = record { idle = idle_alike (of_worker v worker) (line_alike u v worker same ∙ ap nameless_line idle); others = λ w far. line_alike u v w same }

  pub ends_same : v ≡ u → of_worker u worker ≡ begun 0 → EndsLine worker u v
  ends_same same = ends_alike (ap (λ (f : List InFlight). map nameless_line f) same)

  pub ends_dropped : worker < length u → v ≡ with_line u worker (begun 0) → EndsLine worker u v
  ends_dropped known is = record {
    idle = ap (λ (f : List InFlight). of_worker f worker) is ∙ get_or-set_same u worker (begun 0) (begun 0) known;
    others = λ w far. ap (λ (f : List InFlight). nameless_line (of_worker f w)) is ∙ ap nameless_line (get_or-set_other u worker w (begun 0) (begun 0) far);
  }

  pub ends_then : (w : List InFlight) → OtherLinesStay worker u v → EndsLine worker v w → EndsLine worker u w
  ends_then w one two = record { idle = two.idle; others = λ x far. two.others x far ∙ one x far }
