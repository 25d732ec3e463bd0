-- A worker's line but for the names of its pages, one with one more page behind them, and one that was dropped.
use Rattle.std.proofs.Common.{◌≡◌, ◌≢◌, ◌⊎◌, inl, inr, ℕ, zero, suc, ◌<◌, ◌==◌, List, [], ◌∷◌, ◌++◌, length, map, refl, sym, ap, ◌∙◌}
use Rattle.std.proofs.lemmas.Bool.{cases_eq, cond-false, cond-true, eq-eqb, ne_eqb}
use Rattle.std.proofs.lemmas.List.{get_or-set_other, length-map}
use Rattle.nl_field.specs.declared.pointer.Pointer.{Pointer}
use Rattle.nl_field.specs.declared.pointer.Tag.{Tag}
use Rattle.nl_core_callbacks.specs.Handled.{nameless_line}
use Rattle.nl_flight.specs.Flight.{InFlight, IsFlight, begun, of_worker, with_line}
use Rattle.nl_flight.specs.declared.page.FlightPage.{FlightPage}
use Rattle.nl_core.specs.Programming.{HasLineOrNone, behind, line_of, with_page}
use Rattle.nl_core.proofs.Lines.{in_flight, own_with}
use Rattle.nl_calls_files.proofs.LinePages.{bare}

lines_at : (a : List InFlight) (w : ℕ) → of_worker (map nameless_line a) w ≡ nameless_line (of_worker a w)
lines_at [] w = refl
lines_at (x ∷ a) zero = refl
lines_at (x ∷ a) (suc w) = lines_at a w

pub same_line : (a b : List InFlight) → map nameless_line a ≡ map nameless_line b → (w : ℕ) → nameless_line (of_worker a w) ≡ nameless_line (of_worker b w)
same_line a b e w = sym (lines_at a w) ∙ ap (λ (xs : List InFlight). of_worker xs w) e ∙ lines_at b w

pub same_pages : (x y : InFlight) → nameless_line x ≡ nameless_line y → map bare x.pages ≡ map bare y.pages
same_pages x y e = ap (λ (l : InFlight). l.pages) e

pub same_count : (x y : InFlight) → nameless_line x ≡ nameless_line y → length x.pages ≡ length y.pages
same_count x y e = sym (length-map x.pages bare) ∙ ap length (same_pages x y e) ∙ length-map y.pages bare

-- ---- a worker's line with one more

module _ (flight : List InFlight) (worker line : ℕ) (tag : Tag) (at : Pointer) (is : IsFlight flight) (known : worker < 8) where
  own : of_worker (with_page flight worker line tag at) worker ≡ behind (line_of flight worker line) tag at
  own = own_with flight worker (in_flight flight worker is known) (behind (line_of flight worker line) tag at)

  own_pages : (line_of flight worker line).pages ≡ (of_worker flight worker).pages
  own_pages = by (cases_eq (of_worker flight worker).line 0)
    where
      by : ((of_worker flight worker).line ≡ 0) ⊎ ((of_worker flight worker).line ≢ 0) → (line_of flight worker line).pages ≡ (of_worker flight worker).pages
      by (inl none) =
          ap (λ (y : InFlight). y.pages) (cond-true ((of_worker flight worker).line == 0) (begun line) (of_worker flight worker) (eq-eqb (of_worker flight worker).line 0 none)) ∙ sym (is.idle worker none).0
      by (inr has) = ap (λ (y : InFlight). y.pages) (cond-false ((of_worker flight worker).line == 0) (begun line) (of_worker flight worker) (ne_eqb (of_worker flight worker).line 0 has))

  pub pages_put : (of_worker (with_page flight worker line tag at) worker).pages ≡ (of_worker flight worker).pages ++ record { index = tag.index; at = at; tag = tag } ∷ []
  pages_put = ap (λ (y : InFlight). y.pages) own ∙ ap (λ (ps : List FlightPage). ps ++ record { index = tag.index; at = at; tag = tag } ∷ []) own_pages

  pub others_put : (w : ℕ) → w ≢ worker → of_worker (with_page flight worker line tag at) w ≡ of_worker flight w
  others_put w far = get_or-set_other flight worker w (behind (line_of flight worker line) tag at) (begun 0) far

  pub line_put : HasLineOrNone flight worker line → HasLineOrNone (with_page flight worker line tag at) worker line
  line_put h = by h (cases_eq (of_worker flight worker).line 0)
    where
      by : HasLineOrNone flight worker line → ((of_worker flight worker).line ≡ 0) ⊎ ((of_worker flight worker).line ≢ 0) → HasLineOrNone (with_page flight worker line tag at) worker line
      by h (inl none) =
          inr (ap (λ (y : InFlight). y.line) own ∙ ap (λ (y : InFlight). y.line) (cond-true ((of_worker flight worker).line == 0) (begun line) (of_worker flight worker) (eq-eqb (of_worker flight worker).line 0 none)))
      by (inl none) (inr has) = absurd (has none)
      by (inr own_line) (inr has) =
          inr (ap (λ (y : InFlight). y.line) own ∙ ap (λ (y : InFlight). y.line) (cond-false ((of_worker flight worker).line == 0) (begun line) (of_worker flight worker) (ne_eqb (of_worker flight worker).line 0 has)) ∙ own_line)

pub line_same : (a b : List InFlight) (worker line : ℕ) → map nameless_line a ≡ map nameless_line b → HasLineOrNone b worker line → HasLineOrNone a worker line
line_same a b worker line e h = by h
  where
    same : (of_worker a worker).line ≡ (of_worker b worker).line
    same = ap (λ (y : InFlight). y.line) (same_line a b e worker)

    by : HasLineOrNone b worker line → HasLineOrNone a worker line
    by (inl none) = inl (same ∙ none)
    by (inr is) = inr (same ∙ is)

-- a line that was dropped
module _ (flight : List InFlight) (worker : ℕ) (is : IsFlight flight) (known : worker < 8) where
  pub own_dropped : of_worker (with_line flight worker (begun 0)) worker ≡ begun 0
  own_dropped = own_with flight worker (in_flight flight worker is known) (begun 0)

  pub others_dropped : (w : ℕ) → w ≢ worker → of_worker (with_line flight worker (begun 0)) w ≡ of_worker flight w
  others_dropped w far = get_or-set_other flight worker w (begun 0) (begun 0) far
