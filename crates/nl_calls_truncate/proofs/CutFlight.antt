-- One page of a worker alone in flight.
use Rattle.std.proofs.Common.{◌≡◌, inl, inr, ℕ, ◌+◌, ◌<◌, List, [], ◌∷◌, ◌++◌, length, map, refl, sym, ap, subst, ◌∙◌, arith}
use Rattle.std.proofs.lemmas.List.{length-append, length-map}
use Rattle.nl_field.specs.declared.pointer.Pointer.{Pointer}
use Rattle.nl_field.specs.declared.pointer.Tag.{Tag}
use Rattle.nl_core_callbacks.specs.Handled.{nameless_line}
use Rattle.nl_flight.specs.Flight.{InFlight, IsFlight, begun, carried, of_worker, with_line}
use Rattle.nl_flight.specs.declared.page.FlightPage.{FlightPage}
use Rattle.nl_iface.specs.Names.{Has}
use Rattle.nl_core.specs.Programming.{with_page}
use Rattle.nl_core.proofs.Lines.{after, before, carried_own, carried_with, held, of_line}
use Rattle.nl_calls_steps.specs.Calls.{OtherLinesStay}
use Rattle.nl_calls_files.proofs.LinePages.{bare}
use Rattle.nl_calls_steps.proofs.WorkerLines.{others_put, pages_put, same_line, same_pages}

-- ---- the page that a worker without a line has in flight after one was put

pub record IsOnePage (flight : List InFlight) (worker : ℕ) (tag : Tag) (stamp : ℕ) : Type 0 where
  pub page : FlightPage
  pub alone : (of_worker flight worker).pages ≡ page ∷ []
  pub index : page.index ≡ tag.index
  pub tagged : page.tag ≡ tag
  pub stamped : page.at.stamp ≡ stamp

one_of : (flight : List InFlight) (worker : ℕ) (tag : Tag) (at : Pointer) (pages : List FlightPage) → (of_worker flight worker).pages ≡ pages
    → map bare pages ≡ bare (record { index = tag.index; at = at; tag = tag }) ∷ [] → IsOnePage flight worker tag at.stamp
one_of flight worker tag at [] is e = absurd (cc e)
one_of flight worker tag at (page ∷ []) is e =
    let same : bare page ≡ bare (record { index = tag.index; at = at; tag = tag }) = cc e in
    record {
      page = page;
      alone = is;
      index = ap (λ (p : FlightPage). p.index) same;
      tagged = ap (λ (p : FlightPage). p.tag) same;
      stamped = ap (λ (p : FlightPage). p.at.stamp) same;
    }
one_of flight worker tag at (page ∷ other ∷ pages) is e = absurd (cc e)

module _ (old new : List InFlight) (worker line : ℕ) (tag : Tag) (at : Pointer) (is : IsFlight old) (known : worker < 8) (same : map nameless_line new ≡ map nameless_line (with_page old worker line tag at)) where
  pub one_page : of_worker old worker ≡ begun 0 → IsOnePage new worker tag at.stamp
  one_page none = one_of new worker tag at (of_worker new worker).pages refl
      (same_pages (of_worker new worker) (of_worker (with_page old worker line tag at) worker) (same_line new (with_page old worker line tag at) same worker)
      ∙ ap (λ (pages : List FlightPage). map bare pages) (pages_put old worker line tag at is known ∙ ap (λ (x : InFlight). x.pages ++ record { index = tag.index; at = at; tag = tag } ∷ []) none))

  pub others_page : OtherLinesStay worker old new
  others_page w far = same_line new (with_page old worker line tag at) same w ∙ ap nameless_line (others_put old worker line tag at is known w far)

-- ---- pages in flight

has_behind : {X : Type 0} (xs ys : List X) (x : X) → Has ys x → Has (xs ++ ys) x
has_behind [] ys x has = has
has_behind (z ∷ xs) ys x has = inr (has_behind xs ys x has)

module _ (flight : List InFlight) (worker : ℕ) (known : worker < length flight) where
  pub page_carried : (page : FlightPage) → (of_worker flight worker).pages ≡ page ∷ [] → Has (carried flight) (page.tag, page.at)
  page_carried page is =
      subst (λ (xs : List (Tag × Pointer)). Has xs (page.tag, page.at)) (sym (carried_own flight worker known))
      (has_behind (before flight worker known) (of_line (of_worker flight worker) ++ after flight worker known) (page.tag, page.at)
      (subst (λ (pages : List FlightPage). Has (map held pages ++ after flight worker known) (page.tag, page.at)) (sym is) (inl refl)))

  -- without a line, as many fewer are in flight as it had
  pub carried_less : length (carried (with_line flight worker (begun 0))) + length (of_worker flight worker).pages ≡ length (carried flight)
  carried_less =
      let a = ap length (carried_with flight worker known (begun 0)) ∙ length-append (before flight worker known) (after flight worker known) in
      let b = ap length (carried_own flight worker known) ∙ length-append (before flight worker known) (of_line (of_worker flight worker) ++ after flight worker known) in
      let c = length-append (of_line (of_worker flight worker)) (after flight worker known) in
      let d = length-map (of_worker flight worker).pages held in
      omega (arith, a, b, c, d)
