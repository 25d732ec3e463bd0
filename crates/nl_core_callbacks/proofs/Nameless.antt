-- Lines in flight and pointers that await their free, of which one has another name.
use Rattle.std.proofs.Common.{◌≡◌, ℕ, ◌==◌, ◌||◌, Bool, true, false, cond, List, [], ◌∷◌, map, refl, ap}
use Rattle.std.proofs.lemmas.Bool.{both_ways}
use Rattle.std.specs.List.{list_any}
use Rattle.nl_field.specs.declared.pointer.Pointer.{Pointer}
use Rattle.nl_flight.specs.Flight.{InFlight, has_stamp, line_has_stamp, renamed, renamed_line, renamed_page, renamed_pointer}
use Rattle.nl_flight.specs.declared.page.FlightPage.{FlightPage}
use Rattle.nl_handler.specs.Handling.{list_has}
use Rattle.nl_core_callbacks.specs.Handled.{nameless, nameless_line}

-- ---- but for names they stay

pub seen-alike : {X Y : Type 0} (f : X → Y) (h : X → X) → ((x : X) → f (h x) ≡ f x) → (xs : List X) → map f (map h xs) ≡ map f xs
seen-alike f h same [] = refl
seen-alike f h same (x ∷ xs) = λ i. same x i ∷ seen-alike f h same xs i

pub flight-nameless : (stamp to : ℕ) (flight : List InFlight) → map nameless_line (renamed stamp to flight) ≡ map nameless_line flight
flight-nameless stamp to flight = seen-alike nameless_line (renamed_line stamp to) line flight
  where
    line : (now : InFlight) → nameless_line (renamed_line stamp to now) ≡ nameless_line now
    line now = ap (λ (pages : List FlightPage). record now { pages = pages }) (seen-alike (λ (page : FlightPage). record page { at = nameless page.at }) (renamed_page stamp to) (λ page. refl) now.pages)

pub freeing-nameless : (stamp to : ℕ) (list : List Pointer) → map nameless (map (renamed_pointer stamp to) list) ≡ map nameless list
freeing-nameless stamp to list = seen-alike nameless (renamed_pointer stamp to) (λ p. refl) list

-- ---- where none has the sequence number they stay

neither : (b d : Bool) → (b || d) ≡ false → (b ≡ false) × (d ≡ false)
neither false d e = (refl, e)
neither true d e = absurd (both_ways true e refl)

unmoved : {X : Type 0} (test : X → Bool) (h : X → X) → ((x : X) → test x ≡ false → h x ≡ x) → (xs : List X) → list_any test xs ≡ false → map h xs ≡ xs
unmoved test h same [] none = refl
unmoved test h same (x ∷ xs) none = let both = neither (test x) (list_any test xs) none in (λ i. same x both.0 i ∷ unmoved test h same xs both.1 i)

pub flight-unmoved : (stamp to : ℕ) (flight : List InFlight) → has_stamp flight stamp ≡ false → renamed stamp to flight ≡ flight
flight-unmoved stamp to flight none = unmoved (line_has_stamp stamp) (renamed_line stamp to) line flight none
  where
    page : (x : FlightPage) → (x.at.stamp == stamp) ≡ false → renamed_page stamp to x ≡ x
    page x off = ap (λ (b : Bool). record x { at = record { name = cond b to x.at.name; stamp = x.at.stamp } }) off

    line : (now : InFlight) → line_has_stamp stamp now ≡ false → renamed_line stamp to now ≡ now
    line now off = ap (λ (pages : List FlightPage). record now { pages = pages }) (unmoved (λ (x : FlightPage). x.at.stamp == stamp) (renamed_page stamp to) page now.pages off)

pub freeing-unmoved : (stamp to : ℕ) (list : List Pointer) → list_has stamp list ≡ false → map (renamed_pointer stamp to) list ≡ list
freeing-unmoved stamp to list none = unmoved (λ (p : Pointer). p.stamp == stamp) (renamed_pointer stamp to) (λ p off. ap (λ (b : Bool). record { name = cond b to p.name; stamp = p.stamp }) off) list none
