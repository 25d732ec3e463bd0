-- The line of a worker that keeps the number of a failure.
use Rattle.std.proofs.Common.{set-set, ◌≡◌, ◌≢◌, ℕ, ◌<◌, cond, List, length, sym, ap, ◌∙◌, eq-eqb, ne_eqb}
use Rattle.std.proofs.lemmas.List.{get_or-set_same}
use Rattle.nl_flight.specs.Flight.{InFlight, begun, of_worker, with_line}
use Rattle.nl_core.specs.Programming.{line_of}

line_none : (f : List InFlight) (worker line : ℕ) → (of_worker f worker).line ≡ 0 → line_of f worker line ≡ begun line
line_none f worker line none = ap (λ b. cond b (begun line) (of_worker f worker)) (eq-eqb (of_worker f worker).line 0 none)

own_with : (flight : List InFlight) (worker : ℕ) (now : InFlight) → worker < length flight → of_worker (with_line flight worker now) worker ≡ now
own_with flight worker now known = get_or-set_same flight worker now (begun 0) known

pub kept_new : (f : List InFlight) (worker line sum : ℕ) → worker < length f → (of_worker f worker).line ≡ 0
    → with_line (with_line f worker (begun line)) worker (record (of_worker (with_line f worker (begun line)) worker) { fault = sum }) ≡ with_line f worker (record (line_of f worker line) { fault = sum })
kept_new f worker line sum known none =
    set-set f worker (begun line) _
    ∙ ap (λ (x : InFlight). with_line f worker (record x { fault = sum })) (own_with f worker (begun line) known ∙ sym (line_none f worker line none))

pub kept_old : (f : List InFlight) (worker line sum : ℕ) → (of_worker f worker).line ≢ 0
    → with_line f worker (record (of_worker f worker) { fault = sum }) ≡ with_line f worker (record (line_of f worker line) { fault = sum })
kept_old f worker line sum some = ap (λ (x : InFlight). with_line f worker (record x { fault = sum })) (sym (ap (λ b. cond b (begun line) (of_worker f worker)) (ne_eqb (of_worker f worker).line 0 some)))
