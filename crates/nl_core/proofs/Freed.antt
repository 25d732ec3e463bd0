-- The pages of a line are freed place by place, and the first of those that await their free.
use Rattle.std.proofs.Common.{◌≡◌, ⊎_elim, ℕ, ◌+◌, ◌<◌, List, [], ◌∷◌, ◌++◌, length, take, drop, sym, ap, subst, ◌∙◌, arith}
use Rattle.std.specs.Prelude.{min}
use Rattle.std.proofs.lemmas.Bool.{cases_lt}
use Rattle.std.proofs.lemmas.List.{drop_all, length-map, take_all, take_more}
use Rattle.std.proofs.lemmas.List.Sums.{get_or-le-sum_by}
use Rattle.std.proofs.lemmas.Option.{get_or_from_slice_get, slice_get_within}
use Rattle.nl_field.specs.declared.pointer.Pointer.{Pointer}
use Rattle.nl_flight.specs.Flight.{InFlight, IsFlight, begun, extra, of_worker}
use Rattle.nl_flight.specs.declared.page.FlightPage.{FlightPage}
use Rattle.nl_iface.specs.Names.{Names}
use Rattle.nl_journal_commit.proofs.Frees.{frees_last}
use Rattle.nl_journal_commit.specs.Freeing.{FreesEach}
use Rattle.nl_core.specs.Dropping.{FreesAt, pointers_of}
use Rattle.nl_core.proofs.Lines.{in_flight}

pub frees_at : (ps : List Pointer) (i : ℕ) (s m t : Names) → FreesEach (take i ps) s m → FreesAt ps i m t → FreesEach (take (i + 1) ps) s t
frees_at ps i s m t freed = ⊎_elim
    (λ past. let low = past.0 in
    subst (λ (xs : List Pointer). FreesEach xs s t) (take_all i ps low ∙ sym (take_all (i + 1) ps (omega (arith, low)))) (subst (λ (n : Names). FreesEach (take i ps) s n) (sym past.1) freed))
    (λ at. let last : take (i + 1) ps ≡ take i ps ++ at.0 ∷ [] =
    take_more ps i at.0 (slice_get_within ps i at.0 at.1) ∙ ap (λ (x : Pointer). take i ps ++ x ∷ []) (get_or_from_slice_get ps i at.0 at.0 at.1) in
    subst (λ (xs : List Pointer). FreesEach xs s t) (sym last) (frees_last (take i ps) at.0 s m t freed at.2))

-- a line has eighteen pages at most
pub all_freed : (flight : List InFlight) (worker : ℕ) → IsFlight flight → worker < 8 → (s t : Names) → FreesEach (take 18 (pointers_of (of_worker flight worker))) s t → FreesEach (pointers_of (of_worker flight worker)) s t
all_freed flight worker is known s t freed =
    let ps = pointers_of (of_worker flight worker) in
    let size = length-map (of_worker flight worker).pages (λ (page : FlightPage). page.at) in
    let more = get_or-le-sum_by extra flight worker (begun 0) (in_flight flight worker is known) in
    let most = is.places in
    subst (λ (xs : List Pointer). FreesEach xs s t) (take_all 18 ps (omega (arith, size, more, most))) freed

-- with no more than there are
pub drop_min : (n : ℕ) (xs : List Pointer) → drop (min n (length xs)) xs ≡ drop n xs
drop_min n xs = ⊎_elim
    (λ within. ap (λ k. drop k xs) (let e : min n (length xs) ≡ n = omega (arith, within) in e))
    (λ past. ap (λ k. drop k xs) (let e : min n (length xs) ≡ length xs = omega (arith, past) in e) ∙ drop_all (length xs) xs (omega arith) ∙ sym (drop_all n xs past))
    (cases_lt n (length xs))
