-- The pages of a call are those that it touches, no more than there is a place for.
use Rattle.std.proofs.Common.{◌≡◌, ◌≢◌, ◌⊎◌, inl, inr, ℕ, suc, ◌+◌, ◌-◌, ◌*◌, ◌/◌, ◌<◌, ◌≤◌, true, false, List, [], ◌∷◌, length, sum_by, sym, ap, subst, ◌∙◌, refl, arith}
use Rattle.std.proofs.lemmas.Bool.{and_from, cases_eq, cases_lt, lt-ltb}
use Rattle.std.proofs.lemmas.List.{length-map}
use Rattle.std.proofs.lemmas.List.FromFn.{length-range_with_len}
use Rattle.std.proofs.lemmas.List.Sums.{sum_by-cons}
use Rattle.std.specs.List.{range_with_len}
use Rattle.nl_field.specs.Members.{Has}
use Rattle.nl_field.specs.Numbers.{max_bytes}
use Rattle.nl_tree.specs.CountLaws.{Differ}
use Rattle.nl_tree.specs.declared.call.Call.{Call}
use Rattle.nl_flight.specs.Flight.{HasFlightRoom, InFlight, extra, of_worker}
use Rattle.nl_flight.specs.declared.page.FlightPage.{FlightPage}
use Rattle.nl_meta.proofs.Facts.{EachTwo}
use Rattle.nl_meta.proofs.Lists.{range-member}
use Rattle.nl_spec_image.proofs.Counts.{no_longer}
use Rattle.nl_calls_files.specs.LinePages.{indexes_of}
use Rattle.nl_calls_bytes.specs.InFlight.{AreOfCall, is_flying}
use Rattle.nl_calls_bytes.specs.Ranges.{from_of, is_written, len_of}
use Rattle.nl_calls_bytes.proofs.Flying.{has_flying}
use Rattle.nl_calls_bytes.proofs.Laid.{in-page}

two_of : (ns : List ℕ) → Differ ns → EachTwo (λ a b. a ≢ b) ns
two_of [] d = tt
two_of (n ∷ ns) d = ((λ k has e. d.0 (subst (λ (j : ℕ). Has ns j) (sym e) has)), two_of ns d.1)

none_extra : (flight : List InFlight) → ((w : ℕ) → length (of_worker flight w).pages ≤ 16) → sum_by extra flight ≡ 0
none_extra [] few = refl
none_extra (x ∷ flight) few =
    let s = sum_by-cons extra x flight in
    let here = few 0 in
    let rest = none_extra flight (λ w. few (suc w)) in
    omega (arith, s, here, rest)

pub in_range : (call : Call) (i : ℕ) → 0 < len_of call → from_of call / 4096 ≤ i → i < (from_of call + len_of call - 1) / 4096 + 1 → is_written call i ≡ true
in_range call i some low high =
    and_from _ _ (and_from _ _ (lt-ltb 0 (len_of call) some) (lt-ltb (4096 * i) (from_of call + len_of call) (omega (arith, some, low, high)))) (lt-ltb (from_of call) (4096 * i + 4096) (omega (arith, low)))

-- of the pages of a call, each at an index of its own, there are no more than it touches
pub index_in_range : (call : Call) (i : ℕ) → is_written call i ≡ true → (from_of call / 4096 ≤ i) × (i < from_of call / 4096 + ((from_of call + len_of call - 1) / 4096 + 1 - from_of call / 4096))
index_in_range call i is = let p = in-page i (from_of call) (len_of call) is in (omega (arith, p), omega (arith, p))

module _ (n generation : ℕ) (call : Call) (pages : List FlightPage) (are : AreOfCall n generation call pages) where
  pub flying_written : (i : ℕ) → Has (indexes_of pages) i → is_written call i ≡ true
  flying_written i has = by pages are has
    where
      by : (ps : List FlightPage) → AreOfCall n generation call ps → Has (indexes_of ps) i → is_written call i ≡ true
      by [] a none = absurd none
      by (x ∷ ps) a (inl e) = subst (λ (j : ℕ). is_written call j ≡ true) e (a.written 0 x refl)
      by (x ∷ ps) a (inr rest) = by ps (record { tag = λ k p at. a.tag (suc k) p at; written = λ k p at. a.written (suc k) p at; stamp = λ k p at. a.stamp (suc k) p at; differ = a.differ.1 }) rest

  pub has_place : (flight : List InFlight) (worker i : ℕ) → (of_worker flight worker).pages ≡ pages → is_flying pages i ≡ false → is_written call i ≡ true → len_of call ≤ max_bytes
      → ((w : ℕ) → w ≢ worker → length (of_worker flight w).pages ≤ 16) → HasFlightRoom flight worker
  has_place flight worker i own far written few others =
      by (cases_lt (length (of_worker flight worker).pages) 16)
    where
      from : ℕ
      from = from_of call

      count : ℕ
      count = (from_of call + len_of call - 1) / 4096 + 1 - from_of call / 4096

      absent : Has (indexes_of pages) i → ⊥
      absent has = by_flying pages has far
        where
          by_flying : (ps : List FlightPage) → Has (indexes_of ps) i → is_flying ps i ≡ false → ⊥
          by_flying ps has off = absurd (cc (sym (has_flying ps i has) ∙ off))

      within : (j : ℕ) → Has (i ∷ indexes_of pages) j → Has (range_with_len (from_of call / 4096) count) j
      within j (inl e) = let r = index_in_range call j (subst (λ (k : ℕ). is_written call k ≡ true) e written) in range-member j (from_of call / 4096) count r.0 r.1
      within j (inr has) = let r = index_in_range call j (flying_written j has) in range-member j (from_of call / 4096) count r.0 r.1

      longest : length pages + 1 ≤ 17
      longest =
          let all = no_longer (i ∷ indexes_of pages) (range_with_len (from_of call / 4096) count) (two_of (i ∷ indexes_of pages) (absent, are.differ)) within in
          let size = length-range_with_len (from_of call / 4096) count in
          let own_size = length-map pages (λ (x : FlightPage). x.index) in
          omega (arith, all, size, own_size, few)

      same : length (of_worker flight worker).pages ≡ length pages
      same = ap length own

      each : (w : ℕ) → (w ≡ worker) ⊎ (w ≢ worker) → length (of_worker flight w).pages ≤ 16
      each w (inl e) = let l = longest in let s = same in let here = ap (λ (k : ℕ). length (of_worker flight k).pages) e in omega (arith, l, s, here)
      each w (inr off) = others w off

      by : (length (of_worker flight worker).pages < 16) ⊎ (16 ≤ length (of_worker flight worker).pages) → HasFlightRoom flight worker
      by (inl low) = inl low
      by (inr high) = inr (let none = none_extra flight (λ w. each w (cases_eq w worker)) in omega (arith, none))

-- ---- from index to index

pub few_left : (from len index : ℕ) → 0 < len → len ≤ max_bytes → index < (from + len - 1) / 4096 + 1 → index - from / 4096 ≤ 16
few_left from len index some few low = omega (arith, some, few, low)

pub few_turns : (from len index : ℕ) → 0 < len → len ≤ max_bytes → index ≤ (from + len - 1) / 4096 + 1 → index - from / 4096 ≤ 17
few_turns from len index some few low = omega (arith, some, few, low)
