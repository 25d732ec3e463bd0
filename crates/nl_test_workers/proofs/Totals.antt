-- How many effects a history has, by its seats.
use Rattle.std.proofs.Common.{◌≡◌, ◌==◌, ℕ, zero, suc, ◌+◌, ◌*◌, ◌<◌, Bool, true, false, cond, not, List, [], ◌∷◌, map, replicate, nat_lt, refl, ap, arith, eq-eqb, ne_eqb, lt_of_not-le}
use Rattle.std.proofs.lemmas.Bool.Decides.{nat_tests}
use Rattle.std.proofs.lemmas.List.Sums.{sum_by-cons}
use Rattle.nl_turns.specs.History.{is_effect, effects}
use Rattle.nl_turns.specs.Seat.{Passed, by_seat, entries, NoNumberBeyond}
use Rattle.nl_turns.specs.declared.entry.Entry.{Entry}
use Rattle.nl_test_workers.specs.Work.{entries_of}

-- 1 for an effect, and 0 for another entry
abbrev weight : Entry → ℕ
weight e = cond (is_effect e) 1 0

effects_cons : (e : Entry) (es : List Entry) → effects (e ∷ es) ≡ weight e + effects es
effects_cons e es = sum_by-cons weight e es

one_if : (b : Bool) (p : Passed) (ys : List Passed) → effects (entries (cond b (p ∷ ys) ys)) ≡ cond {A = ℕ} b (weight p.entry) 0 + effects (entries ys)
one_if true p ys = effects_cons p.entry (entries ys)
one_if false p ys = omega arith

of_cons : (n : ℕ) (p : Passed) (xs : List Passed) → effects (entries_of n (p ∷ xs)) ≡ cond {A = ℕ} (p.seat == n) (weight p.entry) 0 + effects (entries_of n xs)
of_cons n p xs = one_if (p.seat == n) p (by_seat n xs)

-- the effects of the seats below n
abbrev pub effects_below : ℕ → List Passed → ℕ
effects_below zero xs = 0
effects_below (suc n) xs = effects_below n xs + effects (entries_of n xs)

one_weight : (m n w : ℕ) → cond {A = ℕ} (nat_lt m n) w 0 + cond {A = ℕ} (m == n) w 0 ≡ cond {A = ℕ} (nat_lt m (n + 1)) w 0
one_weight m n w = grind (arith, nat_tests)

below_cons : (n : ℕ) (p : Passed) (xs : List Passed) → effects_below n (p ∷ xs) ≡ cond {A = ℕ} (nat_lt p.seat n) (weight p.entry) 0 + effects_below n xs
below_cons zero p xs = grind (arith, nat_tests)
below_cons (suc n) p xs =
    let rest = below_cons n p xs in
    let here = of_cons n p xs in
    let one = one_weight p.seat n (weight p.entry) in
    let next : cond {A = ℕ} (nat_lt p.seat (n + 1)) (weight p.entry) 0 ≡ cond {A = ℕ} (nat_lt p.seat (suc n)) (weight p.entry) 0 = ap (λ k. cond {A = ℕ} (nat_lt p.seat k) (weight p.entry) 0) (omega arith) in
    omega arith

-- the number that the first entry has, where none from n on stands in the history
below_next : (n : ℕ) (p : Passed) (xs : List Passed) → NoNumberBeyond n (p ∷ xs) → p.seat < n
below_next n p xs none = lt_of_not-le (λ le. not_empty (p.seat == p.seat) (eq-eqb p.seat p.seat refl) (none p.seat le))
  where
    not_empty : (b : Bool) → b ≡ true → cond b (p ∷ by_seat p.seat xs) (by_seat p.seat xs) ≡ [] → ⊥
    not_empty true so e = absurd (cc e)
    not_empty false so e = absurd (cc so)

none_later : (n : ℕ) (p : Passed) (xs : List Passed) → NoNumberBeyond n (p ∷ xs) → NoNumberBeyond n xs
none_later n p xs none m le = go (p.seat == m) (none m le)
  where
    go : (b : Bool) → cond b (p ∷ by_seat m xs) (by_seat m xs) ≡ [] → by_seat m xs ≡ []
    go true e = absurd (cc e)
    go false e = e

-- where no number from n on stands in the history, all effects are those of the seats below n
all_effects : (n : ℕ) (xs : List Passed) → NoNumberBeyond n xs → effects (entries xs) ≡ effects_below n xs
all_effects n [] none = none_in n
  where
    none_in : (m : ℕ) → 0 ≡ effects_below m []
    none_in zero = refl
    none_in (suc m) = let rest = none_in m in omega arith
all_effects n (p ∷ xs) none =
    let rest = all_effects n xs (none_later n p xs none) in
    let all = effects_cons p.entry (entries xs) in
    let here = below_cons n p xs in
    let counts : cond {A = ℕ} (nat_lt p.seat n) (weight p.entry) 0 ≡ weight p.entry = let b = below_next n p xs none in grind (arith, nat_tests) in
    omega arith

-- so many workers of so many effects each, from seat 1 on
pub workers_effects : (workers times : ℕ) (xs : List Passed) → NoNumberBeyond (workers + 1) xs → by_seat 0 xs ≡ [] → ((i : ℕ) → i < workers → effects (entries_of (1 + i) xs) ≡ times)
    → effects (entries xs) ≡ workers * times
workers_effects workers times xs none zero_is each =
    let all = all_effects (workers + 1) xs none in
    let upto = below workers (λ i h. each i h) in
    omega arith
  where
    below : (w : ℕ) → ((i : ℕ) → i < w → effects (entries_of (1 + i) xs) ≡ times) → effects_below (w + 1) xs ≡ w * times
    below zero each' = let none_own : effects (entries_of 0 xs) ≡ 0 = ap (λ (ps : List Passed). effects (entries ps)) zero_is in omega arith
    below (suc w) each' =
        let rest = below w (λ i h. each' i (omega arith)) in
        let last : effects (entries_of (1 + w) xs) ≡ times = each' w (omega arith) in
        let next : suc w + 1 ≡ suc (w + 1) = omega arith in
        let turned : 1 + w ≡ w + 1 = omega arith in
        let step : effects_below (suc w + 1) xs ≡ effects_below (w + 1) xs + effects (entries_of (w + 1) xs) = ap (λ k. effects_below k xs) next in
        let same : effects (entries_of (1 + w) xs) ≡ effects (entries_of (w + 1) xs) = ap (λ k. effects (entries_of k xs)) turned in
        let product : suc w * times ≡ w * times + times = grind arith in
        omega arith

-- as many effects as lines, where each line is this one
pub effects_of_line : (line times : ℕ) (es : List Entry) → 0 < line → map (λ (e : Entry). e.line) es ≡ replicate times line → effects es ≡ times
effects_of_line line zero [] some e = refl
effects_of_line line (suc times) [] some e = absurd (cc e)
effects_of_line line zero (x ∷ es) some e = absurd (cc e)
effects_of_line line (suc times) (x ∷ es) some e =
    let here : x.line ≡ line = cc e in
    let rest : map (λ (y : Entry). y.line) es ≡ replicate times line = cc e in
    let h = effects_of_line line times es some rest in
    let c = effects_cons x es in
    let w : weight x ≡ 1 = is_one x.line (let l = here in omega arith) in
    omega arith
  where
    is_one : (n : ℕ) → 0 < n → cond {A = ℕ} (not (n == 0)) 1 0 ≡ 1
    is_one zero h = absurd (omega arith)
    is_one (suc n) h = ap (λ (b : Bool). cond {A = ℕ} (not b) 1 0) (ne_eqb (suc n) 0 (λ e. omega arith))
