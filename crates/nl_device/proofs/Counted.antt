-- How many numbers of a range pass a test, and how many pages are live.
use Rattle.std.proofs.Common.{◌≡◌, ℕ, zero, suc, ◌+◌, ◌<◌, ◌≤◌, Bool, true, false, not, cond, List, [], ◌∷◌, length, get_or, Option, Some, None, is_some, refl, sym, ◌∙◌, ap, arith, ⊎_elim}
use Rattle.std.specs.Prelude.{find}
use Rattle.std.specs.List.{count_by, range_with_len}
use Rattle.std.proofs.lemmas.Bool.{cases_Bool, cases_eq, cond-false, cond-true}
use Rattle.std.proofs.lemmas.List.Sums.{count_by-le-length, sum_by-cons}
use Rattle.std.proofs.lemmas.List.FromFn.{length-range_with_len}
use Rattle.std.proofs.lemmas.Option.{none-some, same_Some}
use Rattle.nl_pseg.specs.declared.held.Held.{Held}
use Rattle.nl_device.specs.Space.{live_in}

abbrev pub bit : Bool → ℕ
bit b = cond b 1 0

count_next : (f : ℕ → Bool) (first n : ℕ) → count_by f (range_with_len first (suc n)) ≡ bit (f first) + count_by f (range_with_len (first + 1) n)
count_next f first n = sum_by-cons (λ x. bit (f x)) first (range_with_len (first + 1) n)

pub count_same : (f g : ℕ → Bool) (first n : ℕ) → ((x : ℕ) → first ≤ x → x < first + n → g x ≡ f x) → count_by g (range_with_len first n) ≡ count_by f (range_with_len first n)
count_same f g first zero same = refl
count_same f g first (suc n) same =
    let here : bit (g first) ≡ bit (f first) = ap bit (same first (omega arith) (omega arith)) in
    let rest = count_same f g (first + 1) n (λ x low high. same x (omega (arith, low)) (omega (arith, high))) in
    omega (arith, count_next f first n, count_next g first n, here, rest)

-- none of the numbers passes
pub count_none : (f : ℕ → Bool) (first n : ℕ) → ((x : ℕ) → f x ≡ false) → count_by f (range_with_len first n) ≡ 0
count_none f first zero none = refl
count_none f first (suc n) none =
    let here : bit (f first) ≡ 0 = ap bit (none first) in
    let rest = count_none f (first + 1) n none in
    omega (arith, count_next f first n, here, rest)

-- what passes one test fails the other
pub count_other : (f g : ℕ → Bool) (first n : ℕ) → ((x : ℕ) → first ≤ x → x < first + n → g x ≡ not (f x)) → count_by g (range_with_len first n) + count_by f (range_with_len first n) ≡ n
count_other f g first zero other = refl
count_other f g first (suc n) other =
    let here : bit (g first) ≡ bit (not (f first)) = ap bit (other first (omega arith) (omega arith)) in
    let one = either (f first) in
    let rest = count_other f g (first + 1) n (λ x low high. other x (omega (arith, low)) (omega (arith, high))) in
    omega (arith, count_next f first n, count_next g first n, here, one, rest)
  where
    either : (b : Bool) → bit (not b) + bit b ≡ 1
    either true = refl
    either false = refl

-- one of the numbers passes no longer
pub count_less : (f g : ℕ → Bool) (first n at : ℕ) → first ≤ at → at < first + n → ((x : ℕ) → (x ≡ at → ⊥) → g x ≡ f x) → g at ≡ false
    → count_by g (range_with_len first n) + bit (f at) ≡ count_by f (range_with_len first n)
count_less f g first zero at low high same gone = absurd (omega (arith, low, high))
count_less f g first (suc n) at low high same gone =
    ⊎_elim
    (λ here.
    let now : bit (g first) ≡ 0 = ap bit (ap g here ∙ gone) in
    let then : bit (f first) ≡ bit (f at) = ap (λ k. bit (f k)) here in
    let rest = count_same f g (first + 1) n (λ x above below. same x (λ e. omega (arith, e, here, above))) in
    omega (arith, count_next f first n, count_next g first n, now, then, rest))
    (λ apart.
    let now : bit (g first) ≡ bit (f first) = ap bit (same first apart) in
    let rest = count_less f g (first + 1) n at (omega (arith, low, apart)) (omega (arith, high)) same gone in
    omega (arith, count_next f first n, count_next g first n, now, rest))
    (cases_eq first at)

count_most : (f : ℕ → Bool) (first n : ℕ) → count_by f (range_with_len first n) ≤ n
count_most f first n = let a = count_by-le-length f (range_with_len first n) in let b = length-range_with_len first n in omega (arith, a, b)

-- one of the numbers does not pass
pub count_all_but : (f : ℕ → Bool) (first n at : ℕ) → first ≤ at → at < first + n → f at ≡ false → count_by f (range_with_len first n) + 1 ≤ n
count_all_but f first zero at low high fails = absurd (omega (arith, low, high))
count_all_but f first (suc n) at low high fails =
    let most = count_most f (first + 1) n in
    ⊎_elim
    (λ here. let none : bit (f first) ≡ 0 = ap bit (ap f here ∙ fails) in omega (arith, count_next f first n, none, most))
    (λ apart. let rest = count_all_but f (first + 1) n at (omega (arith, low, apart)) (omega (arith, high)) fails in let small = bit_most (f first) in omega (arith, count_next f first n, rest, small))
    (cases_eq first at)
  where
    bit_most : (b : Bool) → bit b ≤ 1
    bit_most true = omega arith
    bit_most false = omega arith

-- what is found is a number of the range
pub found_between : (f : ℕ → Bool) (first n at : ℕ) → find f (range_with_len first n) ≡ Some at → (first ≤ at) × (at < first + n)
found_between f first zero at is = absurd (none-some at is)
found_between f first (suc n) at is =
    ⊎_elim
    (λ here. let same : first ≡ at = same_Some first at (sym (cond-true (f first) (Some first) (find f (range_with_len (first + 1) n)) here) ∙ is) in (omega (arith, same), omega (arith, same)))
    (λ other.
    let rest = found_between f (first + 1) n at (sym (cond-false (f first) (Some first) (find f (range_with_len (first + 1) n)) other) ∙ is) in
    (omega (arith, rest.0), omega (arith, rest.1)))
    (cases_Bool (f first))

-- no page is live
pub live_none : (held : List (Option Held)) → ((page : ℕ) → get_or held page None ≡ None) → live_in held ≡ 0
live_none [] none = refl
live_none (o ∷ held) none =
    let here : bit (is_some o) ≡ 0 = ap (λ (x : Option Held). bit (is_some x)) (none zero) in
    let rest = live_none held (λ page. none (suc page)) in
    let e = sum_by-cons (λ (x : Option Held). bit (is_some x)) o held in
    omega (arith, e, here, rest)

-- how many pages are live, as a count of their numbers: there are none before the first
pub live_counts : (f : ℕ → Bool) (held : List (Option Held)) (from first n : ℕ) → length held ≡ first + n → ((k : ℕ) → k < length held → f (from + k) ≡ is_some (get_or held k None)) → ((k : ℕ) → k < first → get_or held k None ≡ None)
    → live_in held ≡ count_by f (range_with_len (from + first) n)
live_counts f [] from first zero long same before = refl
live_counts f [] from first (suc n) long same before = absurd (omega (arith, long))
live_counts f (o ∷ held) from zero zero long same before = absurd (omega (arith, long))
live_counts f (o ∷ held) from zero (suc n) long same before =
    let here : bit (f (from + 0)) ≡ bit (is_some o) = ap bit (same 0 (omega arith)) in
    let rest = live_counts f held (from + 1) 0 n (omega (arith, long)) (λ k within. let e : from + 1 + k ≡ from + suc k = omega arith in ap f e ∙ same (suc k) (omega (arith, within))) (λ k below. absurd (omega (arith, below))) in
    let next = count_next f (from + 0) n in
    let e : count_by f (range_with_len (from + 1 + 0) n) ≡ count_by f (range_with_len (from + 0 + 1) n) = ap (λ m. count_by f (range_with_len m n)) (omega arith) in
    let s = sum_by-cons (λ (x : Option Held). bit (is_some x)) o held in
    omega (arith, here, rest, next, e, s)
live_counts f (o ∷ held) from (suc first) n long same before =
    let none : bit (is_some o) ≡ 0 = ap (λ (x : Option Held). bit (is_some x)) (before 0 (omega arith)) in
    let rest = live_counts f held (from + 1) first n (omega (arith, long)) (λ k within. let e : from + 1 + k ≡ from + suc k = omega arith in ap f e ∙ same (suc k) (omega (arith, within))) (λ k below. before (suc k) (omega (arith, below))) in
    let e : count_by f (range_with_len (from + 1 + first) n) ≡ count_by f (range_with_len (from + suc first) n) = ap (λ m. count_by f (range_with_len m n)) (omega arith) in
    let s = sum_by-cons (λ (x : Option Held). bit (is_some x)) o held in
    omega (arith, none, rest, e, s)
