-- Indexes that follow one another.
use Rattle.std.proofs.Common.{◌≡◌, ℕ, ◌-◌, [], zero, suc, ◌+◌, ◌*◌, ◌≤◌, nat_lt, nat_le, ◌==◌, Bool, true, false, ◌&&◌, ◌||◌, cond, count_by, not, is_some, Option, Some, None, refl, sym, ap, ◌∙◌, arith}
use Rattle.std.specs.List.{list_any, range_with_len}
use Rattle.std.proofs.lemmas.Bool.Decides.{nat_tests}
use Rattle.std.proofs.lemmas.List.Sums.{sum_by-cons}
use Rattle.nl_field.specs.Pointers.{is_none_pointer}
use Rattle.nl_field.specs.declared.pointer.Pointer.{Pointer}
use Rattle.nl_indirect.specs.Ranges.{range_of, some_pointer}

abbrev pub in_range : ℕ → ℕ → Bool
in_range range i = nat_le 8 i && (range_of i == range)

-- the indexes from one on, so many, meet a range
abbrev pub meets : ℕ → ℕ → ℕ → Bool
meets first count range = nat_lt first (264 + 256 * range) && nat_lt (8 + 256 * range) (first + count) && nat_lt 0 count

-- one of them lies in the range
pub some-in-range : (count first range : ℕ) → list_any (in_range range) (range_with_len first count) ≡ meets first count range
some-in-range zero first range = grind (arith, nat_tests)
some-in-range (suc count) first range = ap (λ (b : Bool). in_range range first || b) (some-in-range count (first + 1) range) ∙ grind (arith, nat_tests)

-- and how many have a property, with one more
count-more : (p : ℕ → Bool) (n first : ℕ) → count_by p (range_with_len first (suc n)) ≡ count_by p (range_with_len first n) + cond (p (first + n)) 1 0
count-more p zero first = sum_by-cons (λ x. cond (p x) 1 0) first [] ∙ ap (λ (k : ℕ). cond {A = ℕ} (p k) 1 0 + 0) (let e : first ≡ first + 0 = omega arith in e) ∙ turned (cond (p (first + 0)) 1 0)
  where
    turned : (k : ℕ) → k + 0 ≡ 0 + k
    turned k = omega arith
count-more p (suc n) first =
    sum_by-cons (λ x. cond (p x) 1 0) first (range_with_len (first + 1) (suc n)) ∙ ap (λ (k : ℕ). cond {A = ℕ} (p first) 1 0 + k) (count-more p n (first + 1))
    ∙ turned (cond (p first) 1 0) (count_by p (range_with_len (first + 1) n)) _ (count_by p (range_with_len first (suc n))) (cond (p (first + suc n)) 1 0) (sum_by-cons (λ x. cond (p x) 1 0) first (range_with_len (first + 1) n)) (ap (λ (k : ℕ). cond {A = ℕ} (p k) 1 0) (let e : first + 1 + n ≡ first + suc n = omega arith in e))
  where
    turned : (a b c d e : ℕ) → d ≡ a + b → c ≡ e → a + (b + c) ≡ d + e
    turned a b c d e f h = omega arith

pub count-next : (p : ℕ → Bool) (first k : ℕ) → first ≤ k → count_by p (range_with_len first (k + 1 - first)) ≡ count_by p (range_with_len first (k - first)) + cond (p k) 1 0
count-next p first k low =
    ap (λ (n : ℕ). count_by p (range_with_len first n)) (let e : k + 1 - first ≡ suc (k - first) = omega (arith, low) in e)
    ∙ count-more p (k - first) first ∙ ap (λ (n : ℕ). count_by p (range_with_len first (k - first)) + cond (p n) 1 0) (let e : first + (k - first) ≡ k = omega (arith, low) in e)

pub count-step : (p : ℕ → Bool) (first k n m : ℕ) (b : Bool) → first ≤ k → n ≡ count_by p (range_with_len first (k - first)) → p k ≡ b → m ≡ n + cond b 1 0 → m ≡ count_by p (range_with_len first (k + 1 - first))
count-step p first k n m b low e f g = g ∙ (λ i. e i + cond {A = ℕ} (sym f i) 1 0) ∙ sym (count-next p first k low)

-- a look at a pointer tells whether it is none
pub none-test : (q : Pointer) (b : Bool) (r : Option Pointer) → r ≡ some_pointer q → is_some r ≡ not b → is_none_pointer q ≡ b
none-test q b r e f = by (is_none_pointer q) b (sym f ∙ ap (λ (o : Option Pointer). is_some o) e)
  where
    by : (a b : Bool) → not b ≡ is_some (cond {A = Option Pointer} a None (Some q)) → a ≡ b
    by true true h = refl
    by true false h = cc
    by false true h = cc
    by false false h = refl
