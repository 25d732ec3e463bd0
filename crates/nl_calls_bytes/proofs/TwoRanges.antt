-- Indexes that follow one another lie in two ranges at most.
use Rattle.std.proofs.Common.{◌≡◌, ◌≢◌, ℕ, zero, suc, ◌+◌, ◌-◌, ◌*◌, ◌/◌, ◌<◌, ◌≤◌, ◌==◌, nat_lt, Bool, true, false, ◌||◌, ◌&&◌, cond, List, [], ◌∷◌, count_by, refl, sym, ap, subst, ◌∙◌, ◌⊎◌, inl, inr, arith}
use Rattle.std.specs.List.{list_any, range_with_len}
use Rattle.std.specs.Prelude.{slice_index}
use Rattle.std.proofs.lemmas.Bool.{and_parts, cases_eq, eq-eqb, ltb-true, ne_eqb}
use Rattle.std.proofs.lemmas.List.Sums.{sum_by-cons}
use Rattle.nl_field.specs.declared.inode.InodeRec.{InodeRec}
use Rattle.nl_meta.specs.Nodes.{slots_of}
use Rattle.nl_calls_files.specs.LineNeeds.{gets_page, new_ranges}
use Rattle.nl_calls_files.proofs.Counts.{no_more}
use Rattle.nl_calls_bytes.proofs.Counted.{count_none, count_same}
use Rattle.nl_calls_bytes.proofs.Spans.{in_range, some-in-range}

abbrev is_one_of : ℕ → ℕ → ℕ → Bool
is_one_of a b r = (r == a) || (r == b)

either : (a b : ℕ) (rs : List ℕ) → count_by (is_one_of a b) rs ≤ count_by (λ r. r == a) rs + count_by (λ r. r == b) rs
either a b [] = omega arith
either a b (r ∷ rs) =
    let x = sum_by-cons (λ r. cond (is_one_of a b r) 1 0) r rs in
    let y = sum_by-cons (λ r. cond (r == a) 1 0) r rs in
    let z = sum_by-cons (λ r. cond (r == b) 1 0) r rs in
    let here = bits (r == a) (r == b) in
    let rest = either a b rs in
    omega (arith, x, y, z, here, rest)
  where
    bits : (p q : Bool) → cond {A = ℕ} (p || q) 1 0 ≤ cond p 1 0 + cond q 1 0
    bits true q = omega arith
    bits false q = omega arith

none-left : (a n first : ℕ) → a < first → count_by (λ r. r == a) (range_with_len first n) ≡ 0
none-left a n first low =
    count_same (λ r. false) (λ r. r == a) first n (λ r from below. ne_eqb r a (λ e. omega (arith, e, low, from)))
    ∙ count_none (λ r. false) first n (λ r. refl)

once : (a n first : ℕ) → count_by (λ r. r == a) (range_with_len first n) ≤ 1
once a zero first = omega arith
once a (suc n) first = by (cases_eq first a) (sum_by-cons (λ r. cond (r == a) 1 0) first (range_with_len (first + 1) n)) (once a n (first + 1))
  where
    by : (first ≡ a) ⊎ (first ≢ a) → count_by (λ r. r == a) (range_with_len first (suc n)) ≡ cond (first == a) 1 0 + count_by (λ r. r == a) (range_with_len (first + 1) n) → count_by (λ r. r == a) (range_with_len (first + 1) n) ≤ 1
        → count_by (λ r. r == a) (range_with_len first (suc n)) ≤ 1
    by (inl e) more rest =
        let here = ap (λ (b : Bool). cond {A = ℕ} b 1 0) (eq-eqb first a e) in
        let none = none-left a n (first + 1) (omega (arith, e)) in
        omega (arith, more, here, none)
    by (inr far) more rest = let here = ap (λ (b : Bool). cond {A = ℕ} b 1 0) (ne_eqb first a far) in omega (arith, more, here, rest)

few-ranges : (rec : InodeRec) (first count : ℕ) → count ≤ 17 → new_ranges rec (range_with_len first count) ≤ 2
few-ranges rec first count few =
    let all = no_more (gets_page rec (range_with_len first count)) (is_one_of ((first - 8) / 256) ((first + 8) / 256)) lies (range_with_len 0 16) in
    let two = either ((first - 8) / 256) ((first + 8) / 256) (range_with_len 0 16) in
    let one = once ((first - 8) / 256) 16 0 in
    let other = once ((first + 8) / 256) 16 0 in
    omega (arith, all, two, one, other)
  where
    which : (r : ℕ) → first < 264 + 256 * r → 8 + 256 * r < first + count → (r ≡ (first - 8) / 256) ⊎ (r ≢ (first - 8) / 256) → is_one_of ((first - 8) / 256) ((first + 8) / 256) r ≡ true
    which r low high (inl e) = ap (λ (b : Bool). b || (r == (first + 8) / 256)) (eq-eqb r ((first - 8) / 256) e)
    which r low high (inr far) =
        ap (λ (b : Bool). b || (r == (first + 8) / 256)) (ne_eqb r ((first - 8) / 256) far)
        ∙ eq-eqb r ((first + 8) / 256) (omega (arith, few, low, high, far))

    lies : (r : ℕ) → gets_page rec (range_with_len first count) r ≡ true → is_one_of ((first - 8) / 256) ((first + 8) / 256) r ≡ true
    lies r gets =
        let lain = sym (some-in-range count first r) ∙ (and_parts (slice_index (slots_of rec) r == 0) (list_any (in_range r) (range_with_len first count)) gets).1 in
        let both = (and_parts (nat_lt first (264 + 256 * r) && nat_lt (8 + 256 * r) (first + count)) (nat_lt 0 count) lain).0 in
        let met = and_parts (nat_lt first (264 + 256 * r)) (nat_lt (8 + 256 * r) (first + count)) both in
        which r (ltb-true first (264 + 256 * r) met.0) (ltb-true (8 + 256 * r) (first + count) met.1) (cases_eq r ((first - 8) / 256))

pub few-counted : (rec : InodeRec) (first count n : ℕ) → count ≤ 17 → n ≡ new_ranges rec (range_with_len first count) → n ≤ 2
few-counted rec first count n few is = subst (λ (k : ℕ). k ≤ 2) (sym is) (few-ranges rec first count few)
