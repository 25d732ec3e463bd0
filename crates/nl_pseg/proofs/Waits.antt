-- Which blocks wait.
use Rattle.std.proofs.Common.{◌≡◌, ⊎_elim, ℕ, suc, ◌+◌, ◌-◌, ◌≤◌, ◌&&◌, ◌||◌, not, Bool, true, false, cond, List, [], ◌∷◌, get_or, count_by, refl, sym, ◌∙◌, ap, arith}
use Rattle.std.proofs.lemmas.Bool.{cases_Bool, true≢false}
use Rattle.std.proofs.lemmas.List.Sums.{get_or-le-sum_by, sum_by-cons}
use Rattle.nl_pseg.specs.Segment.{Physical, is_free, is_kept, is_waiting}
use Rattle.nl_pseg_blocks.specs.Uses.{Use, no_use, use_at}
use Rattle.nl_pseg.specs.Space.{waiting}
use Rattle.nl_pseg.proofs.Gone.{waits}
use Rattle.nl_pseg.proofs.Segments.{kept_within}
use Rattle.nl_pseg_blocks.proofs.Tables.{use_from}

abbrev num : Bool → ℕ
num b = cond b 1 0

count_none : (us : List Use) → ((i : ℕ) → waits (get_or us i no_use) ≡ false) → count_by waits us ≡ 0
count_none [] none = refl
count_none (u ∷ us) none =
    let e : count_by waits (u ∷ us) ≡ num (waits u) + count_by waits us = sum_by-cons (λ x. num (waits x)) u us in
    let here : num (waits u) ≡ 0 = ap num (none 0) in
    let rest = count_none us (λ i. none (suc i)) in
    omega (arith, e, here, rest)

count_same : (xs ys : List Use) → ((i : ℕ) → waits (get_or xs i no_use) ≡ waits (get_or ys i no_use)) → count_by waits xs ≡ count_by waits ys
count_same [] ys same = sym (count_none ys (λ i. sym (same i)))
count_same (x ∷ xs) [] same = count_none (x ∷ xs) same
count_same (x ∷ xs) (y ∷ ys) same =
    let a : count_by waits (x ∷ xs) ≡ num (waits x) + count_by waits xs = sum_by-cons (λ u. num (waits u)) x xs in
    let b : count_by waits (y ∷ ys) ≡ num (waits y) + count_by waits ys = sum_by-cons (λ u. num (waits u)) y ys in
    let here : num (waits x) ≡ num (waits y) = ap num (same 0) in
    let rest = count_same xs ys (λ i. same (suc i)) in
    omega (arith, a, b, here, rest)

at : (seg : Physical) (i : ℕ) → use_at seg.first seg.uses (seg.first + i) ≡ get_or seg.uses i no_use
at seg i = use_from seg.first seg.uses (seg.first + i) (omega arith) ∙ ap (λ k. get_or seg.uses k no_use) (omega arith)

-- the same blocks wait
pub waiting_same : (old new : Physical) → new.first ≡ old.first → ((block : ℕ) → is_waiting new block ≡ is_waiting old block) → waiting new ≡ waiting old
waiting_same old new first same = count_same new.uses old.uses (λ i. ap waits (sym (at new i)) ∙ (same (new.first + i) ∙ (ap (λ k. is_waiting old (k + i)) first ∙ ap waits (at old i))))

pub wait_by : (old new : Physical) (block : ℕ) → is_free new block ≡ is_free old block → is_kept new block ≡ is_kept old block → is_waiting new block ≡ is_waiting old block
wait_by old new block free kept = (λ i. kept i && not (free i))

-- a block that is kept and not Free waits
pub wait_is : (seg : Physical) (block : ℕ) → is_kept seg block ≡ true → is_free seg block ≡ false → is_waiting seg block ≡ true
wait_is seg block kept free = (λ i. kept i && not (free i))

pub wait_kept : (seg : Physical) (block : ℕ) → is_waiting seg block ≡ true → is_kept seg block ≡ true
wait_kept seg block waits_is = ⊎_elim (λ yes. yes) (λ no. absurd (true≢false (sym waits_is ∙ (λ i. no i && not (is_free seg block))))) (cases_Bool (is_kept seg block))

-- a block that is Free, or in use, does not wait
pub wait_free : (seg : Physical) (block : ℕ) → is_free seg block ≡ true → is_waiting seg block ≡ false
wait_free seg block free = ⊎_elim (λ yes. (λ i. yes i && not (free i))) (λ no. (λ i. no i && not (is_free seg block))) (cases_Bool (is_kept seg block))

pub wait_not : (seg : Physical) (block : ℕ) → is_kept seg block ≡ false → is_waiting seg block ≡ false
wait_not seg block used = (λ i. used i && not (is_free seg block))

-- where none waits, no block does
pub none_waits : (seg : Physical) (block : ℕ) → waiting seg ≡ 0 → is_waiting seg block ≡ true → ⊥
none_waits seg block none waits_is =
    let range = kept_within seg.first seg.uses block (wait_kept seg block waits_is) in
    let e = use_from seg.first seg.uses block range.0 in
    let one : num (waits (get_or seg.uses (block - seg.first) no_use)) ≡ 1 = ap num (ap waits (sym e) ∙ waits_is) in
    let most : num (waits (get_or seg.uses (block - seg.first) no_use)) ≤ waiting seg = get_or-le-sum_by (λ u. num (waits u)) seg.uses (block - seg.first) no_use (omega (arith, range.0, range.1)) in
    omega (arith, one, most, none)

-- a block that is Free or waits is kept
pub free_or_waits : (seg : Physical) (block : ℕ) → (is_free seg block ≡ true → is_kept seg block ≡ true) → (is_free seg block || is_waiting seg block) ≡ is_kept seg block
free_or_waits seg block kept = ⊎_elim
    (λ yes. (λ i. yes i || (is_kept seg block && not (yes i))) ∙ sym (kept yes))
    (λ no. (λ i. no i || (is_kept seg block && not (no i))) ∙ kept_and (is_kept seg block))
    (cases_Bool (is_free seg block))
  where
    kept_and : (b : Bool) → (b && true) ≡ b
    kept_and true = refl
    kept_and false = refl
