-- Some block in use has a dead page: the addresses do not fill all blocks but one.
use Rattle.std.proofs.Common.{◌≡◌, ◌⊎◌, inl, inr, ℕ, zero, suc, ◌+◌, ◌*◌, ◌/◌, ◌<◌, ◌≤◌, ◌==◌, Bool, true, false, cond, List, [], ◌∷◌, length, Option, Some, None, refl, sym, ◌∙◌, ap, subst, arith, count_by}
use Rattle.std.proofs.lemmas.Bool.{cases_eq, cases_Bool, eq-eqb, ne_eqb}
use Rattle.std.proofs.lemmas.List.Sums.{sum_by-cons}
use Rattle.nl_blocks.specs.Table.{BlockRow, Table, block_at, row_at, is_free, is_sealed, free_count, dead_count}
use Rattle.nl_vseg.specs.Places.{IsUnmapped}
use Rattle.nl_vseg.specs.Layout.{block_is_free}
use Rattle.nl_vseg.specs.Copying.{is_in, mapped_in, IsSettled}
use Rattle.nl_vseg.specs.declared.place.Place.{Place}
use Rattle.nl_vseg.proofs.Places.{not_beside}

abbrev num : Bool → ℕ
num b = cond b 1 0

-- the sum of the first values of a function
total : (ℕ → ℕ) → ℕ → ℕ
total f zero = 0
total f (suc n) = f n + total f n

total_zero : (n : ℕ) (f : ℕ → ℕ) → ((k : ℕ) → k < n → f k ≡ 0) → total f n ≡ 0
unfolding total
total_zero zero f none = refl
total_zero (suc n) f none =
    let here : f n ≡ 0 = none n (omega arith) in
    let rest : total f n ≡ 0 = total_zero n f (λ k less. none k (omega arith)) in
    omega arith

total_add : (n : ℕ) (f g h : ℕ → ℕ) → ((k : ℕ) → f k ≡ g k + h k) → total f n ≡ total g n + total h n
unfolding total
total_add zero f g h same = refl
total_add (suc n) f g h same =
    let here : f n ≡ g n + h n = same n in
    let rest : total f n ≡ total g n + total h n = total_add n f g h same in
    omega arith

total_one : (n a : ℕ) → total (λ k. cond (a == k) 1 0) n ≤ 1
unfolding total
total_one zero a = omega arith
total_one (suc n) a = elim (cases_eq a n) [
  | inl is ↦
      let rest : total (λ k. cond (a == k) 1 0) n ≡ 0 = total_zero n (λ k. cond (a == k) 1 0) (λ k less. ap num (ne_eqb a k (λ same. omega (arith, same, is, less)))) in
      let here : num (a == n) ≡ 1 = ap num (eq-eqb a n is) in
      omega arith
  | inr ne ↦
      let rest : total (λ k. cond (a == k) 1 0) n ≤ 1 = total_one n a in
      let here : num (a == n) ≡ 0 = ap num (ne_eqb a n ne) in
      omega arith
]

one_place : (pages n : ℕ) (place : Option Place) → total (λ k. cond (is_in pages k place) 1 0) n ≤ 1
one_place pages n None = let e : total (λ k. cond (is_in pages k None) 1 0) n ≡ 0 = total_zero n (λ k. cond (is_in pages k None) 1 0) (λ k less. refl) in omega (arith, e)
one_place pages n (Some place) = total_one n (place.page / pages)

-- no address is counted twice
all_mapped : (pages n : ℕ) (places : List (Option Place)) → total (λ k. mapped_in pages k places) n ≤ length places
all_mapped pages n [] = let e : total (λ k. mapped_in pages k []) n ≡ 0 = total_zero n (λ k. mapped_in pages k []) (λ k less. refl) in omega (arith, e)
all_mapped pages n (place ∷ places) =
    let e : total (λ k. mapped_in pages k (place ∷ places)) n ≡ total (λ k. cond (is_in pages k place) 1 0) n + total (λ k. mapped_in pages k places) n =
    total_add n (λ k. mapped_in pages k (place ∷ places)) (λ k. cond (is_in pages k place) 1 0) (λ k. mapped_in pages k places)
    (λ k. sum_by-cons (λ x. cond (is_in pages k x) 1 0) place places) in
    let one : total (λ k. cond (is_in pages k place) 1 0) n ≤ 1 = one_place pages n place in
    let rest : total (λ k. mapped_in pages k places) n ≤ length places = all_mapped pages n places in
    omega arith

-- the sum from the other end
total_first : (n : ℕ) (f : ℕ → ℕ) → total f (suc n) ≡ f 0 + total (λ k. f (suc k)) n
unfolding total
total_first zero f = refl
total_first (suc n) f =
    let rest : f n + total f n ≡ f 0 + total (λ k. f (suc k)) n = total_first n f in
    omega (arith, rest)

free_total : (rows : List BlockRow) → total (λ k. cond (is_free (row_at rows k)) 1 0) (length rows) ≡ count_by is_free rows
unfolding total
free_total [] = refl
free_total (row ∷ rows) =
    let a = total_first (length rows) (λ k. cond (is_free (row_at (row ∷ rows) k)) 1 0) in
    let b : total (λ k. cond (is_free (row_at rows k)) 1 0) (length rows) ≡ count_by is_free rows = free_total rows in
    a ∙ (ap (λ n. cond (is_free row) 1 0 + n) b ∙ sym (sum_by-cons (λ x. cond (is_free x) 1 0) row rows))

-- where each block is full or Free
filled : (n pages : ℕ) (f free : ℕ → ℕ) → ((k : ℕ) → k < n → pages ≤ f k + free k * pages) → n * pages ≤ total f n + total free n * pages
unfolding total
filled zero pages f free each = omega arith
filled (suc n) pages f free each =
    let here : pages ≤ f n + free n * pages = each n (omega arith) in
    let rest : n * pages ≤ total f n + total free n * pages = filled n pages f free (λ k less. each k (omega arith)) in
    omega arith

-- not each block in use can be full
pub some_dead : (t : Table) (places : List (Option Place)) → t.first ≡ 0 → 0 < t.size → free_count t ≤ 1 → length places + 4 * t.size ≤ length t.blocks * t.size → IsSettled places t
    → ((block : ℕ) → block < length t.blocks → is_sealed (block_at t block) ≡ true → dead_count (block_at t block) ≡ 0) → ⊥
some_dead t places first some few fit settled none =
    let mapped : total (λ k. mapped_in t.size k places) (length t.blocks) ≤ length places = all_mapped t.size (length t.blocks) places in
    let free : total (λ k. cond (is_free (row_at t.blocks k)) 1 0) (length t.blocks) ≡ free_count t = free_total t.blocks in
    let full : length t.blocks * t.size ≤ total (λ k. mapped_in t.size k places) (length t.blocks) + total (λ k. cond (is_free (row_at t.blocks k)) 1 0) (length t.blocks) * t.size =
    filled (length t.blocks) t.size (λ k. mapped_in t.size k places) (λ k. cond (is_free (row_at t.blocks k)) 1 0) (λ k less. each k less (cases_Bool (block_is_free t k))) in
    let at_most : total (λ k. cond (is_free (row_at t.blocks k)) 1 0) (length t.blocks) * t.size ≤ 1 * t.size = subst (λ n. n * t.size ≤ 1 * t.size) (sym free) (times (free_count t) t.size few) in
    omega (arith, mapped, full, at_most, fit, some)
  where
    times : (n m : ℕ) → n ≤ 1 → n * m ≤ 1 * m
    times zero m le = omega arith
    times (suc zero) m le = omega arith
    times (suc (suc n)) m le = absurd (omega (arith, le))

    same : (k : ℕ) → row_at t.blocks k ≡ block_at t k
    same k = ap (λ n. row_at t.blocks n) (omega (arith, first))

    each : (k : ℕ) → k < length t.blocks → (block_is_free t k ≡ true) ⊎ (block_is_free t k ≡ false) → t.size ≤ mapped_in t.size k places + cond (is_free (row_at t.blocks k)) 1 0 * t.size
    each k less (inl is) =
        let one : cond (is_free (row_at t.blocks k)) 1 0 ≡ 1 = ap (λ (r : BlockRow). cond (is_free r) 1 0) (same k) ∙ ap num is in
        subst (λ n. t.size ≤ mapped_in t.size k places + n * t.size) (sym one) (omega arith)
    each k less (inr is) =
        let counted = settled.counted k less in
        let nothing = none k less (settled.sealed k less is) in
        omega (arith, counted, nothing)

-- no address has its page in a block that holds none
pub mapped_zero : (pages block : ℕ) (places : List (Option Place)) → 0 < pages → IsUnmapped pages places block → mapped_in pages block places ≡ 0
mapped_zero pages block [] some unmapped = refl
mapped_zero pages block (None ∷ places) some unmapped =
    let rest : mapped_in pages block places ≡ 0 = mapped_zero pages block places some (λ v place named. unmapped (suc v) place named) in
    let e : mapped_in pages block (None ∷ places) ≡ 0 + mapped_in pages block places = sum_by-cons (λ x. cond (is_in pages block x) 1 0) None places in
    omega (arith, e, rest)
mapped_zero pages block (Some place ∷ places) some unmapped =
    let rest : mapped_in pages block places ≡ 0 = mapped_zero pages block places some (λ v p named. unmapped (suc v) p named) in
    let here : cond (is_in pages block (Some place)) 1 0 ≡ 0 = ap num (ne_eqb (place.page / pages) block (not_beside place.page pages block some (unmapped 0 place refl))) in
    let e : mapped_in pages block (Some place ∷ places) ≡ cond (is_in pages block (Some place)) 1 0 + mapped_in pages block places = sum_by-cons (λ x. cond (is_in pages block x) 1 0) (Some place) places in
    omega (arith, e, here, rest)
