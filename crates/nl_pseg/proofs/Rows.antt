-- What cleaning knows of the blocks of a table, and sums over them.
use Rattle.std.proofs.Common.{◌≡◌, ℕ, zero, suc, ◌+◌, ◌-◌, ◌<◌, ◌≤◌, ◌&&◌, not, nat_le, cond, count_by, sum_by, Bool, List, [], ◌∷◌, length, map, get_or, refl, sym, ◌∙◌, ap, subst, arith}
use Rattle.std.proofs.lemmas.Bool.{cond-true, le-leb}
use Rattle.std.proofs.lemmas.List.{get_or-map, length-map}
use Rattle.std.proofs.lemmas.List.Sums.{count_by-le-length, sum_by-cons}
use Rattle.nl_blocks.specs.Table.{Table, HasBlock, IsBlockTable, block_at, dead_count, is_dead, is_sealed_state}
use Rattle.nl_blocks.specs.Table.{no_row as no_block}
use Rattle.nl_blocks.proofs.TableProofs.{row_size}
use Rattle.nl_pseg.specs.Segment.{CleaningRow, no_row, row_in}
use Rattle.nl_pseg.specs.Seen.{row_of}
use Rattle.nl_pseg_blocks.specs.Uses.{Use, no_use, use_in, use_of, SameNumbers, SameUse}
use Rattle.nl_pseg_blocks.proofs.Tables.{use_from}

abbrev pub num : Bool → ℕ
num b = cond b 1 0

abbrev pub waits : Use → Bool
waits u = u.is_kept && not u.is_free

-- the dead pages of a Sealed block
abbrev pub to_gain : CleaningRow → ℕ
to_gain row = cond (is_sealed_state row.state) row.dead 0

row_from : (first : ℕ) (rows : List CleaningRow) (block : ℕ) → first ≤ block → row_in first rows block ≡ get_or rows (block - first) no_row
unfolding row_in
row_from first rows block from = cond-true (nat_le first block) (get_or rows (block - first) no_row) no_row (le-leb first block from)

pub known_here : (t : Table) (block : ℕ) → HasBlock t block → row_in t.first (map row_of t.blocks) block ≡ row_of (block_at t block)
known_here t block has = row_from t.first (map row_of t.blocks) block has.from ∙ get_or-map row_of t.blocks (block - t.first) no_block no_row (omega (arith, has.from, has.below))

pub dead_here : (t : Table) (block : ℕ) → HasBlock t block → (row_in t.first (map row_of t.blocks) block).dead ≡ dead_count (block_at t block)
dead_here t block has = ap (λ (r : CleaningRow). r.dead) (known_here t block has)

pub dead_few : (t : Table) → IsBlockTable t → (block : ℕ) → HasBlock t block → dead_count (block_at t block) ≤ t.size
dead_few t is block has = let n = row_size t is block has in let l = count_by-le-length is_dead (block_at t block).pages in omega (arith, n, l)

-- the same sum over lists of the same weights
pub sum_same : {A : Type 0} (f : A → ℕ) (d : A) (xs ys : List A) → length xs ≡ length ys → ((i : ℕ) → i < length ys → f (get_or xs i d) ≡ f (get_or ys i d)) → sum_by f xs ≡ sum_by f ys
sum_same f d [] [] size same = refl
sum_same f d [] (y ∷ ys) size same = absurd (omega (arith, size))
sum_same f d (x ∷ xs) [] size same = absurd (omega (arith, size))
sum_same f d (x ∷ xs) (y ∷ ys) size same =
    let a : sum_by f (x ∷ xs) ≡ f x + sum_by f xs = sum_by-cons f x xs in
    let b : sum_by f (y ∷ ys) ≡ f y + sum_by f ys = sum_by-cons f y ys in
    let here : f x ≡ f y = same zero (omega arith) in
    let rest = sum_same f d xs ys (omega (arith, size)) (λ i less. same (suc i) (omega (arith, less))) in
    omega (arith, a, b, here, rest)

pub sum_map : {A B : Type 0} (f : B → ℕ) (g : A → B) (xs : List A) → sum_by f (map g xs) ≡ sum_by (λ x. f (g x)) xs
sum_map f g [] = refl
sum_map f g (x ∷ xs) = sum_by-cons f (g x) (map g xs) ∙ (ap (λ (n : ℕ). f (g x) + n) (sum_map f g xs) ∙ sym (sum_by-cons (λ y. f (g y)) x xs))

-- as many blocks wait for their names
pub waiting_same : (a b : Table) → SameNumbers a b → ((block : ℕ) → HasBlock a block → num (waits (use_in b block)) ≡ num (waits (use_in a block)))
    → count_by (λ (u : Use). u.is_kept && not u.is_free) (map use_of b.blocks) ≡ count_by (λ (u : Use). u.is_kept && not u.is_free) (map use_of a.blocks)
waiting_same a b n same = sum_same (λ (u : Use). num (waits u)) no_use (map use_of b.blocks) (map use_of a.blocks) size each
  where
    size : length (map use_of b.blocks) ≡ length (map use_of a.blocks)
    size = length-map b.blocks use_of ∙ (n.same_count ∙ sym (length-map a.blocks use_of))

    each : (i : ℕ) → i < length (map use_of a.blocks) → num (waits (get_or (map use_of b.blocks) i no_use)) ≡ num (waits (get_or (map use_of a.blocks) i no_use))
    each i less =
        let few : i < length a.blocks = subst (λ k. i < k) (length-map a.blocks use_of) less in
        let f = n.same_first in
        let has : HasBlock a (a.first + i) = record { from = omega arith; below = omega (arith, few) } in
        let at_a : use_in a (a.first + i) ≡ get_or (map use_of a.blocks) i no_use = use_from a.first (map use_of a.blocks) (a.first + i) (omega arith) ∙ ap (λ k. get_or (map use_of a.blocks) k no_use) (omega arith) in
        let at_b : use_in b (a.first + i) ≡ get_or (map use_of b.blocks) i no_use = use_from b.first (map use_of b.blocks) (a.first + i) (omega (arith, f)) ∙ ap (λ k. get_or (map use_of b.blocks) k no_use) (omega (arith, f)) in
        ap (λ (u : Use). num (waits u)) (sym at_b) ∙ (same (a.first + i) has ∙ ap (λ (u : Use). num (waits u)) at_a)

pub waiting_used : (a b : Table) → SameUse a b → count_by (λ (u : Use). u.is_kept && not u.is_free) (map use_of b.blocks) ≡ count_by (λ (u : Use). u.is_kept && not u.is_free) (map use_of a.blocks)
waiting_used a b same = waiting_same a b same.numbers (λ block has. ap (λ (u : Use). num (waits u)) (same.uses block))
