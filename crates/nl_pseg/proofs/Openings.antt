-- How a block is opened.
use Rattle.std.proofs.Common.{◌≡◌, inl, inr, ℕ, suc, ◌+◌, ◌-◌, ◌*◌, ◌/◌, ◌<◌, ◌≤◌, Bool, true, false, cond, List, [], ◌∷◌, length, refl, sym, ◌∙◌, ap, arith, count_by}
use Rattle.std.proofs.lemmas.Bool.{cases_Bool, cases_lt}
use Rattle.std.proofs.lemmas.List.{length-map}
use Rattle.std.proofs.lemmas.List.Sums.{sum_by-cons}
use Rattle.nl_blocks.specs.Table.{BlockRow, Table, HasBlock, row_at, is_free, free_count}
use Rattle.nl_pseg.specs.Segment.{Physical, KeepsBlock, wear_of}
use Rattle.nl_pseg.specs.Seen.{IsPhysicalFormed, seen}
use Rattle.nl_pseg.specs.Steps.{OpensFreeBlock, opened_at}
use Rattle.nl_pseg_blocks.specs.Uses.{Use, use_in, use_of, use_with, SetsUse}
use Rattle.nl_pseg.specs.Kept.{Kept}
use Rattle.nl_pseg.proofs.Numbers.{block_of}
use Rattle.nl_pseg_blocks.proofs.Tables.{free_kept, use_here}
use Rattle.nl_pseg.proofs.Wearing.{taken_wear, taken_counts}

abbrev num : Bool → ℕ
num b = cond b 1 0

some_row : (rows : List BlockRow) → 1 ≤ count_by is_free rows → (i : ℕ) × (i < length rows) × (is_free (row_at rows i) ≡ true)
some_row [] some = absurd (omega (arith, some))
some_row (row ∷ rows) some = elim (cases_Bool (is_free row)) [
  | inl free ↦ (0, omega arith, free)
  | inr used ↦
      let e : count_by is_free (row ∷ rows) ≡ cond (is_free row) 1 0 + count_by is_free rows = sum_by-cons (λ r. cond (is_free r) 1 0) row rows in
      let none : num (is_free row) ≡ 0 = ap num used in
      let rest = some_row rows (omega (arith, some, e, none)) in
      (suc rest.0, omega (arith, rest.1), rest.2)
]

-- some block is Free
pub some_free : (t : Table) → 1 ≤ free_count t → (block : ℕ) × HasBlock t block × ((use_in t block).is_free ≡ true)
some_free t some =
    let row = some_row t.blocks some in
    let has : HasBlock t (t.first + row.0) = record { from = omega arith; below = omega (arith, row.1) } in
    (t.first + row.0, has, ap (λ (u : Use). u.is_free) (use_here t (t.first + row.0) has) ∙ (ap (λ n. is_free (row_at t.blocks n)) (omega arith) ∙ row.2))

pub some_kept : (s : Kept) → IsPhysicalFormed s → 1 ≤ free_count s.blocks → KeepsBlock (seen s)
some_kept s is some = let free = some_free s.blocks some in record { block = free.0; from = free.1.from; below = free.1.below; kept = inl (free_kept s.blocks free.0 free.2) }

-- a block that was taken is opened
pub opened : (s : Kept) (t : Table) (block : ℕ) → IsPhysicalFormed s → s.blocks.size ≤ s.used → 2 ≤ free_count s.blocks → SetsUse block false (wear_of (seen s) block) s.blocks t → (use_in s.blocks block).is_free ≡ true
    → IsPhysicalFormed (record s { blocks = t }) → OpensFreeBlock block (seen s) (opened_at (seen (record s { blocks = t })) block)
opened s t block is full two r free formed =
    let was : num (use_in s.blocks block).is_free ≡ 1 = ap num free in
    let total = r.total in
    let fewer : free_count t + 1 ≡ free_count s.blocks = omega (arith, was, total) in
    let kept = some_kept (record s { blocks = t }) formed (omega (arith, fewer, two)) in
    record {
      pages = record {
        same_first = r.numbers.same_first;
        same_blocks = λ i. r.numbers.same_first i + r.numbers.same_count i;
        same_size = r.numbers.same_size;
        same_wear = taken_wear s t block r;
      };
      held = refl;
      full = omega (arith, full);
      was_free = free;
      was_kept = free_kept s.blocks block free;
      next = ap (λ n. block * n) r.numbers.same_size;
      left = r.numbers.same_size;
      free = fewer;
      some = omega (arith, fewer, two);
      kept = record { block = kept.block; from = kept.from; below = kept.below; kept = kept.kept };
      here = ap (λ (u : Use). u.is_free) r.here;
      in_use = ap (λ (u : Use). u.is_kept) r.here;
      others = λ b ne. r.others b ne;
      soiled = refl;
      wears = record { each = taken_counts s t block free r };
      names = record { same_pairs = refl; same_pair_room = refl; same_victim = refl; copies = (λ i. s.target * r.numbers.same_size i + s.filled, λ i. r.numbers.same_size i - s.filled) };
    }

-- the page that is programmed next is the first one of the block
pub opened_block : {block : ℕ} {old new : Physical} → OpensFreeBlock block old new → 0 < old.size → new.next / old.size ≡ block
opened_block {block} {old} {new} o some = let n = o.next in block_of new.next old.size block (omega (arith, n)) (omega (arith, n, some))

-- with no page left in the block that is written to, there is room in two Free blocks
pub two_free : (size used free : ℕ) → size ≤ used → 0 < (size - used) + (free - 1) * size → 2 ≤ free
two_free size used free full room = elim (cases_lt 1 free) [
  | inl two ↦ two
  | inr few ↦
      let none : free - 1 ≡ 0 = omega (arith, few) in
      let product : (free - 1) * size ≡ 0 * size = ap (λ n. n * size) none in
      absurd (omega (arith, room, product, full))
]

-- with no page left for copies, they land in a Free block
pub one_free : (size filled free : ℕ) → size ≤ filled → 0 < free * size + (size - filled) → 1 ≤ free
one_free size filled free full room = elim (cases_lt 0 free) [
  | inl some ↦ some
  | inr few ↦
      let none : free ≡ 0 = omega (arith, few) in
      let product : free * size ≡ 0 * size = ap (λ n. n * size) none in
      absurd (omega (arith, room, product, full))
]

-- a Free block is kept too
pub free_use : (s : Kept) (block : ℕ) → IsPhysicalFormed s → (use_in s.blocks block).is_free ≡ true → use_in s.blocks block ≡ use_with true (use_in s.blocks block).wear
free_use s block is free =
    let kept : (use_in s.blocks block).is_kept ≡ true = free_kept s.blocks block free in
    (λ i. record { is_free = free i; is_kept = kept i; wear = (use_in s.blocks block).wear })

-- the number behind the last block
pub last_block : (s : Kept) → (seen s).blocks ≡ (seen s).first + length (seen s).uses
last_block s = ap (λ n. s.blocks.first + n) (sym (length-map s.blocks.blocks use_of))
