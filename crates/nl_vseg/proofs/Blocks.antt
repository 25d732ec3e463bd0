-- What the calls on the table of blocks do to which blocks are Free.
use Rattle.std.proofs.Common.{◌≡◌, inl, inr, ⊎_elim, ℕ, zero, suc, ◌+◌, ◌-◌, ◌<◌, ◌≤◌, Bool, true, false, cond, List, [], ◌∷◌, length, refl, sym, ◌∙◌, ap, arith, length-set, count_by}
use Rattle.std.proofs.lemmas.Bool.{cases_eq, cases_Bool}
use Rattle.std.proofs.lemmas.List.{get_or-set_same, get_or-set_other}
use Rattle.std.proofs.lemmas.List.Sums.{sum_by-cons}
use Rattle.nl_blocks.specs.declared.states.BlockState.TheVariants.{Sealed}
use Rattle.nl_blocks.specs.Table.{BlockRow, Table, HasBlock, block_at, in_state, row_at, no_row, with_block, is_free, free_count}
use Rattle.nl_blocks.proofs.TableLaws.{sum_by-with_block}
use Rattle.nl_vseg.specs.Layout.{block_is_free}
use Rattle.nl_vseg.proofs.Passing.{some_passes}
use Rattle.nl_vseg.specs.Copying.{SameFreeBlocks, SetsFree}

pub has_block : (t : Table) (block : ℕ) → t.first ≡ 0 → block < length t.blocks → HasBlock t block
has_block t block first within = record { from = omega (arith, first); below = omega (arith, first, within) }

-- the other blocks are as before
pub other_row : (t : Table) (block other : ℕ) (row : BlockRow) → t.first ≡ 0 → (other ≡ block → ⊥) → block_at (with_block t block row) other ≡ block_at t other
other_row t block other row first ne = get_or-set_other t.blocks (block - t.first) (other - t.first) row no_row (λ same. ne (omega (arith, same, first)))

-- the table is over one block
pub restated : (t : Table) (block : ℕ) (row : BlockRow) → t.first ≡ 0 → block < length t.blocks → SetsFree block (is_free row) t (with_block t block row)
restated t block row first within = record {
  numbers = record { same_first = refl; same_size = refl; same_count = length-set t.blocks (block - t.first) row };
  here = ap is_free (get_or-set_same t.blocks (block - t.first) row no_row (omega (arith, first, within)));
  others = λ other ne. ap is_free (get_or-set_other t.blocks (block - t.first) (other - t.first) row no_row (λ same. ne (omega (arith, same, first))));
  total = sum_by-with_block (λ r. cond (is_free r) 1 0) t block row (has_block t block first within);
}

-- what was done to one block, twice
pub restated_again : {block : ℕ} {was now : Bool} {a b c : Table} → SetsFree block was a b → SetsFree block now b c → SetsFree block now a c
restated_again {block} {was} {now} {a} {b} {c} first second = record {
  numbers = record {
    same_first = second.numbers.same_first ∙ first.numbers.same_first;
    same_size = second.numbers.same_size ∙ first.numbers.same_size;
    same_count = second.numbers.same_count ∙ first.numbers.same_count;
  };
  here = second.here;
  others = λ other ne. second.others other ne ∙ first.others other ne;
  total =
      let t1 = first.total in
      let t2 : free_count c + cond was 1 0 ≡ free_count b + cond now 1 0 = ap (λ x. free_count c + cond x 1 0) (sym first.here) ∙ second.total in
      omega (arith, t1, t2);
}

-- a block that is again what it was
pub restated_same : {block : ℕ} {free : Bool} {a b : Table} → block_is_free a block ≡ free → SetsFree block free a b → SameFreeBlocks a b
restated_same {block} {free} {a} {b} was r = record {
  numbers = r.numbers;
  free = λ other. ⊎_elim
      (λ is. ap (block_is_free b) is ∙ (r.here ∙ (sym was ∙ ap (block_is_free a) (sym is))))
      (λ ne. r.others other ne)
      (cases_eq other block);
  total = let t : free_count b + cond free 1 0 ≡ free_count a + cond free 1 0 = ap (λ x. free_count b + cond x 1 0) (sym was) ∙ r.total in omega (arith, t);
}

pub same_use : (t : Table) → SameFreeBlocks t t
same_use t = record { numbers = record { same_first = refl; same_size = refl; same_count = refl }; free = λ block. refl; total = refl }

pub same_then : {a b c : Table} → SameFreeBlocks a b → SameFreeBlocks b c → SameFreeBlocks a c
same_then first second = record {
  numbers = record {
    same_first = second.numbers.same_first ∙ first.numbers.same_first;
    same_size = second.numbers.same_size ∙ first.numbers.same_size;
    same_count = second.numbers.same_count ∙ first.numbers.same_count;
  };
  free = λ block. second.free block ∙ first.free block;
  total = second.total ∙ first.total;
}

-- a block was restated, and then the same blocks are Free
pub restated_then : {block : ℕ} {free : Bool} {a b c : Table} → SetsFree block free a b → SameFreeBlocks b c → SetsFree block free a c
restated_then {block} {free} {a} {b} {c} first second = record {
  numbers = record {
    same_first = second.numbers.same_first ∙ first.numbers.same_first;
    same_size = second.numbers.same_size ∙ first.numbers.same_size;
    same_count = second.numbers.same_count ∙ first.numbers.same_count;
  };
  here = second.free block ∙ first.here;
  others = λ other ne. second.free other ∙ first.others other ne;
  total = let t = first.total in let u = second.total in omega (arith, t, u);
}

-- a block was restated after the same use
pub restated_after : {block : ℕ} {free : Bool} {a b c : Table} → SameFreeBlocks a b → SetsFree block free b c → SetsFree block free a c
restated_after {block} {free} {a} {b} {c} first second = record {
  numbers = record {
    same_first = second.numbers.same_first ∙ first.numbers.same_first;
    same_size = second.numbers.same_size ∙ first.numbers.same_size;
    same_count = second.numbers.same_count ∙ first.numbers.same_count;
  };
  here = second.here;
  others = λ other ne. second.others other ne ∙ first.free other;
  total =
      let t : free_count c + cond (block_is_free a block) 1 0 ≡ free_count b + cond free 1 0 = ap (λ x. free_count c + cond x 1 0) (sym (first.free block)) ∙ second.total in
      omega (arith, t, first.total);
}

abbrev num : Bool → ℕ
num b = cond b 1 0

-- some block is Free
pub some_free : (t : Table) → t.first ≡ 0 → 1 ≤ free_count t → (block : ℕ) × (block < length t.blocks) × (block_is_free t block ≡ true)
some_free t first some =
    let row = some_passes is_free no_row t.blocks some in
    (row.0, row.1, ap (λ n. is_free (row_at t.blocks n)) (omega (arith, first)) ∙ row.2)

none_row : (rows : List BlockRow) (i : ℕ) → count_by is_free rows ≡ 0 → i < length rows → is_free (row_at rows i) ≡ false
none_row [] i none within = absurd (omega (arith, within))
none_row (row ∷ rows) zero none within = elim (cases_Bool (is_free row)) [
  | inl free ↦
      let e : count_by is_free (row ∷ rows) ≡ cond (is_free row) 1 0 + count_by is_free rows = sum_by-cons (λ r. cond (is_free r) 1 0) row rows in
      let one : cond (is_free row) 1 0 ≡ 1 = ap num free in
      absurd (omega (arith, none, e, one))
  | inr used ↦ used
]
none_row (row ∷ rows) (suc i) none within =
    let e : count_by is_free (row ∷ rows) ≡ cond (is_free row) 1 0 + count_by is_free rows = sum_by-cons (λ r. cond (is_free r) 1 0) row rows in
    none_row rows i (omega (arith, none, e)) (omega (arith, within))

-- no block is Free
pub none_free : (t : Table) → t.first ≡ 0 → free_count t ≡ 0 → (block : ℕ) → block < length t.blocks → block_is_free t block ≡ false
none_free t first none block within = ap (λ n. is_free (row_at t.blocks n)) (omega (arith, first)) ∙ none_row t.blocks block none within

-- the wear of each block stays where one is sealed
pub sealed_wear : (t : Table) (block other : ℕ) → t.first ≡ 0 → block < length t.blocks → (block_at (with_block t block (in_state (block_at t block) Sealed)) other).wear ≡ (block_at t other).wear
sealed_wear t block other first within = ⊎_elim
    (λ is. ap (λ n. (block_at (with_block t block (in_state (block_at t block) Sealed)) n).wear) is
    ∙ (ap (λ (r : BlockRow). r.wear) (get_or-set_same t.blocks (block - t.first) (in_state (block_at t block) Sealed) no_row (omega (arith, first, within))) ∙ ap (λ n. (block_at t n).wear) (sym is)))
    (λ ne. ap (λ (r : BlockRow). r.wear) (other_row t block other (in_state (block_at t block) Sealed) first ne))
    (cases_eq other block)
