-- How all blocks are given back.
use Rattle.std.proofs.Common.{◌≡◌, inl, inr, ⊎_elim, ℕ, zero, suc, ◌+◌, ◌-◌, ◌<◌, ◌≤◌, Some, Bool, true, false, cond, List, [], ◌∷◌, length, refl, sym, ◌∙◌, ap, arith, count_by}
use Rattle.std.proofs.lemmas.Bool.{cases_Bool, cases_eq, cases_lt, true≢false}
use Rattle.std.proofs.lemmas.List.Sums.{count_by-le-length, sum_by-cons}
use Rattle.nl_blocks.specs.declared.states.BlockState.{BlockState}
use Rattle.nl_blocks.specs.Table.{BlockRow, HasBlock, is_free_state, row_at}
use Rattle.nl_blocks.specs.Table.{is_free as is_free_row}
use Rattle.nl_pseg.specs.Segment.{Physical, erasures, is_free, soiled}
use Rattle.nl_pseg_blocks.specs.Uses.{Use}
use Rattle.nl_pseg.specs.Seen.{IsPhysicalFormed, IsTied, seen}
use Rattle.nl_pseg.specs.Opened.{GivesAllBack}
use Rattle.nl_pseg.specs.Steps.{AllFree, AreGivenBack, IsGivenBack}
use Rattle.nl_pseg.specs.Kept.{Kept}
use Rattle.nl_pseg_blocks.proofs.Tables.{free_kept, use_here}

pub given_none : (seg : Physical) → AreGivenBack seg.first seg seg
given_none seg = record {
  range = record { range_first = refl; range_blocks = refl; range_size = refl };
  held = refl;
  names = (refl, refl);
  victim = refl;
  left = omega arith;
  each = λ block from below. absurd (omega (arith, from, below));
  told = λ block from below used. absurd (omega (arith, from, below));
  wears = λ block from below. absurd (omega (arith, from, below));
  later = λ block from. refl;
  later_soiled = λ block from. refl;
  free_before = λ block free. (refl, refl);
  erased = λ p taken. taken;
  same = λ all. refl;
}

module _ {old mid new : Physical} (block : ℕ) (from : old.first ≤ block) (within : block < old.blocks) (given : AreGivenBack block old mid) (g : IsGivenBack block mid new) where
  free_is : is_free mid block ≡ is_free old block
  free_is = ap (λ (u : Use). u.is_free) (given.later block (omega arith))

  pub given_more : AreGivenBack (block + 1) old new
  given_more = record {
    range = record {
      range_first = g.range.range_first ∙ given.range.range_first;
      range_blocks = g.range.range_blocks ∙ given.range.range_blocks;
      range_size = g.range.range_size ∙ given.range.range_size;
    };
    held = g.held ∙ given.held;
    names = (g.names.0 ∙ given.names.0, g.names.1 ∙ given.names.1);
    victim = g.victim ∙ given.victim;
    left = let a = g.left in let b = given.left in omega (arith, a, b);
    each = λ b low high. ⊎_elim
        (λ here. ap (is_free new) here ∙ g.here)
        (λ other. ap (λ (u : Use). u.is_free) (g.others b other) ∙ given.each b low (omega (arith, high, other)))
        (cases_eq b block);
    told = λ b low high used. ⊎_elim
        (λ here. ap (soiled new) here ∙ (g.told (free_is ∙ (ap (is_free old) (sym here) ∙ used)) ∙ (λ i. Some (given.later block (omega arith) i).wear) ∙ ap (λ n. Some (erasures old n)) (sym here)))
        (λ other. g.others_soiled b other ∙ given.told b low (omega (arith, high, other)) used)
        (cases_eq b block);
    wears = λ b low high. ⊎_elim
        (λ here. ap (erasures new) here ∙ (g.wear ∙ (ap (λ (u : Use). u.wear) (given.later block (omega arith)) ∙ ap (erasures old) (sym here))))
        (λ other. ap (λ (u : Use). u.wear) (g.others b other) ∙ given.wears b low (omega (arith, high, other)))
        (cases_eq b block);
    later = λ b past. g.others b (λ same. omega (arith, same, past)) ∙ given.later b (omega (arith, past));
    later_soiled = λ b past. g.others_soiled b (λ same. omega (arith, same, past)) ∙ given.later_soiled b (omega (arith, past));
    free_before = λ b free. ⊎_elim
        (λ here. let same = g.same (free_is ∙ (ap (is_free old) (sym here) ∙ free)) in let was = given.free_before b free in (ap (λ (s : Physical). soiled s b) same ∙ was.0, ap (λ (s : Physical). erasures s b) same ∙ was.1))
        (λ other. let was = given.free_before b free in (g.others_soiled b other ∙ was.0, ap (λ (u : Use). u.wear) (g.others b other) ∙ was.1))
        (cases_eq b block);
    erased = λ p taken. given.erased p (g.erased p taken);
    same = λ all. g.same (free_is ∙ all block from within) ∙ given.same all;
  }

pub all_given : {old new : Physical} → AreGivenBack old.blocks old new → AllFree new
all_given given block from below =
    let first = given.range.range_first in
    let blocks = given.range.range_blocks in
    given.each block (omega (arith, from, first)) (omega (arith, below, blocks))

abbrev num : Bool → ℕ
num b = cond b 1 0

num_most : (b : Bool) → num b ≤ 1
num_most true = omega arith
num_most false = omega arith

-- each row is that of a Free block
count_all : (rows : List BlockRow) → ((i : ℕ) → i < length rows → is_free_row (row_at rows i) ≡ true) → count_by is_free_row rows ≡ length rows
count_all [] all = refl
count_all (row ∷ rows) all =
    let e : count_by is_free_row (row ∷ rows) ≡ num (is_free_row row) + count_by is_free_row rows = sum_by-cons (λ r. num (is_free_row r)) row rows in
    let here : num (is_free_row row) ≡ 1 = ap num (all zero (omega arith)) in
    let rest = count_all rows (λ i less. all (suc i) (omega (arith, less))) in
    omega (arith, e, here, rest)

all_counted : (rows : List BlockRow) → count_by is_free_row rows ≡ length rows → (i : ℕ) → i < length rows → is_free_row (row_at rows i) ≡ true
all_counted [] counted i less = absurd (omega (arith, less))
all_counted (row ∷ rows) counted zero less =
    let e : count_by is_free_row (row ∷ rows) ≡ num (is_free_row row) + count_by is_free_row rows = sum_by-cons (λ r. num (is_free_row r)) row rows in
    let few = count_by-le-length is_free_row rows in
    ⊎_elim
    (λ free. free)
    (λ used. let none : num (is_free_row row) ≡ 0 = ap num used in absurd (omega (arith, counted, e, none, few)))
    (cases_Bool (is_free_row row))
all_counted (row ∷ rows) counted (suc i) less =
    let e : count_by is_free_row (row ∷ rows) ≡ num (is_free_row row) + count_by is_free_row rows = sum_by-cons (λ r. num (is_free_row r)) row rows in
    let most = num_most (is_free_row row) in
    let few = count_by-le-length is_free_row rows in
    all_counted rows (omega (arith, counted, e, most, few)) i (omega (arith, less))

module _ (s : Kept) (is : IsPhysicalFormed s) where
  pub free_counted : AllFree (seen s) → (seen s).first + (seen s).free ≡ (seen s).blocks
  free_counted all =
      let count = count_all s.blocks.blocks
      (λ i less.
      let has : HasBlock s.blocks (s.blocks.first + i) = record { from = omega arith; below = omega (arith, less) } in
      ap (λ n. is_free_row (row_at s.blocks.blocks n)) (omega arith) ∙ (sym (ap (λ (u : Use). u.is_free) (use_here s.blocks (s.blocks.first + i) has)) ∙ all (s.blocks.first + i) has.from has.below)) in
      ap (λ n. s.blocks.first + n) count

  pub counted_free : (seen s).first + (seen s).free ≡ (seen s).blocks → AllFree (seen s)
  counted_free count block from below =
      let has : HasBlock s.blocks block = record { from = from; below = below } in
      ap (λ (u : Use). u.is_free) (use_here s.blocks block has) ∙ all_counted s.blocks.blocks (omega (arith, count)) (block - s.blocks.first) (omega (arith, from, below))

  -- no block is written to
  pub left_none : AllFree (seen s) → (seen s).left ≡ 0
  left_none all = elim (cases_lt s.used s.blocks.size) [
    | inl room ↦
        let in_use : is_free (seen s) s.active ≡ false = ap (λ (u : Use). u.is_free) (use_here s.blocks s.active is.active_in) ∙ ap (λ (b : BlockState). is_free_state b) (is.taken room) in
        absurd (true≢false (sym (all s.active is.active_in.from is.active_in.below) ∙ in_use))
    | inr full ↦ omega (arith, full)
  ]

-- where all blocks are Free, no page is left for copies
pub copies_none : (s : Kept) → IsTied s → AllFree (seen s) → (seen s).copy_left ≡ 0
copies_none s tied all = elim (cases_lt s.filled s.blocks.size) [
  | inl room ↦
      let at = tied.phases.target_in in
      let in_use : is_free (seen s) s.target ≡ false = ap (λ (u : Use). u.is_free) (use_here s.blocks s.target at) ∙ ap (λ (b : BlockState). is_free_state b) (tied.phases.filling room) in
      absurd (true≢false (sym (all s.target at.from at.below) ∙ in_use))
  | inr full ↦ omega (arith, full)
]

pub gives_all_back : (s n : Kept) → IsPhysicalFormed s → IsPhysicalFormed n → IsTied n → AreGivenBack (seen s).blocks (seen s) (seen n) → GivesAllBack (seen s) (seen n)
gives_all_back s n was is tied g =
    let all = all_given g in
    record {
      range = g.range;
      held = g.held;
      pairs = g.names;
      victim = g.victim;
      free = free_counted n is all;
      each = λ block from below. let free = g.each block from below in (free, free_kept n.blocks block free);
      left = left_none n is all;
      copies = copies_none n tied all;
      told = g.told;
      wears = g.wears;
      others = g.free_before;
      erased = g.erased;
      same = λ count. g.same (counted_free s was count);
    }
