-- What the calls on the table of blocks do to the uses of blocks.
use Rattle.std.proofs.Common.{◌≡◌, inl, inr, ⊎_elim, ℕ, zero, suc, ◌+◌, ◌-◌, ◌/◌, ◌%◌, ◌<◌, ◌≤◌, nat_le, Bool, true, false, cond, List, [], ◌∷◌, length, map, get_or, refl, sym, ◌∙◌, ap, subst, arith, length-set, set}
use Rattle.std.proofs.lemmas.Bool.{both_ways, cases_eq, cases_Bool, le-leb, leb-true, cond-true, cond-false, true≢false}
use Rattle.std.proofs.lemmas.List.{get_or-set_same, get_or-set_other, get_or-map, map-set}
use Rattle.nl_blocks.specs.declared.states.BlockState.{BlockState}
use Rattle.nl_blocks.specs.declared.states.BlockState.TheVariants as the
use Rattle.nl_blocks.specs.declared.states.Page.{Page}
use Rattle.nl_blocks.specs.Table.{BlockRow, Table, HasBlock, HasPage, block_at, new_page, no_row, page_at, with_block, after_erase, in_state, is_free, is_free_state, is_retired_state, free_count}
use Rattle.nl_blocks.specs.Used.{IsRisen, first_unmarked, is_active_state, is_target_state}
use Rattle.nl_blocks.proofs.TableLaws.{sum_by-with_block, block_at-with_block_other}
use Rattle.nl_blocks.proofs.UsedLaws.{rising-with, used-each, used-other}
use Rattle.nl_pseg_blocks.specs.Uses.{Use, no_use, use_at, ActiveAndTargetAreRisen, is_kept_state, use_of, use_in, use_with, IsPut, SetsWear, SameFill, SameFillBeside, SameMarks, SameNumbers, SameUse, SetsUse, aside_state, told_state}

abbrev num : Bool → ℕ
num b = cond b 1 0

-- the use of a block from the first on
pub use_from : (first : ℕ) (uses : List Use) (block : ℕ) → first ≤ block → use_at first uses block ≡ get_or uses (block - first) no_use
unfolding use_at
use_from first uses block from = cond-true (nat_le first block) (get_or uses (block - first) no_use) no_use (le-leb first block from)

-- a block before the first has none
pub use_before : (first : ℕ) (uses : List Use) (block : ℕ) → nat_le first block ≡ false → use_at first uses block ≡ no_use
unfolding use_at
use_before first uses block before = cond-false (nat_le first block) (get_or uses (block - first) no_use) no_use before

pub use_here : (t : Table) (block : ℕ) → HasBlock t block → use_in t block ≡ use_of (block_at t block)
use_here t block has = use_from t.first (map use_of t.blocks) block has.from ∙ get_or-map use_of t.blocks (block - t.first) no_row no_use (omega (arith, has.from, has.below))

kept_state : (state : BlockState) → is_free_state state ≡ true → is_kept_state state ≡ true
kept_state the.Free free = refl
kept_state the.Active free = free
kept_state the.Target free = free
kept_state the.Sealed free = free
kept_state the.Victim free = free
kept_state (the.Retired names) free = refl

kept_row : (rows : List BlockRow) (i : ℕ) → (get_or (map use_of rows) i no_use).is_free ≡ true → (get_or (map use_of rows) i no_use).is_kept ≡ true
kept_row [] i free = free
kept_row (row ∷ rows) zero free = kept_state row.state free
kept_row (row ∷ rows) (suc i) free = kept_row rows i free

-- a Free block is kept
pub free_kept : (t : Table) (block : ℕ) → (use_in t block).is_free ≡ true → (use_in t block).is_kept ≡ true
free_kept t block free = elim (cases_Bool (nat_le t.first block)) [
  | inl from_is ↦
      let e = use_from t.first (map use_of t.blocks) block (leb-true t.first block from_is) in
      ap (λ (u : Use). u.is_kept) e ∙ kept_row t.blocks (block - t.first) (sym (ap (λ (u : Use). u.is_free) e) ∙ free)
  | inr before ↦
      let e = use_before t.first (map use_of t.blocks) block before in
      ap (λ (u : Use). u.is_kept) e ∙ (sym (ap (λ (u : Use). u.is_free) e) ∙ free)
]

-- a block that is not kept is not Free
pub used_free : (t : Table) (block : ℕ) → (use_in t block).is_kept ≡ false → (use_in t block).is_free ≡ false
used_free t block used = ⊎_elim (λ free. absurd (true≢false (sym (free_kept t block free) ∙ used))) (λ no. no) (cases_Bool (use_in t block).is_free)

pub use_other : (t : Table) (block other : ℕ) (row : BlockRow) → HasBlock t block → (other ≡ block → ⊥) → use_in (with_block t block row) other ≡ use_in t other
use_other t block other row has ne = elim (cases_Bool (nat_le t.first other)) [
  | inl from_is ↦
      let from : t.first ≤ other = leb-true t.first other from_is in
      use_from t.first (map use_of (set t.blocks (block - t.first) row)) other from
      ∙ (ap (λ (us : List Use). get_or us (other - t.first) no_use) (map-set use_of t.blocks (block - t.first) row)
      ∙ (get_or-set_other (map use_of t.blocks) (block - t.first) (other - t.first) (use_of row) no_use (λ same. ne (omega (arith, same, from, has.from)))
      ∙ sym (use_from t.first (map use_of t.blocks) other from)))
  | inr before ↦ use_before t.first (map use_of (set t.blocks (block - t.first) row)) other before ∙ sym (use_before t.first (map use_of t.blocks) other before)
]

pub with_has : (t : Table) (block other : ℕ) (row : BlockRow) → HasBlock t other → HasBlock (with_block t block row) other
with_has t block other row has = record { from = has.from; below = subst (λ n. other < t.first + n) (sym (length-set t.blocks (block - t.first) row)) has.below }

pub row_here : (t : Table) (block : ℕ) (row : BlockRow) → HasBlock t block → block_at (with_block t block row) block ≡ row
row_here t block row has = get_or-set_same t.blocks (block - t.first) row no_row (omega (arith, has.from, has.below))

pub numbers_then : {a b c : Table} → SameNumbers a b → SameNumbers b c → SameNumbers a c
numbers_then first second = record {
  same_first = second.same_first ∙ first.same_first;
  same_size = second.same_size ∙ first.same_size;
  same_count = second.same_count ∙ first.same_count;
}

pub has_same : {a b : Table} (block : ℕ) → SameNumbers a b → HasBlock a block → HasBlock b block
has_same {a} {b} block numbers has = record {
  from = subst (λ n. n ≤ block) (sym numbers.same_first) has.from;
  below = subst (λ n. block < n + length b.blocks) (sym numbers.same_first) (subst (λ n. block < a.first + n) (sym numbers.same_count) has.below);
}

pub page_back : {a b : Table} (page : ℕ) → SameNumbers a b → HasPage b page → HasPage a page
page_back {a} {b} page numbers has =
    let back : SameNumbers b a = record { same_first = sym numbers.same_first; same_size = sym numbers.same_size; same_count = sym numbers.same_count } in
    subst (λ n. HasBlock a (page / n)) numbers.same_size (has_same (page / b.size) back has)

-- a page by the number of its block
page_here : (t : Table) (page block : ℕ) → page / t.size ≡ block → page_at t page ≡ get_or (block_at t block).pages (page % t.size) new_page
page_here t page block e = ap (λ (b : ℕ). get_or (block_at t b).pages (page % t.size) new_page) e

free_is : (state : BlockState) → is_free_state state ≡ true → state ≡ the.Free
free_is the.Free is = refl
free_is the.Active is = absurd (true≢false (sym is))
free_is the.Target is = absurd (true≢false (sym is))
free_is the.Sealed is = absurd (true≢false (sym is))
free_is the.Victim is = absurd (true≢false (sym is))
free_is (the.Retired names) is = absurd (true≢false (sym is))

-- a block in none of the states in which pages are used
pub record IsShut (state : BlockState) : Type 0 where
  pub active : is_active_state state ≡ false
  pub target : is_target_state state ≡ false

pub shut_sealed : (state : BlockState) → state ≡ the.Sealed → IsShut state
shut_sealed state is = record { active = ap is_active_state is; target = ap is_target_state is }

pub shut_free : (state : BlockState) → is_free_state state ≡ true → IsShut state
shut_free state free = record { active = ap is_active_state (free_is state free); target = ap is_target_state (free_is state free) }

pub shut_after : (names : ℕ) → IsShut (after_erase names)
shut_after zero = record { active = refl; target = refl }
shut_after (suc names) = record { active = refl; target = refl }

pub shut_victim : (state : BlockState) → state ≡ the.Victim → IsShut state
shut_victim state is = record { active = ap is_active_state is; target = ap is_target_state is }

pub shut_retired : (state : BlockState) → is_retired_state state ≡ true → IsShut state
shut_retired the.Free is = record { active = refl; target = refl }
shut_retired the.Active is = absurd (true≢false (sym is))
shut_retired the.Target is = absurd (true≢false (sym is))
shut_retired the.Sealed is = record { active = refl; target = refl }
shut_retired the.Victim is = record { active = refl; target = refl }
shut_retired (the.Retired names) is = record { active = refl; target = refl }

pub shut_told : (state : BlockState) → IsShut (told_state state)
shut_told the.Free = record { active = refl; target = refl }
shut_told the.Active = record { active = refl; target = refl }
shut_told the.Target = record { active = refl; target = refl }
shut_told the.Sealed = record { active = refl; target = refl }
shut_told the.Victim = record { active = refl; target = refl }
shut_told (the.Retired names) = record { active = refl; target = refl }

pub shut_aside : (state : BlockState) → IsShut (aside_state state)
shut_aside the.Free = record { active = refl; target = refl }
shut_aside the.Active = record { active = refl; target = refl }
shut_aside the.Target = record { active = refl; target = refl }
shut_aside the.Sealed = record { active = refl; target = refl }
shut_aside the.Victim = record { active = refl; target = refl }
shut_aside (the.Retired names) = record { active = refl; target = refl }

-- the pages of a block in its new state are marked in rising order, where it is one in which pages are used
pub record IsRowRisen (row : BlockRow) : Type 0 where
  pub active : is_active_state row.state ≡ true → IsRisen row.pages
  pub target : is_target_state row.state ≡ true → IsRisen row.pages

pub shut_risen : (row : BlockRow) → IsShut row.state → IsRowRisen row
shut_risen row is = record { active = λ e. absurd (both_ways _ is.active e); target = λ e. absurd (both_ways _ is.target e) }

pub rows_rise : (t : Table) (block : ℕ) (row : BlockRow) → HasBlock t block → ActiveAndTargetAreRisen t → IsRowRisen row → ActiveAndTargetAreRisen (with_block t block row)
rows_rise t block row has rising risen = record {
  active = rising-with is_active_state t block row has rising.active risen.active;
  target = rising-with is_target_state t block row has rising.target risen.target;
}

-- a block whose pages stay as live as they were
pub same_marks : (t : Table) (block : ℕ) (row : BlockRow) → HasBlock t block → ((k : ℕ) → (get_or row.pages k new_page).state ≡ (get_or (block_at t block).pages k new_page).state) → (ActiveAndTargetAreRisen t → IsRowRisen row)
    → SameMarks t (with_block t block row)
same_marks t block row has same risen = record {
  rises = λ rising. rows_rise t block row has rising (risen rising);
  same = λ page has_page. ⊎_elim
      (λ here. ap (λ (p : Page). p.state) (page_here (with_block t block row) page block here) ∙ (ap (λ (r : BlockRow). (get_or r.pages (page % t.size) new_page).state) (row_here t block row has)
      ∙ (same (page % t.size) ∙ sym (ap (λ (p : Page). p.state) (page_here t page block here)))))
      (λ ne. ap (λ (r : BlockRow). (get_or r.pages (page % t.size) new_page).state) (block_at-with_block_other t block (page / t.size) row has has_page ne))
      (cases_eq (page / t.size) block);
}

pub marks_then : {a b c : Table} → b.size ≡ a.size → SameNumbers a b → SameMarks a b → SameMarks b c → SameMarks a c
marks_then {a} {b} {c} size numbers first second = record {
  rises = λ rising. second.rises (first.rises rising);
  same = λ page has. second.same page (subst (λ n. HasBlock b (page / n)) (sym size) (has_same (page / a.size) numbers has)) ∙ first.same page has;
}

-- in the other blocks as many pages are used
pub fill_beside : (t : Table) (block : ℕ) (row : BlockRow) → HasBlock t block → SameFillBeside block t (with_block t block row)
fill_beside t block row has = record {
  used = λ other has_other ne. used-other is_active_state t block row has other has_other ne;
  filled = λ other has_other ne. used-other is_target_state t block row has other has_other ne;
}

pub fill_then : {block : ℕ} {a b c : Table} → SameNumbers a b → SameFillBeside block a b → SameFillBeside block b c → SameFillBeside block a c
fill_then numbers first second = record {
  used = λ other has ne. second.used other (has_same other numbers has) ne ∙ first.used other has ne;
  filled = λ other has ne. second.filled other (has_same other numbers has) ne ∙ first.filled other has ne;
}

-- The block was in none of the states in which pages are used, and is in none.
pub fill_shut : (t : Table) (block : ℕ) (row : BlockRow) → HasBlock t block → IsShut (block_at t block).state → IsShut row.state → SameFill t (with_block t block row)
fill_shut t block row has was now = record {
  used = used-each is_active_state t block row has (cond-false (is_active_state row.state) (first_unmarked row.pages) t.size now.active
      ∙ sym (cond-false (is_active_state (block_at t block).state) (first_unmarked (block_at t block).pages) t.size was.active));
  filled = used-each is_target_state t block row has (cond-false (is_target_state row.state) (first_unmarked row.pages) t.size now.target
      ∙ sym (cond-false (is_target_state (block_at t block).state) (first_unmarked (block_at t block).pages) t.size was.target));
}

-- the table is over one block
pub restated : (t : Table) (block : ℕ) (row : BlockRow) (free : Bool) (wear : ℕ) → HasBlock t block → use_of row ≡ use_with free wear → ((k : ℕ) → (get_or row.pages k new_page).state ≡ (get_or (block_at t block).pages k new_page).state)
    → (ActiveAndTargetAreRisen t → IsRowRisen row) → SetsUse block free wear t (with_block t block row)
restated t block row free wear has use_is same risen = record {
  marks = same_marks t block row has same risen;
  fill = fill_beside t block row has;
  numbers = record { same_first = refl; same_size = refl; same_count = length-set t.blocks (block - t.first) row };
  here = use_here (with_block t block row) block (with_has t block block row has) ∙ (ap use_of (row_here t block row has) ∙ use_is);
  others = λ other ne. use_other t block other row has ne;
  states = λ other has_other ne. ap (λ (r : BlockRow). r.state) (block_at-with_block_other t block other row has has_other ne);
  total =
      let sums = sum_by-with_block (λ r. cond (is_free r) 1 0) t block row has in
      let was : num (use_in t block).is_free ≡ num (is_free (block_at t block)) = ap (λ (u : Use). num u.is_free) (use_here t block has) in
      let now : num (is_free row) ≡ num free = ap (λ (u : Use). num u.is_free) use_is in
      omega (arith, sums, was, now);
}

-- what was done to one block, twice
pub restated_again : {block wear more : ℕ} {was now : Bool} {a b c : Table} → SetsUse block was wear a b → SetsUse block now more b c → SetsUse block now more a c
restated_again {block} {wear} {more} {was} {now} {a} {b} {c} first second = record {
  numbers = numbers_then first.numbers second.numbers;
  here = second.here;
  others = λ other ne. second.others other ne ∙ first.others other ne;
  marks = marks_then first.numbers.same_size first.numbers first.marks second.marks;
  fill = fill_then first.numbers first.fill second.fill;
  states = λ other has ne. second.states other (has_same other first.numbers has) ne ∙ first.states other has ne;
  total =
      let t1 = first.total in
      let t2 : free_count c + cond was 1 0 ≡ free_count b + cond now 1 0 = ap (λ (u : Use). free_count c + cond u.is_free 1 0) (sym first.here) ∙ second.total in
      omega (arith, t1, t2);
}

-- a block that is again what it was
pub restated_same : {block wear : ℕ} {free : Bool} {a b : Table} → use_in a block ≡ use_with free wear → SetsUse block free wear a b → SameUse a b
restated_same {block} {wear} {free} {a} {b} was r = record {
  numbers = r.numbers;
  uses = λ other. ⊎_elim
      (λ is. ap (use_in b) is ∙ (r.here ∙ (sym was ∙ ap (use_in a) (sym is))))
      (λ ne. r.others other ne)
      (cases_eq other block);
  total = let t : free_count b + cond free 1 0 ≡ free_count a + cond free 1 0 = ap (λ (u : Use). free_count b + cond u.is_free 1 0) (sym was) ∙ r.total in omega (arith, t);
}

pub same_then : {a b c : Table} → SameUse a b → SameUse b c → SameUse a c
same_then first second = record {
  numbers = numbers_then first.numbers second.numbers;
  uses = λ block. second.uses block ∙ first.uses block;
  total = second.total ∙ first.total;
}

-- a row that is used as the one before it leaves all uses
pub same_row : (t : Table) (block : ℕ) (row : BlockRow) → HasBlock t block → use_of row ≡ use_of (block_at t block) → SameUse t (with_block t block row)
same_row t block row has use_is = record {
  numbers = record { same_first = refl; same_size = refl; same_count = length-set t.blocks (block - t.first) row };
  uses = λ other. ⊎_elim
      (λ is. ap (use_in (with_block t block row)) is ∙ (use_here (with_block t block row) block (with_has t block block row has) ∙ (ap use_of (row_here t block row has)
      ∙ (use_is ∙ (sym (use_here t block has) ∙ ap (use_in t) (sym is))))))
      (λ ne. use_other t block other row has ne)
      (cases_eq other block);
  total =
      let sums = sum_by-with_block (λ r. cond (is_free r) 1 0) t block row has in
      let now : num (is_free row) ≡ num (is_free (block_at t block)) = ap (λ (u : Use). num u.is_free) use_is in
      omega (arith, sums, now);
}

-- a block has another wear
pub told_block : (t : Table) (block : ℕ) (row : BlockRow) (wear : ℕ) → HasBlock t block → use_of row ≡ record { is_free = (use_in t block).is_free; is_kept = (use_in t block).is_kept; wear = wear }
    → ((k : ℕ) → (get_or row.pages k new_page).state ≡ (get_or (block_at t block).pages k new_page).state) → (ActiveAndTargetAreRisen t → IsRowRisen row) → SetsWear block wear t (with_block t block row)
told_block t block row wear has use_is same risen = record {
  fill = fill_beside t block row has;
  numbers = record { same_first = refl; same_size = refl; same_count = length-set t.blocks (block - t.first) row };
  here = use_here (with_block t block row) block (with_has t block block row has) ∙ (ap use_of (row_here t block row has) ∙ use_is);
  others = λ other ne. use_other t block other row has ne;
  states = λ other has_other ne. ap (λ (r : BlockRow). r.state) (block_at-with_block_other t block other row has has_other ne);
  total =
      let sums = sum_by-with_block (λ r. cond (is_free r) 1 0) t block row has in
      let was : num (use_in t block).is_free ≡ num (is_free (block_at t block)) = ap (λ (u : Use). num u.is_free) (use_here t block has) in
      let now : num (is_free row) ≡ num (use_in t block).is_free = ap (λ (u : Use). num u.is_free) use_is in
      omega (arith, sums, was, now);
  marks = same_marks t block row has same risen;
}

-- a block that is Free, or in use, is that still
pub told_restated : (t n : Table) (block wear : ℕ) (free : Bool) → (use_in t block).is_free ≡ free → (use_in t block).is_kept ≡ free → SetsUse block free wear t n → SetsWear block wear t n
told_restated t n block wear free is_free_now is_kept_now r = record {
  numbers = r.numbers;
  here = r.here ∙ (λ i. record { is_free = sym is_free_now i; is_kept = sym is_kept_now i; wear = wear });
  others = r.others;
  states = r.states;
  total = let t1 = r.total in let e : num (use_in t block).is_free ≡ num free = ap num is_free_now in omega (arith, t1, e);
  marks = r.marks;
  fill = r.fill;
}

-- the state of a block that is Free
pub free_state_is : (t : Table) (block : ℕ) → HasBlock t block → (use_in t block).is_free ≡ true → (block_at t block).state ≡ the.Free
free_state_is t block has free = free_is (block_at t block).state (sym (ap (λ (u : Use). u.is_free) (use_here t block has)) ∙ free)

pub after_some : (n : ℕ) → 0 < n → after_erase n ≡ the.Retired n
after_some zero some = absurd (omega (arith, some))
after_some (suc n) some = refl

-- neither Free nor waiting
pub used_state : (state : BlockState) → (state ≡ the.Free → ⊥) → ((names : ℕ) → state ≡ the.Retired names → ⊥) → (is_free_state state ≡ false) × (is_kept_state state ≡ false) × (told_state state ≡ the.Sealed)
used_state the.Free free waits = absurd (free refl)
used_state the.Active free waits = (refl, refl, refl)
used_state the.Target free waits = (refl, refl, refl)
used_state the.Sealed free waits = (refl, refl, refl)
used_state the.Victim free waits = (refl, refl, refl)
used_state (the.Retired names) free waits = absurd (waits names refl)

-- a block is in another state, and kept where it was
pub put_block : (t n : Table) (block : ℕ) (state now : BlockState) → HasBlock t block → n ≡ with_block t block (in_state (block_at t block) now) → now ≡ state → is_kept_state now ≡ is_kept_state (block_at t block).state → IsShut now → IsPut block state t n
put_block t n block state now has made is kept shut = subst (λ u. IsPut block state t u) (sym made) (record {
  numbers = record { same_first = refl; same_size = refl; same_count = length-set t.blocks (block - t.first) row };
  here = ap (λ (r : BlockRow). r.state) (row_here t block row has) ∙ is;
  states = λ other has_other ne. ap (λ (r : BlockRow). r.state) (block_at-with_block_other t block other row has has_other ne);
  kept = λ other. ⊎_elim
      (λ e. ap (λ b. (use_in made_table b).is_kept) e ∙ (ap (λ (u : Use). u.is_kept) here ∙ (kept ∙ (ap (λ (u : Use). u.is_kept) (sym was) ∙ ap (λ b. (use_in t b).is_kept) (sym e)))))
      (λ ne. ap (λ (u : Use). u.is_kept) (use_other t block other row has ne))
      (cases_eq other block);
  wears = λ other. ⊎_elim
      (λ e. ap (λ b. (use_in made_table b).wear) e ∙ (ap (λ (u : Use). u.wear) here ∙ (ap (λ (u : Use). u.wear) (sym was) ∙ ap (λ b. (use_in t b).wear) (sym e))))
      (λ ne. ap (λ (u : Use). u.wear) (use_other t block other row has ne))
      (cases_eq other block);
  frees = λ other ne. ap (λ (u : Use). u.is_free) (use_other t block other row has ne);
  total =
      let sums = sum_by-with_block (λ r. cond (is_free r) 1 0) t block row has in
      let before : num (use_in t block).is_free ≡ num (is_free (block_at t block)) = ap (λ (u : Use). num u.is_free) was in
      let after : num (is_free_state now) ≡ num (is_free_state state) = ap (λ (b : BlockState). num (is_free_state b)) is in
      omega (arith, sums, before, after);
  marks = same_marks t block row has (λ k. refl) (λ rising. shut_risen row shut);
  fill = fill_beside t block row has;
})
  where
    row : BlockRow
    row = in_state (block_at t block) now

    made_table : Table
    made_table = with_block t block row

    here : use_in made_table block ≡ use_of row
    here = use_here made_table block (with_has t block block row has) ∙ ap use_of (row_here t block row has)

    was : use_in t block ≡ use_of (block_at t block)
    was = use_here t block has

-- nothing changed
pub put_same : (t : Table) (block : ℕ) (state : BlockState) → HasBlock t block → (block_at t block).state ≡ state → is_free_state state ≡ false → IsPut block state t t
put_same t block state has is free = record {
  numbers = record { same_first = refl; same_size = refl; same_count = refl };
  here = is;
  states = λ other has_other ne. refl;
  kept = λ other. refl;
  wears = λ other. refl;
  frees = λ other ne. refl;
  total =
      let a : num (use_in t block).is_free ≡ num (is_free_state state) = ap (λ (u : Use). num u.is_free) (use_here t block has) ∙ ap (λ (b : BlockState). num (is_free_state b)) is in
      omega (arith, a);
  marks = record { same = λ p has_page. refl; rises = λ rising. rising };
  fill = record { used = λ other has_other ne. refl; filled = λ other has_other ne. refl };
}
