-- Facts about the table of blocks.
use Rattle.std.proofs.Common.{◌≡◌, ℕ, suc, zero, ◌+◌, ◌-◌, ◌*◌, ◌/◌, ◌^◌, ◌<◌, ◌≤◌, Bool, true, false, cond, ◌==◌, List, [], ◌∷◌, length, get_or, map, set, replicate, Option, Some, None, IfNone, IfSome, MatchOption, refl, sym, ap, subst, ◌∙◌, ◌⊎◌, inl, inr, arith}
use Rattle.std.specs.List.{count_by}
use Rattle.std.proofs.lemmas.Bool.{both_ways, cases_eq, eq-eqb, ne_eqb}
use Rattle.std.proofs.Math.Nat.{le-mul_of_pos_right}
use Rattle.std.proofs.lemmas.Nat.{div-mul-add, mod-mul-add}
use Rattle.std.proofs.Math.Seq.{map-set_same}
use Rattle.std.proofs.lemmas.List.{length-set, length-map, length-replicate, get_or_default, get_or-set_same, get_or-set_other, get_or-map, get_or-replicate, ext_get_or, map-set}
use Rattle.std.proofs.lemmas.List.Elements.{All-replicate, All-set}
use Rattle.std.proofs.lemmas.List.Sums.{count_by-le-length, sum_by-cons, sum_by-set}
use Rattle.nl_blocks.specs.declared.states.BlockState.{BlockState}
use Rattle.nl_blocks.specs.declared.states.Page.{Page}
use Rattle.nl_blocks.specs.declared.states.BlockState.TheVariants.{Free, Active, Target, Sealed, Victim, Retired}
use Rattle.nl_blocks.specs.declared.states.PageState.TheVariants.{Live}
use Rattle.nl_blocks.specs.Table.{BlockRow, Table, IsRow, IsBlockTable, IsTableSummary, HasBlock, after_erase, free_count, is_free_state, is_retired_state, is_sealed_state, names_of, block_at, page_at, new_page, new_row, row_at, no_row, is_dead, is_free, wear_of, wear_if_free, NonePass, BestOf, IsFirstLeast, taken, unmarked}
use Rattle.nl_blocks.specs.Tournament.{IsFirstOfLeast, NonePresent, key_at}

-- the number of blocks is a u32
pub count_fits : (t : Table) → IsBlockTable t → t.first + length t.blocks < 2 ^ 32
count_fits t is = omega (arith, le-mul_of_pos_right (t.first + length t.blocks) is.some, is.numbers)

-- where no row passes, the count is zero
pub count_none : (test : BlockRow → Bool) (rows : List BlockRow) → NonePass test rows (length rows) → count_by test rows ≡ 0
count_none test [] none = refl
count_none test (row ∷ rows) none =
    let here : test row ≡ false = none 0 (omega arith) in
    let rest : count_by test rows ≡ 0 = count_none test rows (λ j below. none (suc j) (omega arith)) in
    rw (sum_by-cons (λ x. cond (test x) 1 0) row rows, here) (omega arith)

-- where a row passes, the count is not zero
pub count_some : (test : BlockRow → Bool) (rows : List BlockRow) (i : ℕ) → i < length rows → test (row_at rows i) ≡ true → 1 ≤ count_by test rows
count_some test [] i below passes = absurd (omega arith)
count_some test (row ∷ rows) zero below passes = rw (sum_by-cons (λ x. cond (test x) 1 0) row rows, passes) (omega arith)
count_some test (row ∷ rows) (suc i) below passes =
    let rest : 1 ≤ count_by test rows = count_some test rows i (omega arith) passes in
    rw (sum_by-cons (λ x. cond (test x) 1 0) row rows) (omega arith)

-- how a search by least key that ended counts the rows that pass
pub best_none : (test : BlockRow → Bool) (key : BlockRow → ℕ) (rows : List BlockRow) (n : ℕ) (best : Option ℕ) → n ≡ length rows → BestOf test key rows n best → IfNone best (count_by test rows ≡ 0)
best_none test key rows n None all none = count_none test rows (rw (← all) none)
best_none test key rows n (Some i) all is = tt

pub best_some : (test : BlockRow → Bool) (key : BlockRow → ℕ) (rows : List BlockRow) (n : ℕ) (best : Option ℕ) → n ≡ length rows → BestOf test key rows n best → IfSome best (λ _. 1 ≤ count_by test rows)
best_some test key rows n None all none = tt
best_some test key rows n (Some i) all is = count_some test rows i (omega (arith, is.within)) is.passes

-- a block with a live page has fewer dead pages than pages
pub live_fits : (pages : List Page) (i : ℕ) (page : Page) → page ≡ get_or pages i page → i < length pages → page.state ≡ Live → count_by is_dead pages + 1 ≤ length pages
live_fits pages i page at below live =
    let alive : is_dead page ≡ false = rw live refl in
    let here : is_dead (get_or pages i page) ≡ false = rw (← at) alive in
    let change = sum_by-set (λ x. cond (is_dead x) 1 0) pages i new_page page below in
    let counted : count_by is_dead (set pages i new_page) + cond (is_dead (get_or pages i page)) 1 0 ≡ count_by is_dead pages + 1 = change in
    let less : count_by is_dead (set pages i new_page) ≤ length pages = rw (length-set pages i new_page) at (count_by-le-length is_dead (set pages i new_page)) in
    let all = rw here at counted in
    omega arith

pub row_size : (t : Table) → IsBlockTable t → (block : ℕ) → HasBlock t block → length (block_at t block).pages ≡ t.size
row_size t is block has = (is.each (block - t.first) no_row (omega arith)).pages

-- a block of which a page is not marked is not full
pub not_full : (t : Table) → IsBlockTable t → (block : ℕ) → HasBlock t block → (row : BlockRow) → row ≡ get_or t.blocks (block - t.first) row
    → (at : ℕ) → at < length row.pages → (get_or row.pages at new_page).marked ≡ false
    → ((page : ℕ) → page / t.size ≡ block → (page_at t page).marked ≡ true) → true ≡ false
not_full t is block has row row_is at below free all =
    let here : get_or t.blocks (block - t.first) no_row ≡ row = sym (row_is ∙ get_or_default t.blocks (block - t.first) row no_row (omega arith)) in
    let size : length row.pages ≡ t.size = rw here at (row_size t is block has) in
    let within : at < t.size = omega arith in
    let full : (page_at t (block * t.size + at)).marked ≡ true = all (block * t.size + at) (div-mul-add block t.size at within) in
    let same : (page_at t (block * t.size + at)).marked ≡ (get_or row.pages at new_page).marked =
    rw (div-mul-add block t.size at within, mod-mul-add block t.size at within, here) refl in
    sym full ∙ (same ∙ free)

-- the number of Free blocks is a u32
pub free_fits : (t : Table) → IsBlockTable t → count_by is_free t.blocks < 2 ^ 32
free_fits t is = omega (arith, count_fits t is, count_by-le-length is_free t.blocks)

-- ---- the wear of the Free blocks

free-key : (free : Bool) (wear key : ℕ) → cond free (Some wear) None ≡ Some key → (free ≡ true) × (wear ≡ key)
free-key true wear key e = (refl, cc)
free-key false wear key e = absurd (other e)
  where
    other : None ≡ Some key → ⊥
    other e = cc

not-free : (free : Bool) (wear : ℕ) → cond free (Some wear) None ≡ None → free ≡ false
not-free false wear e = refl
not-free true wear e = absurd (other e)
  where
    other : Some wear ≡ None → ⊥
    other e = cc

key-of-row : (rows : List BlockRow) (j : ℕ) → j < length rows → key_at (map wear_if_free rows) j ≡ wear_if_free (row_at rows j)
key-of-row rows j below = get_or-map wear_if_free rows j no_row None below

-- the first of the least keys is the least worn Free block
pub best_of : (rows : List BlockRow) (keys : List (Option ℕ)) (best : Option ℕ) → keys ≡ map wear_if_free rows → MatchOption best (NonePresent keys) (λ i. IsFirstOfLeast keys i)
    → BestOf is_free wear_of rows (length rows) best
best_of rows keys None is none = λ j below. not-free (is_free (row_at rows j)) (row_at rows j).wear (sym (key-of-row rows j below) ∙ (ap (λ (ks : List (Option ℕ)). key_at ks j) (sym is) ∙ none j))
best_of rows keys (Some i) is first =
    let here = free-key (is_free (row_at rows i)) (row_at rows i).wear first.key (sym (key-of-row rows i within) ∙ (ap (λ (ks : List (Option ℕ)). key_at ks i) (sym is) ∙ first.present)) in
    let wear = here.1 in
    record {
      within = within;
      passes = here.0;
      least = λ j below passes. (let l = first.least j (row_at rows j).wear (present j below passes) in omega (arith, wear, l));
      earlier = λ j before passes. (let l = first.earlier j (row_at rows j).wear before (present j (omega (arith, before, within)) passes) in omega (arith, wear, l));
    }
  where
    within : i < length rows
    within = let n = length-map rows wear_if_free in let l = ap length is in let w = first.within in omega (arith, n, l, w)

    present : (j : ℕ) → j < length rows → is_free (row_at rows j) ≡ true → key_at keys j ≡ Some (row_at rows j).wear
    present j below passes = ap (λ (ks : List (Option ℕ)). key_at ks j) is ∙ (key-of-row rows j below ∙ ap (λ (b : Bool). cond b (Some (row_at rows j).wear) None) passes)

-- a row replaced
module _ (t : Table) (free : ℕ) (keys : List (Option ℕ)) (is : IsTableSummary t free keys) (i : ℕ) (x y : BlockRow) (inside : i < length t.blocks) (read : x ≡ get_or t.blocks i x) (stays : IsRow t.size x → IsRow t.size y) where
  abbrev replaced : Table
  replaced = record { first = t.first; size = t.size; blocks = set t.blocks i y }

  still : IsBlockTable replaced
  still = record {
    some = is.table.some;
    numbers = (let n = is.table.numbers in rw length-set n);
    each = All-set (IsRow t.size) t.blocks i y (stays (subst (IsRow t.size) (sym read) (is.table.each i x inside))) is.table.each;
  }

  count : free_count replaced + cond (is_free x) 1 0 ≡ free + cond (is_free y) 1 0
  count =
      let change = sum_by-set (λ r. cond (is_free r) 1 0) t.blocks i y x inside in
      let one : Bool → ℕ = λ b. cond b 1 0 in
      let was : one (is_free (get_or t.blocks i x)) ≡ one (is_free x) = ap (λ (r : BlockRow). one (is_free r)) (sym read) in
      let counted = is.counted in
      omega (arith, change, was, counted)

  pub kept : (free2 : ℕ) (keys2 : List (Option ℕ)) (key : Option ℕ) → free2 + cond (is_free x) 1 0 ≡ free + cond (is_free y) 1 0 → keys2 ≡ set keys i key → key ≡ wear_if_free y → IsTableSummary replaced free2 keys2
  kept free2 keys2 key counted keyed at = record {
    table = still;
    counted = (let n = count in omega (arith, n, counted));
    keyed = keyed ∙ ((λ j. set (is.keyed j) i (at j)) ∙ sym (map-set wear_if_free t.blocks i y));
  }

  -- by one with the same key
  pub kept_same : is_free y ≡ is_free x → wear_if_free y ≡ wear_if_free x → IsTableSummary replaced free keys
  kept_same same_state same_key = record {
    table = still;
    counted = (let one : Bool → ℕ = λ b. cond b 1 0 in let n = count in let e : one (is_free y) ≡ one (is_free x) = ap one same_state in omega (arith, n, e));
    keyed = is.keyed ∙ sym (map-set_same wear_if_free t.blocks i y no_row (same_key ∙ ap wear_if_free (read ∙ get_or_default t.blocks i x no_row inside)));
  }

pub erased_names : (names : ℕ) → is_retired_state (after_erase names) ≡ true → 0 < names_of (after_erase names)
erased_names zero e = absurd (no e)
  where
    no : false ≡ true → ⊥
    no e = cc
erased_names (suc names) e = omega arith

-- whether a block is Free that so many names are left in
pub erased_free : (names : ℕ) → (names == 0) ≡ is_free_state (after_erase names)
erased_free names = by (cases_eq names 0)
  where
    by : (names ≡ 0) ⊎ (names ≡ 0 → ⊥) → (names == 0) ≡ is_free_state (after_erase names)
    by (inl e) = eq-eqb names 0 e ∙ ap (λ (n : ℕ). is_free_state (after_erase n)) (sym e)
    by (inr far) = let more : suc (names - 1) ≡ names = omega arith in ne_eqb names 0 far ∙ ap (λ (n : ℕ). is_free_state (after_erase n)) more

pub last_name : (names : ℕ) → 0 < names → (names == 1) ≡ is_free_state (after_erase (names - 1))
last_name names some = by (cases_eq names 1)
  where
    by : (names ≡ 1) ⊎ (names ≡ 1 → ⊥) → (names == 1) ≡ is_free_state (after_erase (names - 1))
    by (inl e) = let none : 0 ≡ names - 1 = omega arith in eq-eqb names 1 e ∙ ap (λ (n : ℕ). is_free_state (after_erase n)) none
    by (inr far) = let more : suc (names - 2) ≡ names - 1 = omega arith in ne_eqb names 1 far ∙ ap (λ (n : ℕ). is_free_state (after_erase n)) more

counted_by : (free free2 : ℕ) (was now a b : Bool) → free2 + cond was 1 0 ≡ free + cond now 1 0 → was ≡ a → now ≡ b → free2 + cond a 1 0 ≡ free + cond b 1 0
counted_by free free2 was now a b counted e f = subst (λ (x : Bool). free2 + cond x 1 0 ≡ free + cond b 1 0) e (subst (λ (y : Bool). free2 + cond was 1 0 ≡ free + cond y 1 0) f counted)

-- a row that was read twice, and one that was read after it was written
same_read : (rows : List BlockRow) (i : ℕ) (x y : BlockRow) → i < length rows → x ≡ get_or rows i x → y ≡ get_or rows i y → x ≡ y
same_read rows i x y inside a b = a ∙ (get_or_default rows i x y inside ∙ sym b)

read_set : (rows : List BlockRow) (i : ℕ) (y z : BlockRow) → i < length rows → z ≡ get_or (set rows i y) i z → z ≡ y
read_set rows i y z inside a = a ∙ get_or-set_same rows i y z inside

-- A row was looked at, changed, and its key taken from it.
pub renewed : (t : Table) (free : ℕ) (keys : List (Option ℕ)) → IsTableSummary t free keys → (i : ℕ) → i < length t.blocks → (w x y z : BlockRow) → w ≡ get_or t.blocks i w → x ≡ get_or t.blocks i x → z ≡ get_or (set t.blocks i y) i z
    → (IsRow t.size x → IsRow t.size y) → (free2 : ℕ) (was now : Bool) → free2 + cond was 1 0 ≡ free + cond now 1 0 → was ≡ is_free w → now ≡ is_free y
    → (keys2 : List (Option ℕ)) (key : Option ℕ) → keys2 ≡ set keys i key → key ≡ wear_if_free z → IsTableSummary (record { first = t.first; size = t.size; blocks = set t.blocks i y }) free2 keys2
renewed t free keys is i inside w x y z read_w read_x read_z stays free2 was now counted was_is now_is keys2 key keyed at =
    kept t free keys is i x y inside read_x stays free2 keys2 key
    (counted_by free free2 was now (is_free x) (is_free y) counted (was_is ∙ ap is_free (same_read t.blocks i w x inside read_w read_x)) now_is)
    keyed (at ∙ ap wear_if_free (read_set t.blocks i y z inside read_z))

-- A row was changed to one that is not Free.
pub sealed : (t : Table) (free : ℕ) (keys : List (Option ℕ)) → IsTableSummary t free keys → (i : ℕ) → i < length t.blocks → (w x y : BlockRow) → w ≡ get_or t.blocks i w → x ≡ get_or t.blocks i x
    → (IsRow t.size x → IsRow t.size y) → (free2 : ℕ) (was : Bool) → free2 + cond was 1 0 ≡ free + 0 → was ≡ is_free w → is_free y ≡ false
    → (keys2 : List (Option ℕ)) → keys2 ≡ set keys i None → IsTableSummary (record { first = t.first; size = t.size; blocks = set t.blocks i y }) free2 keys2
sealed t free keys is i inside w x y read_w read_x stays free2 was counted was_is now_is keys2 keyed =
    kept t free keys is i x y inside read_x stays free2 keys2 None
    (counted_by free free2 was false (is_free x) (is_free y) counted (was_is ∙ ap is_free (same_read t.blocks i w x inside read_w read_x)) (sym now_is))
    keyed (sym (ap (λ (b : Bool). cond b (Some y.wear) None) now_is))

-- the row of a block, as it was read
pub row_read : (t : Table) (block : ℕ) (x : BlockRow) → block - t.first < length t.blocks → x ≡ get_or t.blocks (block - t.first) x → block_at t block ≡ x
row_read t block x inside read = get_or_default t.blocks (block - t.first) no_row x inside ∙ sym read

-- a Sealed block is neither Free nor Retired
pub sealed_not_free : (s : BlockState) → is_sealed_state s ≡ true → is_free_state s ≡ false
sealed_not_free Free e = absurd (both_ways false refl e)
sealed_not_free Active e = refl
sealed_not_free Target e = refl
sealed_not_free Sealed e = refl
sealed_not_free Victim e = refl
sealed_not_free (Retired names) e = refl

-- A Free block was given out.
pub given : (t : Table) (free : ℕ) (keys : List (Option ℕ)) → IsTableSummary t free keys → (i : ℕ) → IsFirstLeast is_free wear_of t.blocks (length t.blocks) i → 1 ≤ free_count t → (x y : BlockRow) → x ≡ get_or t.blocks i x
    → (state : BlockState) → is_free_state state ≡ false → is_retired_state state ≡ false → y ≡ taken x state
    → (keys2 : List (Option ℕ)) → keys2 ≡ set keys i None → IsTableSummary (record { first = t.first; size = t.size; blocks = set t.blocks i y }) (free - 1) keys2
given t free keys is i first some x y read state in_use idle e keys2 keyed =
    let inside = first.within in
    let was : is_free x ≡ true = ap is_free (read ∙ get_or_default t.blocks i x no_row inside) ∙ first.passes in
    let now : is_free y ≡ false = ap is_free e ∙ in_use in
    let counted = is.counted in
    let numbers : (free - 1) + 1 ≡ free + 0 = omega (arith, some, counted) in
    kept t free keys is i x y inside read
    (λ row. record {
      pages = ap (λ (r : BlockRow). length r.pages) e ∙ (length-map x.pages unmarked ∙ row.pages);
      names = λ r. absurd (both_ways (is_retired_state y.state) (ap (λ (z : BlockRow). is_retired_state z.state) e ∙ idle) r);
    })
    (free - 1) keys2 None (counted_by free (free - 1) true false (is_free x) (is_free y) numbers (sym was) (sym now)) keyed
    (sym (ap (λ (b : Bool). cond b (Some y.wear) None) now))

-- the keys of a new table
pub new_waiting : (count size : ℕ) (keys : List (Option ℕ)) → length keys ≡ count → ((k : ℕ) → k < count → key_at keys k ≡ Some 0) → keys ≡ map wear_if_free (replicate count (new_row size))
new_waiting count size keys n each =
    let l = length-map (replicate count (new_row size)) wear_if_free in
    let r = length-replicate count (new_row size) in
    ext_get_or None keys (map wear_if_free (replicate count (new_row size))) (omega (arith, n, l, r)) (λ k below.
    let inside : k < count = omega (arith, n, below) in
    let inside_rows : k < length (replicate count (new_row size)) = omega (arith, inside, r) in
    each k inside ∙ sym (key-of-row (replicate count (new_row size)) k inside_rows ∙ ap wear_if_free (get_or-replicate count k (new_row size) no_row inside)))

-- one more of them
pub keyed_more : (keys new : List (Option ℕ)) (at : ℕ) → new ≡ set keys at (Some 0) → at < length keys → ((k : ℕ) → k < at → key_at keys k ≡ Some 0) → (k : ℕ) → k < at + 1 → key_at new k ≡ Some 0
keyed_more keys new at is inside each k below = ap (λ (ks : List (Option ℕ)). key_at ks k) is ∙ by (cases_eq k at)
  where
    by : (k ≡ at) ⊎ (k ≡ at → ⊥) → key_at (set keys at (Some 0)) k ≡ Some 0
    by (inl e) = ap (key_at (set keys at (Some 0))) e ∙ get_or-set_same keys at (Some 0) None inside
    by (inr far) = get_or-set_other keys at k (Some 0) None far ∙ each k (omega arith)

all_free : (n : ℕ) (row : BlockRow) → is_free row ≡ true → count_by is_free (replicate n row) ≡ n
all_free zero row free = refl
all_free (suc n) row free =
    let rest = all_free n row free in
    rw (sum_by-cons (λ x. cond (is_free x) 1 0) row (replicate n row), free) (omega (arith, rest))

new_is_row : (size : ℕ) → IsRow size (new_row size)
new_is_row size = record { pages = length-replicate size new_page; names = λ e. absurd (both_ways false refl e) }

pub tied_new : (first count size n : ℕ) (keys : List (Option ℕ)) (rows : List BlockRow) → rows ≡ replicate n (new_row size) → n ≡ count → 0 < size → (first + count) * size < 2 ^ 32 → length keys ≡ count → ((k : ℕ) → k < n → key_at keys k ≡ Some 0)
    → IsTableSummary (record { first = first; size = size; blocks = rows }) count keys
tied_new first count size n keys rows are e some numbers places each =
    subst (λ (rs : List BlockRow). IsTableSummary (record { first = first; size = size; blocks = rs }) count keys) (sym (are ∙ ap (λ (k : ℕ). replicate k (new_row size)) e)) (record {
      table = record {
        some = some;
        numbers = rw (length-replicate count (new_row size)) numbers;
        each = All-replicate (IsRow size) count (new_row size) (new_is_row size);
      };
      counted = sym (all_free count (new_row size) refl);
      keyed = new_waiting count size keys places (λ k below. each k (omega (arith, below, e)));
    })
