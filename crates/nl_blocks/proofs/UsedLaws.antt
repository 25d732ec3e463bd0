-- What each step on the table does to the number of used pages, for the crates above.
use Rattle.std.proofs.Common.{◌≡◌, ℕ, zero, suc, ◌+◌, ◌-◌, ◌*◌, ◌/◌, ◌%◌, ◌<◌, ◌≤◌, Bool, true, false, cond, List, [], ◌∷◌, length, get_or, set, map, refl, sym, ap, subst, ◌∙◌, ◌⊎◌, inl, inr, ⊎_elim, arith}
use Rattle.std.proofs.lemmas.Bool.{both_ways, cases_Bool, cases_eq, cases_lt, cond-false, cond-true}
use Rattle.std.proofs.lemmas.Nat.{div-mul-add, div-add-mod', mod-mul-add}
use Rattle.std.proofs.lemmas.List.{get_or-set_other, get_or-set_same, length-set}
use Rattle.nl_blocks.specs.declared.states.BlockState.{BlockState}
use Rattle.nl_blocks.specs.declared.states.Page.{Page}
use Rattle.nl_blocks.specs.declared.states.PageState.{PageState}
use Rattle.nl_blocks.specs.Table.{BlockRow, Table, AreMarkedBefore, HasBlock, HasPage, IsNextPage, IsBlockTable, block_at, new_page, page_at, taken, unmarked, with_block, with_mark, with_page}
use Rattle.nl_blocks.specs.Used.{IsRisen, BlocksAreRisen, SameUsed, first_unmarked, row_used, used_in}
use Rattle.nl_blocks.proofs.TableLaws.{block_at-with_block_other, block_at-with_block_same}
use Rattle.nl_blocks.proofs.TableProofs.{row_size}

-- ---- the pages of one block

first-marked : (page : Page) (pages : List Page) → page.marked ≡ true → first_unmarked (page ∷ pages) ≡ first_unmarked pages + 1
unfolding first_unmarked
first-marked page pages e = cond-true page.marked (first_unmarked pages + 1) 0 e

first-free : (page : Page) (pages : List Page) → page.marked ≡ false → first_unmarked (page ∷ pages) ≡ 0
unfolding first_unmarked
first-free page pages e = cond-false page.marked (first_unmarked pages + 1) 0 e

first-none : first_unmarked [] ≡ 0
unfolding first_unmarked
first-none = refl

pub first-within : (pages : List Page) → first_unmarked pages ≤ length pages
first-within [] = let e = first-none in omega (arith, e)
first-within (page ∷ pages) = by (first-within pages) (cases_Bool page.marked)
  where
    by : first_unmarked pages ≤ length pages → (page.marked ≡ true) ⊎ (page.marked ≡ false) → first_unmarked (page ∷ pages) ≤ suc (length pages)
    by rest (inl e) = let f = first-marked page pages e in omega (arith, rest, f)
    by rest (inr e) = let f = first-free page pages e in omega (arith, f)

pub first-before : (pages : List Page) → AreMarkedBefore pages (first_unmarked pages)
first-before [] k below = absurd (let e = first-none in omega (arith, below, e))
first-before (page ∷ pages) k below = by k below (first-before pages) (cases_Bool page.marked)
  where
    by : (k : ℕ) → k < first_unmarked (page ∷ pages) → AreMarkedBefore pages (first_unmarked pages) → (page.marked ≡ true) ⊎ (page.marked ≡ false) → (get_or (page ∷ pages) k new_page).marked ≡ true
    by zero below rest (inl e) = e
    by (suc k) below rest (inl e) = let f = first-marked page pages e in rest k (omega (arith, below, f))
    by k below rest (inr e) = let f = first-free page pages e in absurd (omega (arith, below, f))

pub first-here : (pages : List Page) → (get_or pages (first_unmarked pages) new_page).marked ≡ false
first-here [] = refl
first-here (page ∷ pages) = by (first-here pages) (cases_Bool page.marked)
  where
    by : (get_or pages (first_unmarked pages) new_page).marked ≡ false → (page.marked ≡ true) ⊎ (page.marked ≡ false) → (get_or (page ∷ pages) (first_unmarked (page ∷ pages)) new_page).marked ≡ false
    by rest (inl e) = let f : first_unmarked (page ∷ pages) ≡ suc (first_unmarked pages) = (let g = first-marked page pages e in omega (arith, g)) in
        ap (λ (k : ℕ). (get_or (page ∷ pages) k new_page).marked) f ∙ rest
    by rest (inr e) = ap (λ (k : ℕ). (get_or (page ∷ pages) k new_page).marked) (first-free page pages e) ∙ e

-- the number is the only one of which this holds
pub first-is : (pages : List Page) (n : ℕ) → AreMarkedBefore pages n → (get_or pages n new_page).marked ≡ false → first_unmarked pages ≡ n
first-is pages n before here = by (cases_lt (first_unmarked pages) n) (cases_lt n (first_unmarked pages))
  where
    by : (first_unmarked pages < n) ⊎ (n ≤ first_unmarked pages) → (n < first_unmarked pages) ⊎ (first_unmarked pages ≤ n) → first_unmarked pages ≡ n
    by (inl less) other = absurd (both_ways _ (first-here pages) (before (first_unmarked pages) less))
    by (inr least) (inl more) = absurd (both_ways _ here (first-before pages n more))
    by (inr least) (inr most) = omega (arith, least, most)

-- the next page is marked
pub first-marks : (pages : List Page) → IsRisen pages → first_unmarked pages < length pages → (page : Page) → page.marked ≡ true → first_unmarked (set pages (first_unmarked pages) page) ≡ first_unmarked pages + 1
first-marks pages risen room page marked = first-is (set pages n page) (n + 1) before (ap (λ (p : Page). p.marked) (get_or-set_other pages n (n + 1) page new_page (λ e. omega (arith, e))) ∙ risen.behind (n + 1) (omega arith))
  where
    n : ℕ
    n = first_unmarked pages

    before : AreMarkedBefore (set pages n page) (n + 1)
    before k below = ⊎_elim
        (λ same. ap (λ (j : ℕ). (get_or (set pages n page) j new_page).marked) same ∙ (ap (λ (p : Page). p.marked) (get_or-set_same pages n page new_page room) ∙ marked))
        (λ other. ap (λ (p : Page). p.marked) (get_or-set_other pages n k page new_page other) ∙ first-before pages k (omega (arith, below, other)))
        (cases_eq k n)

pub risen-marks : (pages : List Page) → IsRisen pages → first_unmarked pages < length pages → (page : Page) → page.marked ≡ true → IsRisen (set pages (first_unmarked pages) page)
risen-marks pages risen room page marked = record {
  behind = λ k from.
      let n = first-marks pages risen room page marked in
      ap (λ (p : Page). p.marked) (get_or-set_other pages (first_unmarked pages) k page new_page (λ e. omega (arith, from, n, e))) ∙ risen.behind k (omega (arith, from, n));
}

-- a page that was used is marked again
pub first-again : (pages : List Page) (at : ℕ) → at < first_unmarked pages → (page : Page) → page.marked ≡ true → first_unmarked (set pages at page) ≡ first_unmarked pages
first-again pages at below page marked =
    first-is (set pages at page) (first_unmarked pages) before (ap (λ (p : Page). p.marked) (get_or-set_other pages at (first_unmarked pages) page new_page (λ e. omega (arith, below, e))) ∙ first-here pages)
  where
    before : AreMarkedBefore (set pages at page) (first_unmarked pages)
    before k less = ⊎_elim
        (λ same. ap (λ (j : ℕ). (get_or (set pages at page) j new_page).marked) same
        ∙ (ap (λ (p : Page). p.marked) (get_or-set_same pages at page new_page (let w = first-within pages in omega (arith, below, w))) ∙ marked))
        (λ other. ap (λ (p : Page). p.marked) (get_or-set_other pages at k page new_page other) ∙ first-before pages k less)
        (cases_eq k at)

pub risen-again : (pages : List Page) → IsRisen pages → (at : ℕ) → at < first_unmarked pages → (page : Page) → page.marked ≡ true → IsRisen (set pages at page)
risen-again pages risen at below page marked = record {
  behind = λ k from.
      let n = first-again pages at below page marked in
      ap (λ (p : Page). p.marked) (get_or-set_other pages at k page new_page (λ e. omega (arith, from, n, below, e))) ∙ risen.behind k (omega (arith, from, n));
}

none-marked : (pages : List Page) (k : ℕ) → (get_or (map unmarked pages) k new_page).marked ≡ false
none-marked [] k = refl
none-marked (page ∷ pages) zero = refl
none-marked (page ∷ pages) (suc k) = none-marked pages k

-- no page of a block that was taken is used
pub first-taken : (pages : List Page) → first_unmarked (map unmarked pages) ≡ 0
first-taken pages = first-is (map unmarked pages) 0 (λ k below. absurd (omega (arith, below))) (none-marked pages 0)

pub risen-taken : (pages : List Page) → IsRisen (map unmarked pages)
risen-taken pages = record { behind = λ k from. none-marked pages k }

-- ---- the table

module _ (kind : BlockState → Bool) (t : Table) where
  pub used-open : (block : ℕ) → kind (block_at t block).state ≡ true → used_in kind t block ≡ first_unmarked (block_at t block).pages
  unfolding used_in
  used-open block e = cond-true (kind (block_at t block).state) (first_unmarked (block_at t block).pages) t.size e

  pub used-full : (block : ℕ) → kind (block_at t block).state ≡ false → used_in kind t block ≡ t.size
  unfolding used_in
  used-full block e = cond-false (kind (block_at t block).state) (first_unmarked (block_at t block).pages) t.size e

  pub used-within : (block : ℕ) → IsBlockTable t → HasBlock t block → used_in kind t block ≤ t.size
  used-within block is has = by (cases_Bool (kind (block_at t block).state))
    where
      by : (kind (block_at t block).state ≡ true) ⊎ (kind (block_at t block).state ≡ false) → used_in kind t block ≤ t.size
      by (inl e) = let u = used-open block e in let w = first-within (block_at t block).pages in let s = row_size t is block has in omega (arith, u, w, s)
      by (inr e) = let u = used-full block e in omega (arith, u)

  -- where pages are left the block is in a state of this kind
  pub used-kind : (block : ℕ) → used_in kind t block < t.size → kind (block_at t block).state ≡ true
  used-kind block room = by (cases_Bool (kind (block_at t block).state))
    where
      by : (kind (block_at t block).state ≡ true) ⊎ (kind (block_at t block).state ≡ false) → kind (block_at t block).state ≡ true
      by (inl e) = e
      by (inr e) = let u = used-full block e in absurd (omega (arith, room, u))

  -- a block replaced
  module _ (block : ℕ) (row : BlockRow) (has : HasBlock t block) where
    pub used-here : used_in kind (with_block t block row) block ≡ row_used kind t.size row
    unfolding used_in
    used-here = ap (row_used kind t.size) (block_at-with_block_same t block row has)

    pub used-other : (other : ℕ) → HasBlock t other → (other ≡ block → ⊥) → SameUsed kind other t (with_block t block row)
    unfolding used_in
    used-other other has_other differ = ap (row_used kind t.size) (block_at-with_block_other t block other row has has_other differ)

    -- as many pages of each block are used, where the row put in has as many
    pub used-each : row_used kind t.size row ≡ row_used kind t.size (block_at t block) → (other : ℕ) → HasBlock t other → SameUsed kind other t (with_block t block row)
    unfolding used_in
    used-each same other has_other = ⊎_elim
        (λ e. ap (used_in kind (with_block t block row)) e ∙ (used-here ∙ (same ∙ ap (used_in kind t) (sym e))))
        (λ differ. used-other other has_other differ)
        (cases_eq other block)

    pub rising-with : BlocksAreRisen kind t → (kind row.state ≡ true → IsRisen row.pages) → BlocksAreRisen kind (with_block t block row)
    rising-with rising here = record {
      each = λ other has_other is. ⊎_elim
          (λ e.
          let at : block_at (with_block t block row) other ≡ row = ap (block_at (with_block t block row)) e ∙ block_at-with_block_same t block row has in
          subst (λ (r : BlockRow). IsRisen r.pages) (sym at) (here (ap (λ (r : BlockRow). kind r.state) (sym at) ∙ is)))
          (λ differ.
          let back : HasBlock t other = record { from = has_other.from; below = subst (λ (n : ℕ). other < t.first + n) (length-set t.blocks (block - t.first) row) has_other.below } in
          let at = block_at-with_block_other t block other row has back differ in
          subst (λ (r : BlockRow). IsRisen r.pages) (sym at) (rising.each other back (ap (λ (r : BlockRow). kind r.state) (sym at) ∙ is)))
          (cases_eq other block);
    }

-- the next page of a block, by the number
module _ (kind : BlockState → Bool) (t : Table) (is : IsBlockTable t) (block : ℕ) (has : HasBlock t block) (open_is : kind (block_at t block).state ≡ true) where
  -- a page by its place in the block
  page-of : (k : ℕ) → k < t.size → page_at t (block * t.size + k) ≡ get_or (block_at t block).pages k new_page
  page-of k below = rw (div-mul-add block t.size k below, mod-mul-add block t.size k below) refl

  pub next-used : (page : ℕ) → IsNextPage t block page → page ≡ block * t.size + used_in kind t block
  next-used page next =
      let some = is.some in
      let place = div-add-mod' page t.size in
      let at : page ≡ block * t.size + page % t.size = sym place ∙ ap (λ (b : ℕ). b * t.size + page % t.size) next.in_block in
      let within : page % t.size < t.size = omega (arith, some) in
      let here : (get_or (block_at t block).pages (page % t.size) new_page).marked ≡ false =
      ap (λ (p : Page). p.marked) (sym (page-of (page % t.size) within)) ∙ (ap (λ (q : ℕ). (page_at t q).marked) (sym at) ∙ next.unmarked) in
      let before : AreMarkedBefore (block_at t block).pages (page % t.size) = (λ k below.
      let less : k < t.size = omega (arith, below, within) in
      ap (λ (p : Page). p.marked) (sym (page-of k less)) ∙ next.earlier (block * t.size + k) (div-mul-add block t.size k less) (omega (arith, below, at))) in
      at ∙ ap (λ (n : ℕ). block * t.size + n) (sym (used-open kind t block open_is ∙ first-is (block_at t block).pages (page % t.size) before here))

  pub full-used : ((page : ℕ) → page / t.size ≡ block → (page_at t page).marked ≡ true) → used_in kind t block ≡ t.size
  full-used all =
      let size = row_size t is block has in
      let within = first-within (block_at t block).pages in
      let here = first-here (block_at t block).pages in
      let open_used = used-open kind t block open_is in
      ⊎_elim
      (λ less.
      let below : first_unmarked (block_at t block).pages < t.size = less in
      absurd (both_ways _ here (ap (λ (p : Page). p.marked) (sym (page-of (first_unmarked (block_at t block).pages) below)) ∙ all (block * t.size + first_unmarked (block_at t block).pages) (div-mul-add block t.size (first_unmarked (block_at t block).pages) below))))
      (λ not_less. omega (arith, size, within, open_used, not_less))
      (cases_lt (first_unmarked (block_at t block).pages) t.size)

-- ---- the calls

-- a page of a block marked
module _ (kind : BlockState → Bool) (t : Table) (is : IsBlockTable t) (rising : BlocksAreRisen kind t) (page : ℕ) (state : PageState) (has : HasPage t page) where
  abbrev block : ℕ
  block = page / t.size

  abbrev pages : List Page
  pages = (block_at t block).pages

  abbrev marked : Page
  marked = record { state = state; marked = true }

  abbrev row : BlockRow
  row = with_mark (block_at t block) (page % t.size) state

  -- the number of the block from that of its pages
  from-pages : kind (block_at t block).state ≡ true → used_in kind (with_page t page state) block ≡ first_unmarked (set pages (page % t.size) marked)
  from-pages e = used-here kind t block row has ∙ cond-true (kind (block_at t block).state) (first_unmarked row.pages) t.size e

  -- the page that is used next
  module _ (room : used_in kind t block < t.size) (next : page ≡ block * t.size + used_in kind t block) where
    open_is : kind (block_at t block).state ≡ true
    open_is = used-kind kind t block room

    number : used_in kind t block ≡ first_unmarked pages
    number = used-open kind t block open_is

    at : page % t.size ≡ first_unmarked pages
    at = ap (λ (p : ℕ). p % t.size) next ∙ (mod-mul-add block t.size (used_in kind t block) room ∙ number)

    within : first_unmarked pages < length pages
    within = let size = row_size t is block has in omega (arith, size, number, room)

    risen : IsRisen pages
    risen = rising.each block has open_is

    pub next-marks : used_in kind (with_page t page state) block ≡ used_in kind t block + 1
    next-marks = from-pages open_is ∙ (ap (λ (k : ℕ). first_unmarked (set pages k marked)) at ∙ (first-marks pages risen within marked refl ∙ ap (λ (n : ℕ). n + 1) (sym number)))

    pub rising-marks : BlocksAreRisen kind (with_page t page state)
    rising-marks = rising-with kind t block row has rising (λ e. subst (λ (k : ℕ). IsRisen (set pages k marked)) (sym at) (risen-marks pages risen within marked refl))

  -- a page that is used, or one of a block in another state
  module _ (used : page % t.size < used_in kind t block) where
    pub again-marks : (other : ℕ) → HasBlock t other → SameUsed kind other t (with_page t page state)
    again-marks = used-each kind t block row has (by (cases_Bool (kind (block_at t block).state)))
      where
        by : (kind (block_at t block).state ≡ true) ⊎ (kind (block_at t block).state ≡ false) → row_used kind t.size row ≡ row_used kind t.size (block_at t block)
        by (inl e) =
            let number = used-open kind t block e in
            ap (λ (b : Bool). cond b (first_unmarked row.pages) t.size) e
            ∙ (first-again pages (page % t.size) (omega (arith, used, number)) marked refl ∙ sym (ap (λ (b : Bool). cond b (first_unmarked pages) t.size) e))
        by (inr e) = ap (λ (b : Bool). cond b (first_unmarked row.pages) t.size) e ∙ sym (ap (λ (b : Bool). cond b (first_unmarked pages) t.size) e)

    pub rising-again : BlocksAreRisen kind (with_page t page state)
    rising-again = rising-with kind t block row has rising (λ e. let number = used-open kind t block e in risen-again pages (rising.each block has e) (page % t.size) (omega (arith, used, number)) marked refl)

-- a block given out
module _ (kind : BlockState → Bool) (t : Table) (rising : BlocksAreRisen kind t) (block : ℕ) (state : BlockState) (has : HasBlock t block) where
  abbrev given : Table
  given = with_block t block (taken (block_at t block) state)

  pub none-used : kind state ≡ true → used_in kind given block ≡ 0
  none-used e = used-here kind t block (taken (block_at t block) state) has ∙ (cond-true (kind state) (first_unmarked (map unmarked (block_at t block).pages)) t.size e ∙ first-taken (block_at t block).pages)

  pub rising-given : BlocksAreRisen kind given
  rising-given = rising-with kind t block (taken (block_at t block) state) has rising (λ e. risen-taken (block_at t block).pages)

-- a block with the same pages, in another state or of another wear
module _ (kind : BlockState → Bool) (t : Table) (rising : BlocksAreRisen kind t) (block : ℕ) (row : BlockRow) (has : HasBlock t block) (same : row.pages ≡ (block_at t block).pages) where
  -- in a state of another kind it is full
  pub all-used : kind row.state ≡ false → used_in kind (with_block t block row) block ≡ t.size
  all-used e = used-here kind t block row has ∙ cond-false (kind row.state) (first_unmarked row.pages) t.size e

  -- in a state of the same kind as many pages are used
  pub kind-used : kind row.state ≡ kind (block_at t block).state → (other : ℕ) → HasBlock t other → SameUsed kind other t (with_block t block row)
  kind-used e = used-each kind t block row has (λ j. cond (e j) (first_unmarked (same j)) t.size)

  -- the block was not opened
  pub rising-closed : (kind row.state ≡ true → kind (block_at t block).state ≡ true) → BlocksAreRisen kind (with_block t block row)
  rising-closed was = rising-with kind t block row has rising (λ e. subst IsRisen (sym same) (rising.each block has (was e)))
