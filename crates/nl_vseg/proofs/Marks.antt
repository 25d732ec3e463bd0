-- What marking a page does to the table of blocks.
use Rattle.std.proofs.Common.{◌≡◌, inl, inr, ⊎_elim, ℕ, suc, ◌+◌, ◌-◌, ◌*◌, ◌/◌, ◌%◌, ◌<◌, ◌≤◌, Bool, true, false, cond, List, [], ◌∷◌, length, get_or, take, Option, Some, None, IfSome, refl, sym, ◌∙◌, ap, subst, arith, length-set, count_by}
use Rattle.std.proofs.lemmas.Bool.{true≢false, cases_eq, eq-eqb}
use Rattle.std.proofs.lemmas.Nat.{div-mul-add, mod-mul-add, div_below}
use Rattle.std.proofs.lemmas.List.{get_or-set_same, get_or-set_other}
use Rattle.std.proofs.lemmas.List.Sums.{sum_by-cons, sum_by-set, count_by_more_yes, count_by_more_no}
use Rattle.nl_blocks.specs.declared.states.PageState.{PageState}
use Rattle.nl_blocks.specs.declared.states.PageState.TheVariants.{Dead, Live}
use Rattle.nl_blocks.specs.declared.states.Page.{Page}
use Rattle.nl_blocks.specs.Table.{BlockRow, Table, block_at, page_at, new_page, no_row, with_page, with_mark, is_free, is_dead, dead_count}
use Rattle.nl_blocks.proofs.TableLaws.{page_in, page_at-with_page_other}
use Rattle.nl_vseg.specs.Places.{place_of, IsUnmapped}
use Rattle.nl_vseg.specs.Copying.{SameStates, MarksPlace, IsSettled, HasHole, is_in, mapped_in}
use Rattle.nl_vseg.specs.declared.place.Place.{Place}
use Rattle.std.proofs.lemmas.Option.{none-some, same_Some}
use Rattle.nl_vseg.proofs.Passing.{some_passes, not_all_pass}
use Rattle.nl_vseg.proofs.Places.{block_below, beside_of}
use Rattle.nl_vseg.proofs.Wears.{wears_kept}
use Rattle.nl_vseg.proofs.Blocks.{has_block, restated, restated_same, same_use, same_then}

pub states_same : (t : Table) → SameStates t t
states_same t = record { same = same_use t; wears = refl; states = λ block. refl }

pub states_then : {a b c : Table} → SameStates a b → SameStates b c → SameStates a c
states_then first second = record { same = same_then first.same second.same; wears = second.wears ∙ first.wears; states = λ block. second.states block ∙ first.states block }

module _ (t : Table) (page : ℕ) (state : PageState) (first : t.first ≡ 0) (within : page / t.size < length t.blocks) where
  at_same : block_at (with_page t page state) (page / t.size) ≡ with_mark (block_at t (page / t.size)) (page % t.size) state
  at_same = get_or-set_same t.blocks (page / t.size - t.first) (with_mark (block_at t (page / t.size)) (page % t.size) state) no_row (omega (arith, first, within))

  at_other : (block : ℕ) → (block ≡ page / t.size → ⊥) → block_at (with_page t page state) block ≡ block_at t block
  at_other block ne = get_or-set_other t.blocks (page / t.size - t.first) (block - t.first) (with_mark (block_at t (page / t.size)) (page % t.size) state) no_row (λ same. ne (omega (arith, same, first)))

  pub marked_states : SameStates t (with_page t page state)
  marked_states = record {
    same = restated_same {free = is_free (block_at t (page / t.size))} refl (restated t (page / t.size) (with_mark (block_at t (page / t.size)) (page % t.size) state) first within);
    wears = wears_kept t (page / t.size) (with_mark (block_at t (page / t.size)) (page % t.size) state) refl;
    states = λ block. ⊎_elim
        (λ is. ap (λ b. (block_at (with_page t page state) b).state) is ∙ (ap (λ (r : BlockRow). r.state) at_same ∙ ap (λ b. (block_at t b).state) (sym is)))
        (λ ne. ap (λ (r : BlockRow). r.state) (at_other block ne))
        (cases_eq block (page / t.size));
  }

  pub marked_rows : (block : ℕ) → length (block_at (with_page t page state) block).pages ≡ length (block_at t block).pages
  marked_rows block = ⊎_elim
      (λ is. ap (λ b. length (block_at (with_page t page state) b).pages) is ∙ (ap (λ (r : BlockRow). length r.pages) at_same
      ∙ (length-set (block_at t (page / t.size)).pages (page % t.size) (record { state = state; marked = true }) ∙ ap (λ b. length (block_at t b).pages) (sym is))))
      (λ ne. ap (λ (r : BlockRow). length r.pages) (at_other block ne))
      (cases_eq block (page / t.size))

  pub marked_others : (block : ℕ) → (block ≡ page / t.size → ⊥) → dead_count (block_at (with_page t page state) block) ≡ dead_count (block_at t block)
  marked_others block ne = ap dead_count (at_other block ne)

  pub marked_other : (other : ℕ) → other / t.size < length t.blocks → (other ≡ page → ⊥) → page_at (with_page t page state) other ≡ page_at t other
  marked_other other other_within ne = page_at-with_page_other t page other state (has_block t (page / t.size) first within) (has_block t (other / t.size) first other_within) ne

  module _ (inside : page % t.size < length (block_at t (page / t.size)).pages) where
    pub marked_same : page_at (with_page t page state) page ≡ record { state = state; marked = true }
    marked_same = ap (λ (r : BlockRow). get_or r.pages (page % t.size) new_page) at_same
        ∙ get_or-set_same (block_at t (page / t.size)).pages (page % t.size) (record { state = state; marked = true }) new_page inside

    pub marked_dead : dead_count (block_at (with_page t page state) (page / t.size)) + cond (is_dead (page_at t page)) 1 0
        ≡ dead_count (block_at t (page / t.size)) + cond (is_dead (record { state = state; marked = true })) 1 0
    marked_dead = ap (λ (r : BlockRow). dead_count r + cond (is_dead (page_at t page)) 1 0) at_same
        ∙ sum_by-set (λ p. cond (is_dead p) 1 0) (block_at t (page / t.size)).pages (page % t.size) (record { state = state; marked = true }) new_page inside

abbrev num : Bool → ℕ
num b = cond b 1 0

dead_is : (p : Page) → p.state ≡ Dead → is_dead p ≡ true
dead_is p is = rw is refl

-- where each page is dead, the count is the length
pub all_dead : (pages : List Page) → ((k : ℕ) → k < length pages → (get_or pages k new_page).state ≡ Dead) → count_by is_dead pages ≡ length pages
all_dead [] each = refl
all_dead (p ∷ pages) each =
    let here : is_dead p ≡ true = dead_is p (each 0 (omega arith)) in
    let rest : count_by is_dead pages ≡ length pages = all_dead pages (λ k below. each (suc k) (omega arith)) in
    rw (sum_by-cons (λ x. cond (is_dead x) 1 0) p pages, here) (omega arith)

-- the page at an offset of a block
pub page_of : (t : Table) (block k : ℕ) → k < t.size → page_at t (block * t.size + k) ≡ get_or (block_at t block).pages k new_page
page_of t block k less = page_in t (block * t.size + k) block (div-mul-add block t.size k less) ∙ ap (λ n. get_or (block_at t block).pages n new_page) (mod-mul-add block t.size k less)

-- a block of which each page is dead
pub block_dead : (t : Table) (block : ℕ) → length (block_at t block).pages ≡ t.size → ((k : ℕ) → k < t.size → (page_at t (block * t.size + k)).state ≡ Dead) → dead_count (block_at t block) ≡ t.size
block_dead t block rows each = all_dead (block_at t block).pages (λ k below.
    let less : k < t.size = omega (arith, below, rows) in
    sym (ap (λ (p : Page). p.state) (page_of t block k less)) ∙ each k less) ∙ rows

pub one_unmarked : (t : Table) → MarksPlace None t t
one_unmarked t = record { states = states_same t; rows = λ block. refl; dead = λ block. omega arith; live = λ page below live. live; here = λ p is. absurd (none-some p is) }

at_most_one : (b : Bool) → cond b 1 0 ≤ 1
at_most_one true = omega arith
at_most_one false = omega arith

pub one_marked : (t : Table) (place : Place) → t.first ≡ 0 → 0 < t.size → place.page < length t.blocks * t.size → ((block : ℕ) → block < length t.blocks → length (block_at t block).pages ≡ t.size)
    → MarksPlace (Some place) t (with_page t place.page Live)
one_marked t place first some below rows = record {
  states = marked_states t place.page Live first within;
  rows = marked_rows t place.page Live first within;
  dead = λ block. elim (cases_eq (place.page / t.size) block) [
    | inl is ↦
        let counted = marked_dead t place.page Live first within inside in
        let was : cond (is_dead (page_at t place.page)) 1 0 ≤ 1 = at_most_one (is_dead (page_at t place.page)) in
        let here : cond (is_in t.size block (Some place)) 1 0 ≡ 1 = ap num (eq-eqb (place.page / t.size) block is) in
        subst (λ b. dead_count (block_at t b) ≤ dead_count (block_at (with_page t place.page Live) b) + cond (is_in t.size block (Some place)) 1 0) is (omega (arith, counted, was, here))
    | inr ne ↦
        let same = marked_others t place.page Live first within block (λ e. ne (sym e)) in
        omega (arith, same)
  ];
  live = λ page page_below live. elim (cases_eq page place.page) [
    | inl is ↦ ap (λ n. (page_at (with_page t place.page Live) n).state) is ∙ now
    | inr ne ↦ ap (λ (p : Page). p.state) (marked_other t place.page Live first within page (div_below page t.size (length t.blocks) some page_below) ne) ∙ live
  ];
  here = λ p is. subst (λ (q : Place). (page_at (with_page t place.page Live) q.page).state ≡ Live) (same_Some place p is) now;
}
  where
    within : place.page / t.size < length t.blocks
    within = div_below place.page t.size (length t.blocks) some below

    inside : place.page % t.size < length (block_at t (place.page / t.size)).pages
    inside = let all = rows (place.page / t.size) within in omega (arith, all, some)

    now : (page_at (with_page t place.page Live) place.page).state ≡ Live
    now = ap (λ (p : Page). p.state) (marked_same t place.page Live first within inside)

-- the number of addresses in a block, with one address more
pub mapped_more : (pages block v : ℕ) (places : List (Option Place)) → v < length places
    → mapped_in pages block (take (v + 1) places) ≡ mapped_in pages block (take v places) + cond (is_in pages block (place_of places v)) 1 0
mapped_more pages block v places within = at (is_in pages block (place_of places v)) refl
  where
    at : (b : Bool) → is_in pages block (place_of places v) ≡ b → mapped_in pages block (take (v + 1) places) ≡ mapped_in pages block (take v places) + cond b 1 0
    at true is = count_by_more_yes (is_in pages block) places v None within is
    at false is = let e = count_by_more_no (is_in pages block) places v None within is in omega (arith, e)

pub page_in_bound : (block count size k : ℕ) → block < count → k < size → block * size + k < count * size
page_in_bound block count size k within less = let e = block_below block count size within in omega (arith, e, less)

-- a place that was read is below the bound, and not yet Live
pub place_below : (places : List (Option Place)) (v bound : ℕ) (x : Option Place) → place_of places v ≡ x → ((u : ℕ) (place : Place) → place_of places u ≡ Some place → place.page < bound) → IfSome x (λ p. p.page < bound)
place_below places v bound None named below = tt
place_below places v bound (Some place) named below = below v place named

live_is : (p : Page) → p.state ≡ Live → is_dead p ≡ false
live_is p is = rw is refl

module _ (places : List (Option Place)) (t : Table) (settled : IsSettled places t) (block : ℕ) (within : block < length t.blocks) where
  -- a dead page is that of no address
  pub has_hole : 0 < dead_count (block_at t block) → HasHole t.size block places
  has_hole some =
      let dead = some_passes is_dead new_page (block_at t block).pages some in
      let less : dead.0 < t.size = omega (arith, dead.1, settled.rows block within) in
      record {
        page = block * t.size + dead.0;
        inside = div-mul-add block t.size dead.0 less;
        beside = λ v place named at.
            let is : page_at t place.page ≡ get_or (block_at t block).pages dead.0 new_page = ap (page_at t) at ∙ page_of t block dead.0 less in
            true≢false (sym dead.2 ∙ (ap is_dead (sym is) ∙ live_is (page_at t place.page) (settled.live v place named)));
      }

  -- a block of dead pages has no page of the map
  pub all_dead_unmapped : 0 < t.size → t.size ≤ dead_count (block_at t block) → IsUnmapped t.size places block
  all_dead_unmapped some all v place named = beside_of place.page t.size block (λ at.
      let less : place.page % t.size < length (block_at t block).pages = omega (arith, settled.rows block within, some) in
      let here : is_dead (get_or (block_at t block).pages (place.page % t.size) new_page) ≡ false =
      subst (λ b. is_dead (get_or (block_at t b).pages (place.page % t.size) new_page) ≡ false) at (live_is (page_at t place.page) (settled.live v place named)) in
      let short = not_all_pass is_dead (block_at t block).pages (place.page % t.size) new_page new_page less here refl in
      omega (arith, short, all, settled.rows block within))
