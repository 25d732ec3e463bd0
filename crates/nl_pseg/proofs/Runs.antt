-- How many pages of a block are live.
use Rattle.std.proofs.Common.{◌≡◌, ⊎_elim, ℕ, zero, suc, ◌+◌, ◌-◌, ◌*◌, ◌/◌, ◌%◌, ◌<◌, ◌≤◌, nat_le, Bool, cond, is_some, Option, Some, None, List, [], ◌∷◌, length, get_or, set, map, count_by, refl, sym, ◌∙◌, ap, subst, arith}
use Rattle.std.proofs.lemmas.Bool.{cases_eq, le-leb, cond-true}
use Rattle.std.proofs.lemmas.List.{get_or-map, get_or-set_same, get_or-set_other}
use Rattle.std.proofs.lemmas.List.Sums.{sum_by-cons}
use Rattle.std.proofs.lemmas.Nat.{div-mul-add, mod-mul-add}
use Rattle.nl_blocks.specs.declared.states.Page.{Page}
use Rattle.nl_blocks.specs.Table.{Table, HasBlock, IsBlockTable, block_at, dead_count, is_dead, is_dead_state, new_page, page_at}
use Rattle.nl_blocks.specs.Table.{no_row as no_block}
use Rattle.nl_blocks.proofs.TableProofs.{row_size}
use Rattle.nl_pseg.specs.Segment.{CleaningRow, no_row, row_in}
use Rattle.nl_pseg.specs.Seen.{IsPhysicalFormed, row_of, seen, state_for}
use Rattle.nl_pseg.specs.Space.{dead_in, live_in}
use Rattle.nl_pseg.specs.declared.held.Held.{Held}
use Rattle.nl_pseg.specs.Kept.{Kept}

abbrev num : Bool → ℕ
num b = cond b 1 0

abbrev pub one : Option Held → ℕ
one h = cond (is_some h) 1 0

-- how many of so many pages from one on are live
abbrev pub run : List (Option Held) → ℕ → ℕ → ℕ
run held at zero = 0
run held at (suc n) = one (get_or held at None) + run held (suc at) n

run_cons : (h : Option Held) (hs : List (Option Held)) (at n : ℕ) → run (h ∷ hs) (suc at) n ≡ run hs at n
run_cons h hs at zero = refl
run_cons h hs at (suc n) = ap (λ (k : ℕ). one (get_or hs at None) + k) (run_cons h hs (suc at) n)

pub run_all : (held : List (Option Held)) → run held 0 (length held) ≡ live_in held
run_all [] = refl
run_all (h ∷ hs) = ap (λ (k : ℕ). one h + k) (run_cons h hs 0 (length hs) ∙ run_all hs) ∙ sym (sum_by-cons one h hs)

pub run_plus : (held : List (Option Held)) (at m n : ℕ) → run held at (m + n) ≡ run held at m + run held (at + m) n
run_plus held at zero n =
    let a : 0 + n ≡ n = omega arith in
    let b : at + 0 ≡ at = omega arith in
    let e : run held at (0 + n) ≡ run held at n = ap (run held at) a in
    let f : run held (at + 0) n ≡ run held at n = ap (λ k. run held k n) b in
    omega (arith, e, f)
run_plus held at (suc m) n =
    let a : suc m + n ≡ suc (m + n) = omega arith in
    let b : suc at + m ≡ at + suc m = omega arith in
    let e : run held at (suc m + n) ≡ one (get_or held at None) + run held (suc at) (m + n) = ap (run held at) a in
    let f : run held (suc at + m) n ≡ run held (at + suc m) n = ap (λ k. run held k n) b in
    let d : run held at (suc m) ≡ one (get_or held at None) + run held (suc at) m = refl in
    let r = run_plus held (suc at) m n in
    omega (arith, e, f, d, r)

pub run_same : (xs ys : List (Option Held)) (at n : ℕ) → ((p : ℕ) → at ≤ p → p < at + n → get_or xs p None ≡ get_or ys p None) → run xs at n ≡ run ys at n
run_same xs ys at zero same = refl
run_same xs ys at (suc n) same =
    let e : one (get_or xs at None) ≡ one (get_or ys at None) = ap one (same at (omega arith) (omega arith)) in
    let rest = run_same xs ys (suc at) n (λ p from below. same p (omega (arith, from)) (omega (arith, below))) in
    omega (arith, e, rest)

-- a page that is not among them
pub run_apart : (xs : List (Option Held)) (page : ℕ) (x : Option Held) (at n : ℕ) → (at ≤ page → page < at + n → ⊥) → run (set xs page x) at n ≡ run xs at n
run_apart xs page x at n apart = run_same (set xs page x) xs at n (λ p from below. get_or-set_other xs page p x None (λ e. apart (omega (arith, from, e)) (omega (arith, below, e))))

-- one page is live no longer
pub run_ended : (xs : List (Option Held)) (page at n : ℕ) → page < length xs → (run (set xs page None) at n ≤ run xs at n) × (run xs at n ≤ run (set xs page None) at n + 1)
run_ended xs page at zero within = (omega arith, omega arith)
run_ended xs page at (suc n) within = ⊎_elim
    (λ e.
    let none : one (get_or (set xs page None) at None) ≡ zero = ap (λ k. one (get_or (set xs page None) k None)) e ∙ ap one (get_or-set_same xs page None None within) in
    let rest = run_apart xs page None (suc at) n (λ from below. omega (arith, from, e)) in
    let few = one_few (get_or xs at None) in
    (omega (arith, none, rest), omega (arith, none, rest, few)))
    (λ ne.
    let same : one (get_or (set xs page None) at None) ≡ one (get_or xs at None) = ap one (get_or-set_other xs page at None None ne) in
    let rest = run_ended xs page (suc at) n within in
    (omega (arith, same, rest.0), omega (arith, same, rest.1)))
    (cases_eq at page)
  where
    one_few : (x : Option Held) → one x ≤ 1
    one_few None = omega arith
    one_few (Some h) = omega arith

dead_one : (x : Option Held) → num (is_dead_state (state_for x)) + one x ≡ 1
dead_one None = refl
dead_one (Some h) = refl

dead_run : (pages : List Page) (held : List (Option Held)) (at : ℕ) → ((k : ℕ) → k < length pages → (get_or pages k new_page).state ≡ state_for (get_or held (at + k) None)) → count_by is_dead pages + run held at (length pages) ≡ length pages
dead_run [] held at marked = refl
dead_run (page ∷ pages) held at marked =
    let e : count_by is_dead (page ∷ pages) ≡ num (is_dead page) + count_by is_dead pages = sum_by-cons (λ p. num (is_dead p)) page pages in
    let first : at + 0 ≡ at = omega arith in
    let here : num (is_dead_state page.state) ≡ num (is_dead_state (state_for (get_or held at None))) = ap (λ st. num (is_dead_state st)) (marked 0 (omega arith) ∙ ap (λ k. state_for (get_or held k None)) first) in
    let sum = dead_one (get_or held at None) in
    let rest = dead_run pages held (suc at) (λ k less. marked (suc k) (omega (arith, less)) ∙ ap (λ j. state_for (get_or held j None)) (omega arith)) in
    omega (arith, e, here, sum, rest)

row_from : (first : ℕ) (rows : List CleaningRow) (block : ℕ) → first ≤ block → row_in first rows block ≡ get_or rows (block - first) no_row
unfolding row_in
row_from first rows block from = cond-true (nat_le first block) (get_or rows (block - first) no_row) no_row (le-leb first block from)

-- what is known of a block
pub row_here : (t : Table) (block : ℕ) → HasBlock t block → row_in t.first (map row_of t.blocks) block ≡ row_of (block_at t block)
row_here t block has = row_from t.first (map row_of t.blocks) block has.from ∙ get_or-map row_of t.blocks (block - t.first) no_block no_row (omega (arith, has.from, has.below))

module _ (s : Kept) (is : IsPhysicalFormed s) (table : IsBlockTable s.blocks) where
  -- the pages of a block that are not live, and those that are
  pub dead_is : (block : ℕ) → HasBlock s.blocks block → dead_count (block_at s.blocks block) + run s.held.items (block * s.blocks.size) s.blocks.size ≡ s.blocks.size
  dead_is block has =
      let size = row_size s.blocks table block has in
      let sum = dead_run (block_at s.blocks block).pages s.held.items (block * s.blocks.size) (λ k less. marked k (omega (arith, less, size))) in
      let e : run s.held.items (block * s.blocks.size) (length (block_at s.blocks block).pages) ≡ run s.held.items (block * s.blocks.size) s.blocks.size = ap (run s.held.items (block * s.blocks.size)) size in
      omega (arith, sum, e, size)
    where
      marked : (k : ℕ) → k < s.blocks.size → (get_or (block_at s.blocks block).pages k new_page).state ≡ state_for (get_or s.held.items (block * s.blocks.size + k) None)
      marked k less =
          let p = block * s.blocks.size + k in
          let at : p / s.blocks.size ≡ block = div-mul-add block s.blocks.size k less in
          let off : p % s.blocks.size ≡ k = mod-mul-add block s.blocks.size k less in
          let e : (page_at s.blocks p).state ≡ (get_or (block_at s.blocks block).pages k new_page).state = (λ i. (get_or (block_at s.blocks (at i)).pages (off i) new_page).state) in
          sym e ∙ is.marked.each p (subst (HasBlock s.blocks) (sym at) has)

  pub dead_seen : (block : ℕ) → HasBlock s.blocks block → dead_in (seen s) block + run s.held.items (block * s.blocks.size) s.blocks.size ≡ s.blocks.size
  dead_seen block has =
      let e : dead_in (seen s) block ≡ dead_count (block_at s.blocks block) = ap (λ (r : CleaningRow). r.dead) (row_here s.blocks block has) in
      let sum = dead_is block has in
      omega (arith, e, sum)
