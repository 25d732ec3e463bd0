-- What one block or one page replaced leaves, for the crates above.
use Rattle.std.proofs.Common.{◌≡◌, ℕ, ◌+◌, ◌-◌, ◌/◌, ◌%◌, ⊎_elim, true, get_or, sym, ◌∙◌, ap, arith}
use Rattle.std.specs.List.{sum_by}
use Rattle.std.proofs.lemmas.Bool.{cases_eq}
use Rattle.std.proofs.lemmas.Nat.{div-add-mod'}
use Rattle.std.proofs.lemmas.List.{length-set, get_or-set_same, get_or-set_other}
use Rattle.std.proofs.lemmas.List.Sums.{sum_by-set}
use Rattle.nl_blocks.specs.declared.states.BlockState.{BlockState}
use Rattle.nl_blocks.specs.declared.states.PageState.{PageState}
use Rattle.nl_blocks.specs.Table.{BlockRow, Table, IsBlockTable, HasBlock, HasPage, block_at, page_at, new_page, no_row, with_block, with_page, in_state, with_mark}
use Rattle.nl_blocks.proofs.TableProofs.{row_size}

-- a sum over the blocks
pub sum_by-with_block : (f : BlockRow → ℕ) (t : Table) (block : ℕ) (row : BlockRow) → HasBlock t block → sum_by f (with_block t block row).blocks + f (block_at t block) ≡ sum_by f t.blocks + f row
sum_by-with_block f t block row has = sum_by-set f t.blocks (block - t.first) row no_row (omega arith)

pub HasBlock-with_block : (t : Table) (block other : ℕ) (row : BlockRow) → HasBlock t other → HasBlock (with_block t block row) other
HasBlock-with_block t block other row has = record { from = has.from; below = rw (length-set t.blocks (block - t.first) row) has.below }

pub block_at-with_block_same : (t : Table) (block : ℕ) (row : BlockRow) → HasBlock t block → block_at (with_block t block row) block ≡ row
block_at-with_block_same t block row has = get_or-set_same t.blocks (block - t.first) row no_row (omega arith)

pub block_at-with_block_other : (t : Table) (block other : ℕ) (row : BlockRow) → HasBlock t block → HasBlock t other → (other ≡ block → ⊥) → block_at (with_block t block row) other ≡ block_at t other
block_at-with_block_other t block other row has has_other differ =
    get_or-set_other t.blocks (block - t.first) (other - t.first) row no_row (λ same. differ (omega arith))

-- the page by the number of its block
pub page_in : (t : Table) (page block : ℕ) → page / t.size ≡ block → page_at t page ≡ get_or (block_at t block).pages (page % t.size) new_page
page_in t page block e = ap (λ (b : ℕ). get_or (block_at t b).pages (page % t.size) new_page) e

-- a block in another state keeps its pages
pub page_at-in_state : (t : Table) (block page : ℕ) (state : BlockState) → HasBlock t block → HasPage t page → page_at (with_block t block (in_state (block_at t block) state)) page ≡ page_at t page
page_at-in_state t block page state has has_page = ⊎_elim
    (λ same. page_in (with_block t block (in_state (block_at t block) state)) page block same
    ∙ (ap (λ (row : BlockRow). get_or row.pages (page % t.size) new_page) (block_at-with_block_same t block (in_state (block_at t block) state) has) ∙ sym (page_in t page block same)))
    (λ differ. ap (λ (row : BlockRow). get_or row.pages (page % t.size) new_page) (block_at-with_block_other t block (page / t.size) (in_state (block_at t block) state) has has_page differ))
    (cases_eq (page / t.size) block)

pub page_at-with_page_same : (t : Table) (page : ℕ) (state : PageState) → IsBlockTable t → HasPage t page → page_at (with_page t page state) page ≡ record { state = state; marked = true }
page_at-with_page_same t page state is has =
    let size = row_size t is (page / t.size) has in
    let some = is.some in
    rw (block_at-with_block_same t (page / t.size) (with_mark (block_at t (page / t.size)) (page % t.size) state) has)
    (get_or-set_same (block_at t (page / t.size)).pages (page % t.size) (record { state = state; marked = true }) new_page (omega arith))

pub page_at-with_page_other : (t : Table) (page other : ℕ) (state : PageState) → HasPage t page → HasPage t other → (other ≡ page → ⊥) → page_at (with_page t page state) other ≡ page_at t other
page_at-with_page_other t page other state has has_other differ = ⊎_elim
    (λ same. page_in (with_page t page state) other (page / t.size) same
    ∙ (ap (λ (row : BlockRow). get_or row.pages (other % t.size) new_page) (block_at-with_block_same t (page / t.size) (with_mark (block_at t (page / t.size)) (page % t.size) state) has)
    ∙ (get_or-set_other (block_at t (page / t.size)).pages (page % t.size) (other % t.size) (record { state = state; marked = true }) new_page
    (λ at. differ (sym (div-add-mod' other t.size) ∙ rw (same, at) (div-add-mod' page t.size)))
    ∙ sym (page_in t other (page / t.size) same))))
    (λ apart. ap (λ (row : BlockRow). get_or row.pages (other % t.size) new_page)
    (block_at-with_block_other t (page / t.size) (other / t.size) (with_mark (block_at t (page / t.size)) (page % t.size) state) has has_other apart))
    (cases_eq (other / t.size) (page / t.size))
