-- What marking a page does to the number of used pages, and which page is used next.
use Rattle.std.proofs.Common.{◌≡◌, ⊎_elim, ℕ, ◌+◌, ◌*◌, ◌/◌, ◌%◌, ◌<◌, Bool, true, Option, Some, None, IfSome, IfNone, IsNone, is_some, refl, sym, ◌∙◌, ap, arith}
use Rattle.std.proofs.lemmas.Bool.{cases_lt, true≢false}
use Rattle.std.proofs.lemmas.Nat.{div-add-mod'}
use Rattle.nl_blocks.specs.declared.states.BlockState.{BlockState}
use Rattle.nl_blocks.specs.declared.states.PageState.{PageState}
use Rattle.nl_blocks.specs.Table.{Table, HasBlock, HasPage, IsNextPage, IsBlockTable, block_at, page_at, with_mark, with_page}
use Rattle.nl_blocks.specs.Used.{BlocksAreRisen, used_in}
use Rattle.nl_blocks.proofs.UsedLaws.{again-marks, full-used, next-marks, next-used, rising-again, rising-marks, used-other}
use Rattle.nl_pseg_blocks.specs.Uses.{IsUpTo, CountsUsedPage}

module _ (kind : BlockState → Bool) (t : Table) (is : IsBlockTable t) (rising : BlocksAreRisen kind t) (page : ℕ) (state : PageState) (has : HasPage t page) where
  room : page % t.size ≡ used_in kind t (page / t.size) → used_in kind t (page / t.size) < t.size
  room at = let some = is.some in omega (arith, at, some)

  next : page % t.size ≡ used_in kind t (page / t.size) → page ≡ page / t.size * t.size + used_in kind t (page / t.size)
  next at = sym (div-add-mod' page t.size) ∙ ap (λ (k : ℕ). page / t.size * t.size + k) at

  pub marked_rises : IsUpTo kind page t → BlocksAreRisen kind (with_page t page state)
  marked_rises up = ⊎_elim
      (λ less. rising-again kind t is rising page state has less)
      (λ not_less. let at : page % t.size ≡ used_in kind t (page / t.size) = omega (arith, up, not_less) in rising-marks kind t is rising page state has (room at) (next at))
      (cases_lt (page % t.size) (used_in kind t (page / t.size)))

  pub marked_uses : CountsUsedPage kind page t (with_page t page state)
  marked_uses = record {
    again = λ less block has_block. again-marks kind t is rising page state has less block has_block;
    next = λ at. next-marks kind t is rising page state has (room at) (next at);
    others = λ block has_block ne. used-other kind t (page / t.size) (with_mark (block_at t (page / t.size)) (page % t.size) state) has block has_block ne;
  }

-- the next page of a block in a state of this kind
module _ (kind : BlockState → Bool) (t : Table) (is : IsBlockTable t) (block : ℕ) (has : HasBlock t block) (open_is : kind (block_at t block).state ≡ true) where
  next_at : (page : ℕ) → IsNextPage t block page → (used_in kind t block < t.size) × (page ≡ block * t.size + used_in kind t block)
  next_at page is_next =
      let at = next-used kind t is block has open_is page is_next in
      let some = is.some in
      let parts = div-add-mod' page t.size in
      let here : page / t.size * t.size ≡ block * t.size = ap (λ (b : ℕ). b * t.size) is_next.in_block in
      (omega (arith, at, some, parts, here), at)

  pub next_some : (result : Option ℕ) → IfSome result (λ page. IsNextPage t block page) → IfSome result (λ page. (used_in kind t block < t.size) × (page ≡ block * t.size + used_in kind t block))
  next_some None is_next = is_next
  next_some (Some page) is_next = next_at page is_next

  pub next_none : (result : Option ℕ) → (IsNone result → (page : ℕ) → page / t.size ≡ block → (page_at t page).marked ≡ true) → IfNone result (used_in kind t block ≡ t.size)
  next_none None all = full-used kind t is block has open_is (all refl)
  next_none (Some page) all = tt

  pub next_left : (result : Option ℕ) → IfSome result (λ page. IsNextPage t block page) → is_some result ≡ true → used_in kind t block < t.size
  next_left None is_next some = absurd (true≢false (sym some))
  next_left (Some page) is_next some = (next_at page is_next).0
