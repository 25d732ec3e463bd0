-- The number of used pages, after the next page for a new name or for a copy was marked.
use Rattle.std.proofs.Common.{◌≡◌, ℕ, ◌+◌, ◌/◌, ◌%◌, ◌<◌, ◌≤◌, sym, ◌∙◌, ap, arith}
use Rattle.std.proofs.lemmas.Nat.{mod-mul-add}
use Rattle.nl_blocks.specs.Table.{Table, block_at}
use Rattle.nl_blocks.specs.Used.{is_active_state, is_target_state, used_in}
use Rattle.nl_pseg.specs.Kept.{kept}
use Rattle.nl_pseg.specs.Seen.{IsPhysicalFormed, IsTied, seen}
use Rattle.nl_pseg_blocks.specs.Uses.{CountsUsedPage}
use Rattle.nl_pseg.specs.declared.state.State.{State}
use Rattle.nl_pseg.proofs.Closed.{shut_used}
use Rattle.nl_pseg.proofs.Numbers.{block_of}

module _ (s : State) (is : IsPhysicalFormed (kept s)) (tied : IsTied (kept s)) (page : ℕ) where
  module _ (room : (kept s).used < s.blocks.size) (next : page ≡ (seen (kept s)).next) where
    next_block : page / s.blocks.size ≡ s.active
    next_block = block_of page s.blocks.size s.active (omega (arith, next)) (omega (arith, next, room))

    next_at : page % s.blocks.size ≡ used_in is_active_state s.blocks (page / s.blocks.size)
    next_at = ap (λ p. p % s.blocks.size) next ∙ (mod-mul-add s.active s.blocks.size (kept s).used room ∙ ap (used_in is_active_state s.blocks) (sym next_block))

    pub next_up : page % s.blocks.size ≤ used_in is_active_state s.blocks (page / s.blocks.size)
    next_up = let at = next_at in omega (arith, at)

    -- the next page counts as one that is used for a copy
    pub next_filled : page % s.blocks.size < used_in is_target_state s.blocks (page / s.blocks.size)
    next_filled = shut_used is_target_state s.blocks page is.some (ap (λ b. is_target_state (block_at s.blocks b).state) next_block ∙ ap is_target_state (is.taken room))

    module _ (t : Table) (uses : CountsUsedPage is_active_state page s.blocks t) (fills : CountsUsedPage is_target_state page s.blocks t) where
      pub next_used : used_in is_active_state t s.active ≡ (kept s).used + 1
      next_used = ap (used_in is_active_state t) (sym next_block) ∙ (uses.next next_at ∙ ap (λ b. used_in is_active_state s.blocks b + 1) next_block)

      pub next_fill : used_in is_target_state t s.target ≡ (kept s).filled
      next_fill = fills.again next_filled s.target tied.phases.target_in

  module _ (room : (kept s).filled < s.blocks.size) (next : page ≡ (seen (kept s)).copy_next) where
    copy_block : page / s.blocks.size ≡ s.target
    copy_block = block_of page s.blocks.size s.target (omega (arith, next)) (omega (arith, next, room))

    copy_at : page % s.blocks.size ≡ used_in is_target_state s.blocks (page / s.blocks.size)
    copy_at = ap (λ p. p % s.blocks.size) next ∙ (mod-mul-add s.target s.blocks.size (kept s).filled room ∙ ap (used_in is_target_state s.blocks) (sym copy_block))

    pub copy_up : page % s.blocks.size ≤ used_in is_target_state s.blocks (page / s.blocks.size)
    copy_up = let at = copy_at in omega (arith, at)

    -- the next page for a copy counts as one that is used for a new name
    pub copy_used : page % s.blocks.size < used_in is_active_state s.blocks (page / s.blocks.size)
    copy_used = shut_used is_active_state s.blocks page is.some (ap (λ b. is_active_state (block_at s.blocks b).state) copy_block ∙ ap is_active_state (tied.phases.filling room))

    module _ (t : Table) (uses : CountsUsedPage is_active_state page s.blocks t) (fills : CountsUsedPage is_target_state page s.blocks t) where
      pub copy_fill : used_in is_target_state t s.target ≡ (kept s).filled + 1
      copy_fill = ap (used_in is_target_state t) (sym copy_block) ∙ (fills.next copy_at ∙ ap (λ b. used_in is_target_state s.blocks b + 1) copy_block)

      pub copy_keeps : used_in is_active_state t s.active ≡ (kept s).used
      copy_keeps = uses.again copy_used s.active is.active_in
