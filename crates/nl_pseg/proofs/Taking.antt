-- The number of used pages between the take of a Free block and the step that writes to it, or gives it back.
use Rattle.std.proofs.Common.{◌≡◌, ⊎_elim, ℕ, ◌≤◌, true, false, Option, Some, None, IfNone, IfSome, is_some, sym, ◌∙◌, ap, arith}
use Rattle.std.proofs.lemmas.Bool.{cases_eq, true≢false}
use Rattle.nl_blocks.specs.Table.{Table, HasBlock, block_at}
use Rattle.nl_blocks.specs.Used.{SameUsed, is_active_state, is_target_state, used_in}
use Rattle.nl_blocks.proofs.UsedLaws.{used-full}
use Rattle.nl_pseg.specs.Kept.{Kept, kept}
use Rattle.nl_pseg.specs.Seen.{IsPhysicalFormed, IsTied}
use Rattle.nl_pseg_blocks.specs.Uses.{Use, use_in, SetsUse, SameFill, SameNumbers}
use Rattle.nl_pseg.specs.declared.state.State.{State}
use Rattle.nl_pseg.proofs.Closed.{as_counted, closed_by, same_counted}
use Rattle.nl_pseg_blocks.proofs.Tables.{has_same, shut_free}
use Rattle.nl_pseg.proofs.Taken.{state_free}

-- what holds of no page
pub none_holds : (x : Option ℕ) (P : Type 0) → IfNone x P → is_some x ≡ false → P
none_holds None P holds none = holds
none_holds (Some page) P holds none = absurd (true≢false none)

-- what holds of a page
pub some_holds : (x : Option ℕ) (P : Type 0) (Q : ℕ → Type 0) → IfSome x (λ page. P × Q page) → is_some x ≡ true → P
some_holds None P Q holds some = absurd (true≢false (sym some))
some_holds (Some page) P Q holds some = holds.0

-- the state before, where the block that is written to is full, with the numbers of the table that is after
abbrev pub taken_by : State → Table → Kept
taken_by s t = record (kept s) { used = t.size; filled = used_in is_target_state t s.target }

-- what a state keeps with another table, where the block for copies was taken
abbrev pub targeted_by : State → Table → Kept
targeted_by s t = record (kept s) { used = used_in is_active_state t s.active; filled = t.size }

module _ (s : State) (is : IsPhysicalFormed (kept s)) (tied : IsTied (kept s)) where
  pub taken_counted : (t : Table) → SameNumbers s.blocks t → s.blocks.size ≤ (kept s).used → ((b : ℕ) → HasBlock s.blocks b → SameUsed is_target_state b s.blocks t) → kept s ≡ taken_by s t
  taken_counted t n full filled = as_counted (kept s) t.size (used_in is_target_state t s.target)
      (let e = n.same_size in let fits = is.used_fits in omega (arith, e, fits, full))
      (filled s.target tied.phases.target_in)

  pub targeted_counted : (t : Table) → SameNumbers s.blocks t → s.blocks.size ≤ (kept s).filled → ((b : ℕ) → HasBlock s.blocks b → SameUsed is_active_state b s.blocks t) → kept s ≡ targeted_by s t
  targeted_counted t n full used = as_counted (kept s) (used_in is_active_state t s.active) t.size
      (used s.active is.active_in)
      (let e = n.same_size in let fits = tied.phases.filled_fits in omega (arith, e, fits, full))

  -- the block is Free again
  module _ (block wear : ℕ) (has : HasBlock s.blocks block) (free : (use_in s.blocks block).is_free ≡ true) (t : Table) (r : SetsUse block true wear s.blocks t) where
    again_fill : SameFill s.blocks t
    again_fill =
        let was = shut_free (block_at s.blocks block).state (state_free s.blocks block has free) in
        let now = shut_free (block_at t block).state (state_free t block (has_same block r.numbers has) (ap (λ (u : Use). u.is_free) r.here)) in
        record {
          used = λ b has_b. ⊎_elim
              (λ e. ap (used_in is_active_state t) e ∙ (used-full is_active_state t block now.active ∙ (r.numbers.same_size ∙ sym (ap (used_in is_active_state s.blocks) e ∙ used-full is_active_state s.blocks block was.active))))
              (λ ne. r.fill.used b has_b ne)
              (cases_eq b block);
          filled = λ b has_b. ⊎_elim
              (λ e. ap (used_in is_target_state t) e ∙ (used-full is_target_state t block now.target ∙ (r.numbers.same_size ∙ sym (ap (used_in is_target_state s.blocks) e ∙ used-full is_target_state s.blocks block was.target))))
              (λ ne. r.fill.filled b has_b ne)
              (cases_eq b block);
        }

    pub again_counted : kept s ≡ closed_by s t
    again_counted = same_counted s is tied t again_fill
