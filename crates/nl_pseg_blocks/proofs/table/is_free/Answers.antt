use Rattle.std.proofs.Common.{◌≡◌, false, refl, sym, ◌∙◌, ap}
use Rattle.nl_blocks.specs.declared.states.BlockState.{BlockState}
use Rattle.nl_blocks.specs.declared.states.BlockState.TheVariants as the
use Rattle.nl_blocks.specs.Table.{HasBlock, is_free_state}
use Rattle.nl_pseg_blocks.specs.Uses.{Use}
use Rattle.nl_pseg_blocks.proofs.Tables.{use_here}
use Rattle.nl_pseg_blocks.proofs.table.is_free.Goals as goal

not_free : (s : BlockState) → (s ≡ the.Free → ⊥) → false ≡ is_free_state s
not_free the.Free ne = absurd (ne refl)
not_free the.Active ne = refl
not_free the.Target ne = refl
not_free the.Sealed ne = refl
not_free the.Victim ne = refl
not_free (the.Retired names) ne = refl

pub returns-in-Free : goal.returns-in-Free
returns-in-Free c =
    let has : HasBlock c.args.blocks.now c.args.block = record { from = c.requires.from; below = c.requires.below } in
    sym (ap (λ (u : Use). u.is_free) (use_here c.args.blocks.now c.args.block has) ∙ ap is_free_state (sym c.state.ensures ∙ c.in-Free.is))

pub returns-in_default : goal.returns-in_default
returns-in_default c =
    let has : HasBlock c.args.blocks.now c.args.block = record { from = c.requires.from; below = c.requires.below } in
    not_free c.state.result c.in_default.not-Free ∙ sym (ap (λ (u : Use). u.is_free) (use_here c.args.blocks.now c.args.block has) ∙ ap is_free_state (sym c.state.ensures))
